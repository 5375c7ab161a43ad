-- The views of an engine's parts, from which its facts are made: with a limit and without. Of the
-- types, `P` is the parser, `B` its buffer for texts, `T` the timeout, and `W` the timeout's value.
use Rattle.std.specs.Prelude.{Bool, List, Option, Some, ℕ}
use Rattle.vte.specs.Memory.{HasTextMemory, ParserHasMemory}
use Rattle.vte_core.specs.declared.parser.long_parser.LongParser.{LongParser}
use Rattle.vte_core.specs.declared.parser.Parser.{Parser}
use Rattle.vte_core.specs.LongParser.{HasReadLong, lost_data_long}
use Rattle.vte_core.specs.Parser.{HasRead, lost_data}

-- A parser: the streams that it has read, for how many more bytes it has memory after each, with a
-- text of `size` bytes, and whether it lost data of the command that is open or ended last.
pub record ParserView (P : Type 0) : Type 1 where
  pub has_read : P → List ℕ → Type 0
  pub has_memory : P → (size : ℕ) → List ℕ → ℕ → Type 0
  pub lost : P → Bool

-- With a limit it needs memory only for a text of a fixed size, which holds what is joined.
abbrev pub limited_parser_view : {N : ℕ} → ParserView (Parser N)
limited_parser_view {N} = record {
  has_read = HasRead;
  has_memory = λ parser size stream count. HasTextMemory N size;
  lost = lost_data;
}

-- Without a limit it also needs memory for the data of an open command.
abbrev pub long_parser_view : {A : Type 0} → ParserView (LongParser A)
long_parser_view =
    record { has_read = HasReadLong; has_memory = ParserHasMemory; lost = lost_data_long }

-- The parser, with its limit, the buffer for texts and the timeout.
pub record EngineView (P B T W : Type 0) : Type 1 where
  pub limit : Option ℕ
  pub parser : ParserView P
  pub text_capacity_of : B → ℕ
  pub timeout_of : T → W

-- The view of an engine, from that of each part.
abbrev pub engine_view : {P B T W : Type 0} → Option ℕ → ParserView P → (B → ℕ) → (T → W)
    → EngineView P B T W
engine_view limit parser text_capacity_of timeout_of = record {
  limit = limit;
  parser = parser;
  text_capacity_of = text_capacity_of;
  timeout_of = timeout_of;
}

-- The limit of the engine is that of its parser.
abbrev pub limited_engine_view : {N : ℕ} {B T W : Type 0} → (B → ℕ) → (T → W)
    → EngineView (Parser N) B T W
limited_engine_view {N} = engine_view (Some N) limited_parser_view
