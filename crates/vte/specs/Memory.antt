-- The memory of processors: for how many bytes they have enough.
use Rattle.std.specs.Prelude.{List, ℕ, ◌+◌, ◌<◌, ◌^◌, ◌≤◌}
use Rattle.vte.specs.declared.ansi.calls.joined_text.TheConstants.{SEPARATORS}
use Rattle.vte_core.specs.declared.parser.long_parser.LongParser.{LongParser}
use Rattle.vte_core.specs.LongParser.{memory_of, open_command_size}

-- A text that is joined from this many bytes, with separators, fits a buffer of `size` bytes.
pub record HasTextMemory (limit size : ℕ) : Type 0 where
  pub joined : limit + SEPARATORS ≤ size
  -- The size of the text is a number of 64 bits.
  pub counted : limit + SEPARATORS < 2 ^ 64

-- After the stream, there is memory for `count` more bytes, even if all are data of a command: the
-- parser can store them after those of the open command, and a text that is joined from all fits a
-- buffer of `size` bytes. With 100 bytes of an open command, 50 more need memory for 150, and a
-- text of 166: 16 for separators.
pub record ParserHasMemory {A : Type 0} (parser : LongParser A) (size : ℕ) (stream : List ℕ)
    (count : ℕ) : Type 0 where
  pub kept : open_command_size stream + count ≤ memory_of parser
  pub joined : open_command_size stream + count + SEPARATORS ≤ size
  -- The size of the text is a number of 64 bits.
  pub counted : open_command_size stream + count + SEPARATORS < 2 ^ 64

-- Memory that was there (`had`) is still there (`has`), so that later calls can use what was
-- reserved.
abbrev pub KeepsMemory : (had has : List ℕ → ℕ → Type 0) → Type 0
KeepsMemory had has = (stream : List ℕ) (count : ℕ) → had stream count → has stream count
