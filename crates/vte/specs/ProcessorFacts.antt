-- The facts of a processor at one moment, by which contracts speak of it: one record for all kinds,
-- made of the engine that each of them has.
use Rattle.std.specs.Prelude.{Bool, drop, length, List, None, ℕ, ⊤, ◌<◌, ◌≡◌}
use Rattle.vte.specs.Calls.{last_printed}
use Rattle.vte.specs.declared.ansi.bounded_processor.BoundedProcessor.{BoundedProcessor}
use Rattle.vte.specs.declared.ansi.calls.growing_text.GrowingText.{GrowingText}
use Rattle.vte.specs.declared.ansi.calls.joined_text.TheConstants.{TEXT_CAPACITY}
use Rattle.vte.specs.declared.ansi.long_processor.LongProcessor.{LongProcessor}
use Rattle.vte.specs.declared.ansi.processor.Processor.{Processor}
use Rattle.vte.specs.declared.ansi.updates.engine.Engine.{Engine}
use Rattle.vte.specs.declared.ansi.updates.hold.SyncState.{SyncState}
use Rattle.vte.specs.Memory.{HasTextMemory}
use Rattle.vte.specs.Views.{engine_view, EngineView, limited_engine_view, long_parser_view}
use Rattle.vte_core.specs.Stream.{events}

-- The facts of a processor of any kind. `T` is the type of its timeout, and `W` that of the
-- timeout's value.
pub record ProcessorFacts (T W : Type 0) : Type 1 where
  -- It has parsed bytes, and holds those that follow. The timeout has this value.
  pub has_parsed_and_holds : (parsed held : List ℕ) → (timeout : W) → Type 0
  pub held : List ℕ
  pub timeout : T
  -- Whether data were lost of the operating system command that is open, or else ended last.
  pub lost : Bool
  -- Its parser has read the stream.
  pub has_read : (stream : List ℕ) → Type 0
  -- After the stream, it can parse `count` more bytes and is refused no memory. With a limit that
  -- doesn't depend on stream and count, and is always true of a `Processor`.
  pub has_memory : (stream : List ℕ) → (count : ℕ) → Type 0

-- Whatever `processor` has parsed and holds, `other` has parsed and holds too.
abbrev pub ContinuesAs : {T W : Type 0} → (processor other : ProcessorFacts T W) → Type 0
ContinuesAs {W} processor other = (parsed held : List ℕ) (timeout : W)
    → processor.has_parsed_and_holds parsed held timeout
    → other.has_parsed_and_holds parsed held timeout

-- ---- made of an engine

-- The held bytes. Those before them in the buffer were released by the last turn.
abbrev pub held_of : {A : Type 0} → SyncState A → List ℕ
held_of hold = drop hold.released hold.bytes.items

-- The engine has parsed bytes, and holds those that follow. It knows the last printed character,
-- and has the memory that its kind has at any time. To callers only two fields matter: what
-- `sync_timeout` and `sync_bytes_count` tell is of this timeout and these held bytes.
pub record HasParsedAndHolds {P B T A W : Type 0} (view : EngineView P B T W)
    (engine : Engine P B T A) (HasMemory : (parsed held : List ℕ) → Type 0)
    (parsed held : List ℕ) (timeout : W) : Type 0 where
  pub has_read : view.parser.has_read engine.parser parsed
  pub last : engine.state.last_printed ≡ last_printed (events view.limit parsed)
  pub timeout_is : view.timeout_of engine.state.timeout ≡ timeout
  pub holds : held_of engine.hold ≡ held
  pub has_memory : HasMemory parsed held

-- The facts of an engine, with the memory that its kind has at any time.
abbrev pub engine_facts_with : {P B T A W : Type 0} → EngineView P B T W → Engine P B T A
    → (HasMemory : (parsed held : List ℕ) → Type 0) → ProcessorFacts T W
engine_facts_with view engine HasMemory = record {
  has_parsed_and_holds = HasParsedAndHolds view engine HasMemory;
  held = held_of engine.hold;
  timeout = engine.state.timeout;
  lost = view.parser.lost engine.parser;
  has_read = view.parser.has_read engine.parser;
  has_memory = view.parser.has_memory engine.parser (view.text_capacity_of engine.state.text);
}

-- Any engine has memory to parse the bytes that it holds.
abbrev pub engine_facts : {P B T A W : Type 0} → EngineView P B T W → Engine P B T A
    → ProcessorFacts T W
engine_facts view engine = engine_facts_with view engine (λ parsed held. 0 < length held
    → view.parser.has_memory engine.parser (view.text_capacity_of engine.state.text) parsed
    (length held))

-- ---- of each kind

-- The size of a text buffer that grows, in bytes.
abbrev pub text_size_of : {A : Type 0} → GrowingText A → ℕ
text_size_of text = text.size

-- Its text buffer has a fixed size, which is enough for any command.
abbrev pub processor_facts : {T A W : Type 0} → (T → W) → Processor T A → ProcessorFacts T W
processor_facts timeout_of processor =
    engine_facts_with (limited_engine_view (λ text. TEXT_CAPACITY) timeout_of) processor.engine
    (λ parsed held. ⊤)

-- It has the memory for a text that is joined from all data of a command.
abbrev pub bounded_facts : {T A W : Type 0} {N : ℕ} → (T → W) → BoundedProcessor T A N
    → ProcessorFacts T W
bounded_facts {N} timeout_of processor =
    engine_facts_with (limited_engine_view text_size_of timeout_of) processor.engine
    (λ parsed held. HasTextMemory N (text_size_of processor.engine.state.text))

-- It has no limit, and its memory grows with the data of a command.
abbrev pub long_facts : {T A W : Type 0} → (T → W) → LongProcessor T A → ProcessorFacts T W
long_facts timeout_of processor =
    engine_facts (engine_view None long_parser_view text_size_of timeout_of)
    processor.engine
