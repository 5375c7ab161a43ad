-- The contracts of the processors, from what their engine ensures. That of a `LongProcessor` is its engine's. With a
-- limit no memory is refused, since the memory for texts is there at any time.
use Rattle.vte.proofs.Common.{AdvancesInTurns, AdvancesLong, AdvancesUntilRefused, ap, arith, Bor, counts_data, drop, Engine, engine_facts, engine_facts_with, EngineView, Err, HasAdvanced, HasAdvancedPart, HasParsedAndHolds, HasTextMemory, IsAt, length, length-append, length-drop, limited_engine_view, List, long_facts, Meaning, Ok, ParserHasMemory, ProcessorFacts, ProcessorLacksMemory, refl, Refused, Result, State, StopsSync, ℕ, [], ◌++◌, ◌+◌, ◌-◌, ◌<◌, ◌≡◌}
use Rattle.vte.proofs.lemmas.replays.WithoutUpdates.{plain_call}
use Rattle.vte.proofs.lemmas.turns.EngineTurns.{advanced_part-to, has_advanced}
use Rattle.vte.proofs.lemmas.turns.RefusedTurns.{progresses-until_refused}
use Rattle.vte.specs.declared.ansi.calls.joined_text.TheConstants.{TEXT_CAPACITY}
use Rattle.vte.specs.declared.ansi.long_processor.LongProcessor.{LongProcessor}
use Rattle.vte_core.specs.declared.parser.Parser.{Parser}

-- What a call of any processor ensures if it has read all its bytes.
module _ {T V W : Type 0} {meaning : Meaning V W} {processor next : ProcessorFacts T W} {old new : V}
    (bytes : Bor (List ℕ)) {read : ℕ}
    (takes : (state : State V W) → IsAt processor old state
    → HasAdvancedPart meaning state bytes.now read (IsAt next new))
    (all_read : read ≡ length bytes.now) where
  reads-advances : (state : State V W) → IsAt processor old state
      → HasAdvanced meaning state bytes.now (IsAt next new)
  reads-advances state is_at = has_advanced meaning state bytes.now (takes state is_at) (omega (arith, all_read))

  advances_in_turns : AdvancesInTurns meaning processor next old new bytes.now
  advances_in_turns = record { advances = reads-advances; if_never_pending = plain_call meaning bytes reads-advances }

-- ---- with a limit

-- Where an engine is doesn't depend on what else is known of its memory.
module _ {P B T A W : Type 0} {view : EngineView P B T W} {engine : Engine P B T A}
    {Had Has : List ℕ → List ℕ → Type 0} where
  pub with_memory : {parsed held : List ℕ} {timeout : W} → Has parsed held
      → HasParsedAndHolds view engine Had parsed held timeout → HasParsedAndHolds view engine Has parsed held timeout
  with_memory memory agrees = record {
    has_read = agrees.has_read;
    last = agrees.last;
    timeout_is = agrees.timeout_is;
    holds = agrees.holds;
    has_memory = memory;
  }

  is_at-with_memory : {V : Type 0} {value : V} {state : State V W} → Has state.parsed state.held
      → IsAt (engine_facts_with view engine Had) value state → IsAt (engine_facts_with view engine Has) value state
  is_at-with_memory memory is_at =
      record { processor_is = with_memory memory is_at.processor_is; handler_is = is_at.handler_is }

-- A `Processor` always has the memory for texts.
pub has_text_memory : HasTextMemory 1024 TEXT_CAPACITY
has_text_memory = omega arith

-- An engine with a limit, and what is known at any time of its memory.
module _ {N : ℕ} {B T A W : Type 0} (size_of : B → ℕ) (timeout_of : T → W) (engine : Engine (Parser N) B T A) where
  -- As of any engine: if bytes are held, there is memory to parse them.
  abbrev limited_facts : ProcessorFacts T W
  limited_facts = engine_facts (limited_engine_view size_of timeout_of) engine

  -- As of a processor: this memory is there at any time.
  abbrev limited_facts_with : (Memory : Type 0) → ProcessorFacts T W
  limited_facts_with Memory = engine_facts_with (limited_engine_view size_of timeout_of) engine (λ parsed held. Memory)

-- If there is memory for texts, the engine is where they are.
is_at-limited : {N : ℕ} {B T A V W : Type 0} {size_of : B → ℕ} {timeout_of : T → W} {engine : Engine (Parser N) B T A}
    {Memory : Type 0} {value : V} {state : State V W} → (Memory → HasTextMemory N (size_of engine.state.text))
    → IsAt (limited_facts_with size_of timeout_of engine Memory) value state
    → IsAt (limited_facts size_of timeout_of engine) value state
is_at-limited has is_at = is_at-with_memory (λ some_held. has is_at.processor_is.has_memory) is_at

-- What is known before a call (`Had`) is that there is memory for texts. So there is after it, which gives what is
-- known then (`Has`).
module _ {N : ℕ} {B T A V W : Type 0} {size_of : B → ℕ} {timeout_of : T → W} {meaning : Meaning V W}
    {engine next : Engine (Parser N) B T A} {Had Has : Type 0} {old new : V}
    (had : Had → HasTextMemory N (size_of engine.state.text))
    (has : HasTextMemory N (size_of next.state.text) → Has) where
  -- An engine's stop is its processor's, and memory for texts stays.
  pub stops_within : StopsSync meaning (limited_facts size_of timeout_of engine)
      (limited_facts size_of timeout_of next) old new
      → StopsSync meaning (limited_facts_with size_of timeout_of engine Had)
      (limited_facts_with size_of timeout_of next Has) old new
  stops_within stops = record {
    stops = λ state is_at.
        let memory = stops.keeps_memory state (is_at-limited had is_at) [] 0 (had is_at.processor_is.has_memory) in
        is_at-with_memory (has memory) (stops.stops state (is_at-limited had is_at));
    each_once = stops.each_once;
    hold_invariant = stops.hold_invariant;
    keeps_memory = λ state is_at. stops.keeps_memory state (is_at-limited had is_at);
  }

  -- With memory for texts, a parser with a limit is refused none, so all bytes are read.
  pub refused-never : (bytes : Bor (List ℕ)) (result : Result (Unit {0}) Refused)
      → AdvancesUntilRefused meaning (limited_facts size_of timeout_of engine)
      (limited_facts size_of timeout_of next) old new bytes.now result
      → AdvancesInTurns meaning (limited_facts_with size_of timeout_of engine Had)
      (limited_facts_with size_of timeout_of next Has) old new bytes.now
  refused-never bytes (Ok _) reads =
      advances_in_turns bytes (λ state is_at. (
      let memory = reads.keeps_memory state (is_at-limited had is_at) [] 0 (had is_at.processor_is.has_memory) in
      advanced_part-to (λ reached. is_at-with_memory (has memory)) (reads.takes state (is_at-limited had is_at)))) refl
  refused-never bytes (Err refused) reads =
      advances_in_turns bytes {read = length bytes.now} (λ state is_at. absurd (
      let taken = reads.takes state (is_at-limited had is_at) in
      reads.lacks_memory.lacks_memory taken.next.parsed taken.is_at.processor_is.has_read
      (reads.keeps_memory state (is_at-limited had is_at) [] 0 (had is_at.processor_is.has_memory)))) refl

-- ---- without a limit

-- A call is refused no memory that was there for all its bytes: enough for the held and the given bytes at the start
-- leaves enough for what is left, turn by turn.

module _ {T A V W : Type 0} {timeout_of : T → W} {meaning : Meaning V W} {new : LongProcessor T A} {value : V}
    {state : State V W} {bytes : List ℕ} where
  had_memory : (read : ℕ) → read < length bytes
      → HasAdvancedPart meaning state bytes read (IsAt (long_facts timeout_of new) value)
      → ProcessorLacksMemory (long_facts timeout_of new) (length bytes - read)
      → ParserHasMemory new.engine.parser new.engine.state.text.size state.parsed
      (length state.held + length bytes) → ⊥
  had_memory read bytes_left taken lacks had =
      let next = taken.next in
      let progress = progresses-until_refused meaning taken.takes in
      let counts = counts_data state.parsed progress.more in
      let left = rw (← progress.parsed_is) at counts.left in
      let sum : length progress.more + length next.held ≡ length state.held + read =
      omega (
        arith,
        bytes_left,
        ap length progress.each_once,
        length-append state.held bytes,
        length-append progress.more
            (next.held ++ drop read bytes),
        length-append next.held (drop read bytes),
        length-drop read bytes,
      ) in
      let held = ap length taken.is_at.processor_is.holds in
      lacks.lacks_memory next.parsed taken.is_at.processor_is.has_read (record {
        kept = omega (arith, left, had.kept, lacks.within, bytes_left, sum, held);
        joined = omega (arith, left, had.joined, lacks.within, bytes_left, sum, held);
        counted = omega (arith, left, had.counted, lacks.within, bytes_left, sum, held);
      })

module _ {T A V W : Type 0} {timeout_of : T → W} {meaning : Meaning V W} {processor next : LongProcessor T A}
    {old new : V} (bytes : Bor (List ℕ)) where
  -- A call without a limit is refused no memory that was there, and otherwise reads all bytes.
  pub advances_long : (result : Result (Unit {0}) Refused)
      → AdvancesUntilRefused meaning (long_facts timeout_of processor) (long_facts timeout_of next)
      old new bytes.now result
      → AdvancesLong meaning (long_facts timeout_of processor) (long_facts timeout_of next) old new
      bytes.now result
  advances_long (Ok _) reads = record {
    until_refused = reads;
    reads_all = advances_in_turns bytes reads.takes refl;
    not_refused = λ state is_at had. refl;
  }
  advances_long (Err refused) reads = record {
    until_refused = reads;
    reads_all = tt;
    not_refused = λ state is_at had.
        absurd
        (had_memory refused.read reads.within (reads.takes state is_at) reads.lacks_memory
        (reads.keeps_memory state is_at _ _ had));
  }
