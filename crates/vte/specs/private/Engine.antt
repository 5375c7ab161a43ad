-- What is true of a processor's engine between the parts of a turn.
use Rattle.std.specs.Prelude.{Bool, drop, IfErr, IfOk, length, List, nat_lt, Result, take, ℕ, [], ◌++◌, ◌+◌, ◌<◌, ◌≡◌}
use Rattle.vte.specs.Calls.{last_printed}
use Rattle.vte.specs.declared.ansi.calls.performer.ProcessorState.{ProcessorState}
use Rattle.vte.specs.declared.ansi.updates.engine.Engine.{Engine}
use Rattle.vte.specs.Memory.{KeepsMemory}
use Rattle.vte.specs.private.Hold.{released_of}
use Rattle.vte.specs.Processor.{Meaning, parse, parsing_turn, prefix_to_begin, State, stop, turn}
use Rattle.vte.specs.ProcessorCalls.{IsAt}
use Rattle.vte.specs.ProcessorFacts.{engine_facts, held_of, ProcessorFacts}
use Rattle.vte.specs.Refusal.{TakesTurnsUntilRefused}
use Rattle.vte.specs.Synchronized.{begin_count}
use Rattle.vte.specs.Views.{EngineView}
use Rattle.vte_core.specs.declared.parser.refused.Refused.{Refused}
use Rattle.vte_core.specs.Stream.{added, events}

-- ---- what is true between the parts of a turn

-- The parser, the processor's state and the handler's value are as the state says, whatever is
-- held.
pub record PartsAreAt {P B T V W : Type 0} (view : EngineView P B T W) (parser : P)
    (processor_state : ProcessorState T B) (value : V) (state : State V W) : Type 0 where
  pub has_read : view.parser.has_read parser state.parsed
  pub last : processor_state.last_printed ≡ last_printed (events view.limit state.parsed)
  pub timeout_is : view.timeout_of processor_state.timeout ≡ state.timeout
  pub handler_is : value ≡ state.handler

-- `PartsAreAt`, and there is memory for `count` bytes.
pub record PartsAreAtWithMemory {P B T V W : Type 0} (view : EngineView P B T W) (parser : P)
    (processor_state : ProcessorState T B) (value : V) (state : State V W) (count : ℕ)
    : Type 0 where
  pub parts_at : PartsAreAt view parser processor_state value state
  pub memory : view.parser.has_memory parser (view.text_capacity_of processor_state.text)
      state.parsed count

-- If there are bytes to parse, there is memory for them and `spare` more.
abbrev pub PartsHaveMemory : {P B T V W : Type 0} → EngineView P B T W → P → ProcessorState T B
    → State V W → List ℕ → ℕ → Type 0
PartsHaveMemory view parser processor_state state bytes spare =
    0 < length bytes → view.parser.has_memory parser (view.text_capacity_of processor_state.text)
    state.parsed (length bytes + spare)

-- The parts reach a state: they are at it (`PartsAreAt`), and for all bytes for which there was
-- memory there still is.
pub record PartsReach {P B T V W : Type 0} (view : EngineView P B T W) (parser : P)
    (processor_state : ProcessorState T B) (next : P) (returned : ProcessorState T B)
    (value : V) (state : State V W) : Type 0 where
  pub parts_at : PartsAreAt view next returned value state
  pub keeps_memory : KeepsMemory
      (view.parser.has_memory parser (view.text_capacity_of processor_state.text))
      (view.parser.has_memory next (view.text_capacity_of returned.text))

-- From each state that the parts are at, with memory for `count` bytes and more, a call ends as
-- `ends` says. Its second argument is `IsReached`: of a state, that the parts reach it.
abbrev pub FromEachStateOfParts : {P B T V W : Type 0} → EngineView P B T W
    → P → ProcessorState T B → V → P → ProcessorState T B → V
    → ℕ → (State V W → (State V W → Type 0) → Type 0) → Type 0
FromEachStateOfParts view parser processor_state old next returned new count ends =
    (state : State _ _) (spare : ℕ)
    → PartsAreAtWithMemory view parser processor_state old state (count + spare)
    → ends state (PartsReach view parser processor_state next returned new)

-- If there was memory for bytes and `spare` more, there is memory for these after the bytes.
abbrev pub PartsLeaveMemory : {P B T V W : Type 0} → EngineView P B T W → P → ProcessorState T B → V
    → P → ProcessorState T B → List ℕ → Type 0
PartsLeaveMemory {W} view parser processor_state old next returned bytes =
    (state : State _ W) (spare : ℕ)
    → PartsAreAtWithMemory view parser processor_state old state (length bytes + spare)
    → view.parser.has_memory next (view.text_capacity_of returned.text)
    (state.parsed ++ bytes) spare

-- From each state that the parts are at, the released bytes are parsed, if there is memory for them
-- and `spare` more.
abbrev pub ParsesReleased : {P B T V W : Type 0} → EngineView P B T W → Meaning V W
    → P → ProcessorState T B → V → P → ProcessorState T B → V → List ℕ → Type 0
ParsesReleased view meaning parser processor_state old next returned new released =
    (state : State _ _) (spare : ℕ) → PartsAreAt view parser processor_state old state
    → PartsHaveMemory view parser processor_state state released spare
    → PartsReach view parser processor_state next returned new (parse meaning state released)

-- The engine and the handler's value are as the state says.
abbrev pub EngineIsAt : {P B T A V W : Type 0} → EngineView P B T W → Engine P B T A → V
    → State V W
    → Type 0
EngineIsAt view engine = IsAt (engine_facts view engine)

-- The engine reaches a state: it is at it, and for all bytes for which there was memory there still
-- is.
pub record EngineReaches {T V W : Type 0} (engine next : ProcessorFacts T W) (value : V)
    (state : State V W) : Type 0 where
  pub engine_at : IsAt next value state
  pub keeps_memory : KeepsMemory engine.has_memory next.has_memory

-- From each state that the engine is at, a call ends as `ends` says. Its second argument is
-- `IsReached`: of a state, that the engine reaches it.
abbrev pub FromEachState : {T V W : Type 0} → (engine next : ProcessorFacts T W) → (old new : V)
    → (State V W → (State V W → Type 0) → Type 0) → Type 0
FromEachState engine next old new ends =
    (state : State _ _) → IsAt engine old state → ends state (EngineReaches engine next new)

-- From each state that the parts are at, the update is stopped, if all held bytes were released and
-- there is memory for them and `spare` more.
abbrev pub EndsUpdate : {P B T A V W : Type 0} → EngineView P B T W → Meaning V W
    → (engine next : Engine P B T A) → (old new : V) → Type 0
EndsUpdate view meaning engine next old new =
    (state : State _ _) (spare : ℕ) → PartsAreAt view engine.parser engine.state old state
    → released_of engine.hold ≡ state.held → held_of engine.hold ≡ []
    → PartsHaveMemory view engine.parser engine.state state state.held spare
    → EngineReaches (engine_facts view engine) (engine_facts view next) new (stop meaning state)

-- ---- how a turn ends

module _ {V W : Type 0} (meaning : Meaning V W) (state : State V W) (bytes : List ℕ) where
  -- The first `read` bytes were parsed: those up to the one that begins an update, or all if none
  -- begins.
  pub record HasParsedPrefix (read : ℕ) (begins : Bool) (IsReached : State V W → Type 0)
      : Type 0 where
    pub count : read ≡ length (prefix_to_begin meaning.limit state.parsed bytes)
    pub begins_is : let prefix = prefix_to_begin meaning.limit state.parsed bytes in
        begins ≡ nat_lt 0 (begin_count (added meaning.limit state.parsed prefix))
    pub is_at : IsReached (parse meaning state (prefix_to_begin meaning.limit state.parsed bytes))

  -- One turn has read `read` bytes, and at least one if there were any. It is at the state to which
  -- it leads.
  pub record HasTakenTurn (read : ℕ) (IsReached : State V W → Type 0) : Type 0 where
    pub pending : Bool
    pub allowed : meaning.timeout.allows state.timeout pending
    pub progress : 0 < length bytes → 0 < read
    pub rest : (turn meaning pending state bytes).rest ≡ drop read bytes
    pub is_at : IsReached (turn meaning pending state bytes).state

  -- A parsing turn has read `read` bytes, and at least one if there were any.
  pub record HasTakenParsingTurn (read : ℕ) (IsReached : State V W → Type 0) : Type 0 where
    pub progress : 0 < length bytes → 0 < read
    pub rest : (parsing_turn meaning state bytes).rest ≡ drop read bytes
    pub is_at : IsReached (parsing_turn meaning state bytes).state

  -- A parsing turn has parsed the first `read` bytes, and no update begins in them.
  pub record HasParsedWithoutBegin (read : ℕ) (IsReached : State V W → Type 0) : Type 0 where
    pub none_begin : begin_count (added meaning.limit state.parsed (take read bytes)) ≡ 0
    pub is_at : IsReached (parse meaning state (take read bytes))

  -- A turn that was refused memory has read `read` bytes.
  pub record HasBeenRefused (read : ℕ) (IsReached : State V W → Type 0) : Type 0 where
    pub next : State V W
    pub takes : TakesTurnsUntilRefused meaning state bytes next (drop read bytes)
    pub is_at : IsReached next

  -- How a turn ends, if memory for it may be refused.
  pub record EndsTurn (result : Result ℕ Refused) (IsReached : State V W → Type 0) : Type 0 where
    pub turned : IfOk result (λ read. HasTakenTurn read IsReached)
    pub refused : IfErr result (λ refused. HasBeenRefused refused.read IsReached)

  -- How a parsing turn ends, if memory for it may be refused.
  pub record EndsParsingTurn (result : Result ℕ Refused) (IsReached : State V W → Type 0)
      : Type 0 where
    pub parsed : IfOk result (λ read. HasTakenParsingTurn read IsReached)
    pub refused : IfErr result (λ refused. HasParsedWithoutBegin refused.read IsReached)
