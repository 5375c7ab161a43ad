-- What calls of a processor ensure, in the words of `Processor`: what they tell the handler, where
-- the processor is, what is true after one call and after a list of calls, and then what each
-- function promises.
use Rattle.std.specs.Prelude.{Bool, false, IfOk, length, List, MatchResult, None, Option, Result, ℕ, [], ⊤, ◌++◌, ◌∷◌, ◌≡◌, ◌≤◌}
use Rattle.vte.specs.Calls.{calls}
use Rattle.vte.specs.declared.ansi.laws.replays.Step.{Step}
use Rattle.vte.specs.declared.ansi.laws.replays.Step.TheVariants.{Advance, StopSync}
use Rattle.vte.specs.Memory.{KeepsMemory}
use Rattle.vte.specs.Processor.{all_bytes, AreInOrder, calls_with_stops, given_bytes, HoldInvariant, HoldInvariantAt, max_held, Meaning, State, stop, TakesAllTurns, TakesSteps}
use Rattle.vte.specs.ProcessorFacts.{ContinuesAs, ProcessorFacts}
use Rattle.vte.specs.Synchronized.{after_last_end}
use Rattle.vte_core.specs.Outcome.{SaysLoss}
use Rattle.vte_core.specs.Stream.{events, outcome}
use Rattle.vte_handler.specs.Handler.{after}
use Rattle.vte_handler.specs.Timeout.{AllowsOnly, IsSteady, TimeoutMeaning}

-- ---- what calls tell the handler

-- Calls that pass these bytes led from a state to another: what became of the bytes, and what the
-- handler received.
pub record HasDelivered {V W : Type 0} (meaning : Meaning V W) (state : State V W) (bytes : List ℕ)
    (next : State V W) : Type 0 where
  -- The bytes parsed on the way, and the positions of stops on the way.
  pub more : List ℕ
  pub positions : List ℕ
  pub parsed_is : next.parsed ≡ state.parsed ++ more
  pub stops_are : next.stops ≡ state.stops ++ positions
  -- The stops were at bytes parsed on the way, each at or after the one before it.
  pub in_order : AreInOrder (length state.parsed) positions (length next.parsed)
  -- The bytes held before and those given are those parsed on the way and those held now, each once
  -- and in order.
  pub each_once : state.held ++ bytes ≡ more ++ next.held
  -- The handler has received the calls of the bytes parsed on the way, and one more at each stop.
  pub handler_is : next.handler
      ≡ after meaning.step state.handler
      (calls_with_stops meaning.limit next.parsed (length state.parsed) positions)

-- ---- where a processor is

-- Where the processor is, and the handler's value, are as the state says.
pub record IsAt {T V W : Type 0} (processor : ProcessorFacts T W) (value : V)
    (state : State V W) : Type 0 where
  pub processor_is : processor.has_parsed_and_holds state.parsed state.held state.timeout
  pub handler_is : value ≡ state.handler

-- ---- what is true after calls

-- A call of `advance`. `IsReached` says of a state that the processor and the handler's value are
-- at it after the call, as `IsAt` does.
pub record HasAdvanced {V W : Type 0} (meaning : Meaning V W) (state : State V W) (bytes : List ℕ)
    (IsReached : State V W → Type 0) : Type 0 where
  -- The state to which it led.
  pub next : State V W
  -- It led there by turns.
  pub advances : TakesAllTurns meaning state bytes next
  -- Each given byte is parsed or held, once and in order.
  pub each_once : all_bytes next ≡ all_bytes state ++ bytes
  -- `HoldInvariant` stays true.
  pub hold_invariant : HoldInvariantAt meaning state → HoldInvariantAt meaning next
  -- Processor and handler are at that state.
  pub is_at : IsReached next

-- A list of calls.
pub record HasReplayed {V W : Type 0} (meaning : Meaning V W) (state : State V W)
    (steps : List Step)
    (IsReached : State V W → Type 0) : Type 0 where
  -- The state to which they led.
  pub next : State V W
  -- They led there step by step.
  pub takes : TakesSteps meaning state steps next
  -- Each byte was parsed or is held, and the handler received the calls.
  pub delivers : HasDelivered meaning state (given_bytes steps) next
  -- `HoldInvariant` stays true.
  pub hold_invariant : HoldInvariantAt meaning state → HoldInvariantAt meaning next
  -- If the timeout is steady, the calls lead to no other state.
  pub unique_state : IsSteady meaning.timeout → HoldInvariantAt meaning state → (other : State V W)
      → TakesSteps meaning state steps other
      → other ≡ next
  -- Processor and handler are at that state.
  pub is_at : IsReached next

-- No value of the timeout allows the answer "pending".
abbrev pub IsNeverPending : {W : Type 0} → (W → Bool → Type 0) → Type 0
IsNeverPending {W} allows = (value : W) (pending : Bool) → allows value pending → pending ≡ false

-- The whole stream was parsed, and nothing is held.
pub record HasParsedAll {T W : Type 0} (processor : ProcessorFacts T W) (stream : List ℕ)
    : Type 0 where
  pub timeout : W
  pub processor_is : processor.has_parsed_and_holds stream [] timeout

-- All steps are calls of `advance`.
abbrev pub AreAdvances : List Step → Type 0
AreAdvances [] = ⊤
AreAdvances (Advance bytes ∷ steps) = AreAdvances steps
AreAdvances (StopSync ∷ steps) = ⊥

-- Calls that pass these bytes, while nothing is held, parse all bytes. They led from `processor` to
-- `next`, and the handler's value from `old` to `new`.
pub record ParsesAll {T V W : Type 0} (meaning : Meaning V W) (processor next : ProcessorFacts T W)
    (old new : V) (bytes : List ℕ) : Type 0 where
  -- If the handler was as after the calls of the stream, from the value `start` on, it is as after
  -- those of both. For a new processor take the value before the call as `start`.
  pub follows : (start : V) (stream : List ℕ) → HasParsedAll processor stream
      → old ≡ after meaning.step start (calls (events meaning.limit stream))
      → new ≡ after meaning.step start (calls (events meaning.limit (stream ++ bytes)))
  pub parses_all : (stream : List ℕ) → HasParsedAll processor stream
      → HasParsedAll next (stream ++ bytes)

-- ---- what each function promises

-- `new`: a processor that has read nothing, or the timeout if memory runs out.
pub record Creates {P T W : Type 0} (limit : Option ℕ) (meaning : TimeoutMeaning W)
    (timeout_of : T → W) (facts_of : P → ProcessorFacts T W) (given : T)
    (result : Result P T) : Type 0 where
  pub created : MatchResult result
      (λ created. (facts_of created).has_parsed_and_holds [] [] (timeout_of given))
      (λ back. back ≡ given)
  pub hold_invariant : (IsSteady meaning → AllowsOnly meaning (timeout_of given) false)
      → HoldInvariant limit meaning [] [] (timeout_of given)
  pub timeout : IfOk result (λ created. (facts_of created).timeout ≡ given)
  pub parses_all : IfOk result (λ created. HasParsedAll (facts_of created) [])

-- `clone`: the clone is where the processor is, if the clone of the timeout has its value.
pub record IsCloneOfProcessor {T W : Type 0} (is_clone : T → T → Type 0) (timeout_of : T → W)
    (processor clone : ProcessorFacts T W) : Type 0 where
  pub timeout_is : is_clone processor.timeout clone.timeout
  pub continues : timeout_of clone.timeout ≡ timeout_of processor.timeout
      → ContinuesAs processor clone
  -- `command_lost_data` of the clone answers as that of the processor.
  pub lost : clone.lost ≡ processor.lost
  pub keeps_memory : KeepsMemory processor.has_memory clone.has_memory

-- `sync_bytes_count` returns how many bytes are held.
pub record CountsHeld (held : List ℕ) (result : ℕ) : Type 0 where
  pub count : result ≡ length held
  pub fits : result ≤ max_held
  pub no_end : after_last_end held ≡ None

-- `command_lost_data`: of the command that is open after the parsed bytes.
abbrev pub SaysParsedLoss : {T W : Type 0} → (limit : Option ℕ) → ProcessorFacts T W
    → (answer : Bool) → Type 0
SaysParsedLoss {W} limit processor answer = (parsed held : List ℕ) (timeout : W)
    → processor.has_parsed_and_holds parsed held timeout
    → SaysLoss (outcome limit parsed).to_close answer

-- Calls led from `processor` to `next`, and the handler's value from `old` to `new`.
module _ {T V W : Type 0} (meaning : Meaning V W) (processor next : ProcessorFacts T W)
    (old new : V) where
  -- `stop_sync` and `stop_sync_text` lead to the stopped state.
  pub record StopsSync : Type 0 where
    pub stops : (state : State V W) → IsAt processor old state → IsAt next new (stop meaning state)
    -- Each byte is parsed or held, once and in order.
    pub each_once : (state : State V W) → all_bytes (stop meaning state) ≡ all_bytes state
    pub hold_invariant : (state : State V W) → HoldInvariantAt meaning (stop meaning state)
    pub keeps_memory : (state : State V W) → IsAt processor old state
        → KeepsMemory processor.has_memory next.has_memory

  -- `advance` and `advance_text`, which read all bytes.
  pub record AdvancesInTurns (bytes : List ℕ) : Type 0 where
    pub advances : (state : State V W) → IsAt processor old state
        → HasAdvanced meaning state bytes (IsAt next new)
    -- With a timeout that is never pending, all bytes are parsed if nothing was held.
    pub if_never_pending : IsNeverPending meaning.timeout.allows
        → ParsesAll meaning processor next old new bytes

  -- `replay` takes the steps.
  pub record Replays (steps : List Step) : Type 0 where
    pub replays : (state : State V W) → IsAt processor old state
        → HasReplayed meaning state steps (IsAt next new)
    -- The same of calls of `advance` alone.
    pub if_never_pending : IsNeverPending meaning.timeout.allows → AreAdvances steps
        → ParsesAll meaning processor next old new (given_bytes steps)
