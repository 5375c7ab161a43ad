-- What a turn, a call and a list of calls have done when memory is refused, which happens only to a
-- `LongProcessor`: some whole turns and, if the refusal came inside a turn, a part of that one.
use Rattle.std.specs.Prelude.{Bool, drop, length, List, take, ℕ, ◌++◌, ◌-◌, ◌<◌, ◌∷◌, ◌≡◌}
use Rattle.vte.specs.declared.ansi.laws.replays.RefusedStep.{RefusedStep}
use Rattle.vte.specs.declared.ansi.laws.replays.Step.{Step}
use Rattle.vte.specs.declared.ansi.laws.replays.Step.TheVariants.{Advance}
use Rattle.vte.specs.Processor.{all_bytes, ExpiredTurn, FullTurn, given_bytes, HoldInvariantAt, HoldTurn, Meaning, parse, ParsingTurn, State, stop, TakesTurns, turn_kind_of, TurnKind}
use Rattle.vte.specs.ProcessorCalls.{HasReplayed}
use Rattle.vte.specs.Synchronized.{begin_count}
use Rattle.vte_core.specs.Stream.{added}

module _ {V W : Type 0} (meaning : Meaning V W) where
  -- A parsing turn was refused memory: it has parsed the first of its bytes, none of which begins
  -- an update, and left the others.
  pub record ParsingTurnIsRefused (state : State V W) (bytes : List ℕ) (next : State V W)
      (left : List ℕ) : Type 0 where
    -- The bytes parsed.
    pub prefix : List ℕ
    pub bytes_are : prefix ++ left ≡ bytes
    pub some_left : 0 < length left
    pub none_begin : begin_count (added meaning.limit state.parsed prefix) ≡ 0
    pub state_is : next ≡ parse meaning state prefix

  -- A turn of this kind was refused memory: never a hold turn, which reads nothing until it has
  -- all the memory that it needs.
  abbrev pub TurnOfKindIsRefused : TurnKind → State V W → List ℕ → State V W → List ℕ → Type 0
  TurnOfKindIsRefused ParsingTurn state bytes next left = ParsingTurnIsRefused state bytes next left
  TurnOfKindIsRefused ExpiredTurn state bytes next left =
      ParsingTurnIsRefused (stop meaning state) bytes next left
  TurnOfKindIsRefused HoldTurn state bytes next left = ⊥
  TurnOfKindIsRefused FullTurn state bytes next left =
      ParsingTurnIsRefused (stop meaning state) bytes next left

  -- A turn was refused memory, after this answer of the timeout.
  abbrev pub TurnIsRefused : Bool → State V W → List ℕ → State V W → List ℕ → Type 0
  TurnIsRefused pending state bytes =
      TurnOfKindIsRefused (turn_kind_of pending (length state.held) (length bytes)) state bytes

  -- The turns of a call up to a refusal, before a turn or inside one.
  pub data TakesTurnsUntilRefused (state : State V W) (bytes : List ℕ) (next : State V W)
      (left : List ℕ) : Type 0 where
    between_turns : TakesTurns meaning state bytes next left
        → TakesTurnsUntilRefused state bytes next left
    inside_turn : {reached : State V W} {rest : List ℕ}
        → TakesTurns meaning state bytes reached rest
        → (pending : Bool) → meaning.timeout.allows reached.timeout pending
        → TurnIsRefused pending reached rest next left
        → TakesTurnsUntilRefused state bytes next left

  -- A call that may have been refused memory has read `read` of its bytes. `IsReached` is as in
  -- `HasAdvanced`.
  pub record HasAdvancedPart (state : State V W) (bytes : List ℕ) (read : ℕ)
      (IsReached : State V W → Type 0) : Type 0 where
    -- The state to which it led.
    pub next : State V W
    -- It led there by turns, of which the last may have been refused memory.
    pub takes : TakesTurnsUntilRefused state bytes next (drop read bytes)
    -- Each byte read is parsed or held, once and in order.
    pub each_once : all_bytes next ≡ all_bytes state ++ take read bytes
    -- `HoldInvariant` stays true.
    pub hold_invariant : HoldInvariantAt meaning state → HoldInvariantAt meaning next
    -- Processor and handler are at that state.
    pub is_at : IsReached next

  -- The first of these steps, an `Advance`, was refused memory after `read` of its bytes.
  abbrev pub IsFirstRefused : State V W → List Step → ℕ → (State V W → Type 0) → Type 0
  IsFirstRefused state (Advance bytes ∷ steps) read IsReached =
      (read < length bytes.now) × HasAdvancedPart state bytes.now read IsReached
  IsFirstRefused state _ read IsReached = ⊥

  -- The steps before the refused one were taken, and led to a state at which it was refused.
  abbrev pub HasReplayedUntil : State V W → List Step → RefusedStep → (State V W → Type 0) → Type 0
  HasReplayedUntil state steps refused IsReached =
      HasReplayed meaning state (take refused.index steps)
      (λ next. IsFirstRefused next (drop refused.index steps) refused.read IsReached)

-- How many bytes of the refused one of these steps are left.
abbrev pub left_by : List Step → RefusedStep → ℕ
left_by steps refused = length (given_bytes (take 1 (drop refused.index steps))) - refused.read
