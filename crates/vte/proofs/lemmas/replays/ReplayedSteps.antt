-- A list of calls, made call by call (`advance_taken`, `stop_taken`): a loop over calls makes `TakesSteps`, and the
-- handler has received their calls. A steady timeout allows one answer in each state, so where the list leads is then a
-- function of its calls (`replay-only_one`).
use Rattle.vte.proofs.Common.{Advance, ap, append-nil, append_assoc, append_cancel_right, arith, Bool, Bor, done, drop, drop_more, get_or, given_bytes, HasAdvanced, HasAdvancedPart, HasDelivered, HasReplayed, HoldInvariantAt, IsSteady, length, List, Meaning, refl, rules, State, Step, stop, StopSync, sym, take, take-append-drop, take_more, TakesAllTurns, TakesSteps, TakesTurnsUntilRefused, turns, ℕ, [], ◌++◌, ◌+◌, ◌-◌, ◌<◌, ◌∙◌, ◌∷◌, ◌≡◌}
use Rattle.vte.proofs.lemmas.replays.ReceivedCalls.{delivers-refused, delivers-replay, HasStillToDeliver}
use Rattle.vte.proofs.lemmas.turns.EachOnce.{progresses-before, progresses-replay, progresses-then}
use Rattle.vte.proofs.lemmas.turns.HoldFacts.{stop-invariant, turn-invariant, turns-invariant}
use Rattle.vte.proofs.lemmas.turns.RefusedTurns.{progresses-until_refused}
use Rattle.vte.specs.Refusal.{IsFirstRefused}

-- The refused step is the first of those that are left.
pub first_lacks : {i : ℕ} {bytes : Bor (List ℕ)} (lacks : ℕ → Type 0) (steps : List Step) (missing : Step) (read : ℕ)
    → i < length steps → get_or steps i missing ≡ Advance bytes
    → lacks (length bytes.now - read) → lacks (length (given_bytes (take 1 (drop i steps))) - read)
first_lacks {i} {bytes} lacks steps missing read inside step_is lacking =
    rw (drop_more steps i missing inside, step_is, append-nil bytes.now) lacking

-- ---- for a timeout that is steady, a list of calls leads to one state

module _ {V W : Type 0} (meaning : Meaning V W) (steady : IsSteady meaning.timeout) where
  answers-only_one : (state : State V W) (answer other : Bool) → HoldInvariantAt meaning state
      → meaning.timeout.allows state.timeout answer
      → meaning.timeout.allows state.timeout other → answer ≡ other
  answers-only_one state answer other hold_invariant allowed allowed_too = search (rules, arith)

  advances-only_one : (state end other : State V W) (bytes : List ℕ) → HoldInvariantAt meaning state
      → TakesAllTurns meaning state bytes end
      → TakesAllTurns meaning state bytes other → other ≡ end
  advances-only_one state end other [] hold_invariant done done = refl
  advances-only_one state end other (b ∷ bytes) hold_invariant (turns pending allowed takes)
      (turns also allowed_too takes_too) =
      advances-only_one _ end other _ (turn-invariant meaning pending state (b ∷ bytes) allowed hold_invariant) takes
      (rw (answers-only_one state also pending hold_invariant allowed_too allowed) at takes_too)

  -- With a steady timeout, calls lead to one state only: each turn has one answer.
  pub replay-only_one : (state end other : State V W) (steps : List Step) → HoldInvariantAt meaning state
      → TakesSteps meaning state steps end
      → TakesSteps meaning state steps other → other ≡ end
  replay-only_one state end other [] hold_invariant takes takes_too = sym takes_too ∙ takes
  replay-only_one state end other (Advance bytes ∷ steps) hold_invariant (reached, (advances, takes))
      (reached_too, (advances_too, takes_too)) =
      replay-only_one reached end other steps (turns-invariant meaning advances hold_invariant) takes
      (rw (advances-only_one state reached reached_too bytes.now hold_invariant advances advances_too) at takes_too)
  replay-only_one state end other (StopSync ∷ steps) hold_invariant takes takes_too =
      replay-only_one (stop meaning state) end other steps (stop-invariant meaning state) takes takes_too

-- ---- calls one by one

-- Lists of calls compose (`replay-append`), so a loop keeps `HasReplayed`.

module _ {V W : Type 0} (meaning : Meaning V W) where
  -- Calls keep the hold's invariant.
  pub replay-invariant : (state next : State V W) (steps : List Step) → TakesSteps meaning state steps next
      → HoldInvariantAt meaning state
      → HoldInvariantAt meaning next
  replay-invariant state next [] same hold_invariant = rw (← same) hold_invariant
  replay-invariant state next (Advance bytes ∷ steps) (reached, (advances, takes)) hold_invariant =
      replay-invariant reached next steps takes (turns-invariant meaning advances hold_invariant)
  replay-invariant state next (StopSync ∷ steps) takes hold_invariant =
      replay-invariant (stop meaning state) next steps takes (stop-invariant meaning state)

  -- Steps that lead to a state and further steps from there are one list of steps.
  pub replay-append : (state reached next : State V W) (steps others : List Step)
      → TakesSteps meaning state steps reached
      → TakesSteps meaning reached others next
      → TakesSteps meaning state (steps ++ others) next
  replay-append state reached next [] others same takes_others = rw same takes_others
  replay-append state reached next (Advance bytes ∷ steps) others (mid, (advances, takes)) takes_others =
      (mid, (advances, replay-append mid reached next steps others takes takes_others))
  replay-append state reached next (StopSync ∷ steps) others takes takes_others =
      replay-append (stop meaning state) reached next steps others takes takes_others

  -- `HasDelivered` says what the handler has received, and what became of the bytes.
  has_delivered : {state next : State V W} {bytes : List ℕ} (more : List ℕ) → next.parsed ≡ state.parsed ++ more
      → state.held ++ bytes ≡ more ++ next.held → HasStillToDeliver meaning next state.parsed state.stops state.handler
      → HasDelivered meaning state bytes next
  has_delivered more parsed_is each_once still = record {
    more = more;
    positions = still.positions;
    parsed_is = parsed_is;
    stops_are = still.stops_are;
    in_order = still.in_order;
    each_once = each_once;
    handler_is = still.handler_is;
  }

  -- Each byte was parsed or is held, and the handler received the calls.
  pub steps_delivered : (state next : State V W) (steps : List Step) → TakesSteps meaning state steps next
      → HasDelivered meaning state (given_bytes steps) next
  steps_delivered state next steps takes =
      let progress = progresses-replay meaning state next steps takes in
      has_delivered progress.more progress.parsed_is
      (progress.each_once ∙ ap (λ held. progress.more ++ held) (append-nil next.held))
      (delivers-replay meaning next state steps takes)

  -- If the last call was refused memory, the calls of the bytes read so far were delivered.
  pub refused_delivered : (state reached next : State V W) (steps : List Step) (bytes : List ℕ) (read : ℕ)
      → TakesSteps meaning state steps reached
      → TakesTurnsUntilRefused meaning reached bytes next (drop read bytes)
      → HasDelivered meaning state (given_bytes steps ++ take read bytes) next
  refused_delivered state reached next steps bytes read takes until_refused =
      let progress =
      progresses-then (progresses-before (progresses-replay meaning state reached steps takes) bytes)
      (progresses-until_refused meaning until_refused) in
      has_delivered progress.more progress.parsed_is
      (append_cancel_right _ _ (drop read bytes)
      (append_assoc state.held (given_bytes steps ++ take read bytes) (drop read bytes)
      ∙ ap (λ all. state.held ++ all)
      (append_assoc (given_bytes steps) (take read bytes) (drop read bytes)
      ∙ ap (λ all. given_bytes steps ++ all) (take-append-drop read bytes))
      ∙ progress.each_once ∙ sym (append_assoc progress.more next.held (drop read bytes))))
      (delivers-refused meaning next state reached steps bytes (drop read bytes) takes until_refused)

  -- All that is promised of a list of calls follows from the state to which it leads.
  pub has_replayed : {state : State V W} (next : State V W) {steps : List Step} {IsReached : State V W → Type 0}
      → TakesSteps meaning state steps next
      → IsReached next → HasReplayed meaning state steps IsReached
  has_replayed {state} next {steps} takes is_at = record {
    next = next;
    takes = takes;
    delivers = steps_delivered state next steps takes;
    hold_invariant = replay-invariant state next steps takes;
    unique_state =
        λ steady hold_invariant other takes_other. replay-only_one meaning steady state next other steps hold_invariant
        takes
        takes_other;
    is_at = is_at;
  }

  -- A call of `advance` is a list of one step.
  pub advance_runs : {state : State V W} {bytes : Bor (List ℕ)} {IsReached : State V W → Type 0}
      → HasAdvanced meaning state bytes.now IsReached → HasReplayed meaning state (Advance bytes ∷ []) IsReached
  advance_runs advanced = has_replayed advanced.next (advanced.next, (advanced.advances, refl)) advanced.is_at

  module _ (state : State V W) (steps : List Step) {i : ℕ} (missing : Step) {old : State V W → Type 0}
      (new : State V W → Type 0) (inside : i < length steps) (before : HasReplayed meaning state
      (take i steps) old) where
    step_taken : HasReplayed meaning before.next (get_or steps i missing ∷ []) new
        → HasReplayed meaning state (take (i + 1) steps) new
    step_taken replayed_step =
        has_replayed replayed_step.next
        (rw (take_more steps i missing inside)
        (replay-append state before.next replayed_step.next (take i steps)
        (get_or steps i missing ∷ []) before.takes replayed_step.takes)) replayed_step.is_at

    -- The next step, a call of `advance`, is taken.
    pub advance_taken : {bytes : Bor (List ℕ)} → get_or steps i missing ≡ Advance bytes
        → HasAdvanced meaning before.next bytes.now new
        → HasReplayed meaning state (take (i + 1) steps) new
    advance_taken {bytes} step_is advanced = step_taken (rw step_is (advance_runs advanced))

    -- If the next step is a stop, it is taken.
    pub stop_taken : get_or steps i missing ≡ StopSync → new (stop meaning before.next)
        → HasReplayed meaning state (take (i + 1) steps) new
    stop_taken step_is is_at = step_taken (rw step_is (has_replayed (stop meaning before.next) refl is_at))

    -- If the next step is refused memory, the steps before it were taken.
    pub advance_refused : {bytes : Bor (List ℕ)} {read : ℕ} → get_or steps i missing ≡ Advance bytes
        → read < length bytes.now
        → HasAdvancedPart meaning before.next bytes.now read new
        → HasReplayed meaning state (take i steps) (λ reached. IsFirstRefused meaning reached (drop i steps) read new)
    advance_refused step_is bytes_left taken =
        has_replayed before.next before.takes (rw (drop_more steps i missing inside, step_is) (bytes_left, taken))
