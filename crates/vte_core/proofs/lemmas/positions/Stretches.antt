-- How the functions of states compose, since what leads from `IsAtPosition` i to j, and from j to k, leads from i to k.
--
-- `advances-then`: two stretches of bytes, one after the other; `advances-nothing`: none
-- `advances-byte`: a byte, by what it does at each place of the parser; `advances-escape`: ESC in a text
-- `advances-to_same`: the same stretch, whose end j is rewritten as k
--
-- `Advances X` also says that the stretch reports no run if X holds. From X to another: `advances-weaker`, if that one
-- implies X; `advances-given`, if X holds; `advances-without_promise`, to `⊥`; `advances-reporting`, by what the
-- stretch reports.
--
-- Other files have an `advances-X` for each X that a function reads, such as `advances-text` and `advances-head`.
use Rattle.vte_core.proofs.Common.{AddsOutsideRuns, Advances, All-nil, AnyEvents, arith, ChunkCall, Empty, escape, IsAfter, IsAtPlace, IsAtPosition, IsInsidePosition, IsOutsideRuns, IsSettled, IsSettledPlace, length, List, Machine, MayGoOn, Place, refl, resumed_stream, rules, slice_index, subst, sym, TakesBytes, Text, ℕ, [], ◌+◌, ◌<◌, ◌∷◌, ◌≡◌}
use Rattle.vte_core.proofs.lemmas.fields.PlaceOfState.{is_at-place}
use Rattle.vte_core.proofs.lemmas.places.BytesInStream.{bytes_lead-escape}
use Rattle.vte_core.proofs.lemmas.positions.AddedEvents.{adds-leads, adds-outside_runs, adds-then, outside_runs-place}
use Rattle.vte_core.proofs.lemmas.positions.CallEnds.{settles}
use Rattle.vte_core.proofs.lemmas.positions.Progress.{progress-byte}
use Rattle.vte_core.proofs.lemmas.positions.SettledStates.{place-settled_text}
use Rattle.vte_core.specs.private.Prelude.{IsOutsideRunsInState}

module _ {V B : Type 0} {call : ChunkCall V} where
  -- A call that reads nothing stays, if no character is open there or no bytes are left.
  pub advances-nothing : {outside : Type 0} {value : V} {i : ℕ} {parser : Machine B}
      → (i < length call.bytes → IsSettled parser.state) → Advances outside call value value i i parser parser
  advances-nothing settled = search (rules, arith)

  -- A call goes on from i to j, and then to k. If neither stretch reports a run, both together report none.
  pub advances-then : {outside : Type 0} {old mid new : V} {i j k : ℕ} {parser next last : Machine B}
      → Advances outside call old mid i j parser next → Advances outside call mid new j k next last
      → Advances outside call old new i k parser last
  advances-then advances rest =
      record {
        is_at_position =
            λ value stream position.
            rest.is_at_position value stream (advances.is_at_position value stream position);
        settled = rest.settled;
        outside_runs =
            λ outside value stream position.
            adds-then (advances.outside_runs outside value stream position)
            (rest.outside_runs outside value stream (advances.is_at_position value stream position));
      }

  -- `Advances` may promise less.
  pub advances-weaker : {outside known : Type 0} {old new : V} {i j : ℕ} {parser next : Machine B} → (outside → known)
      → Advances known call old new i j parser next → Advances outside call old new i j parser next
  advances-weaker knows advances =
      record {
        is_at_position = advances.is_at_position;
        settled = advances.settled;
        outside_runs = λ outside. advances.outside_runs (knows outside);
      }

  -- A promise whose condition holds may be made under any condition.
  pub advances-given : {outside known : Type 0} {old new : V} {i j : ℕ} {parser next : Machine B} → known
      → Advances known call old new i j parser next → Advances outside call old new i j parser next
  advances-given given advances = advances-weaker (λ _. given) advances

  -- `Advances` may promise that events are outside runs, if what the byte reports at each place says so.
  pub advances-reporting : {outside known : Type 0} {old new : V} {i j : ℕ} {parser next : Machine B}
      → Advances known call old new i j parser next
      → ((stream : List ℕ) (place : Place) → IsAtPlace call.limit parser place
      → IsAfter call.limit (resumed_stream stream call.bytes i) place
      → AddsOutsideRuns call.limit stream call.bytes i j)
      → Advances outside call old new i j parser next
  advances-reporting advances adds = search (rules, arith)

  -- A function that may report a run can use `Advances` without its promise.
  pub advances-without_promise : {known : Type 0} {old new : V} {i j : ℕ} {parser next : Machine B}
      → Advances known call old new i j parser next → Advances AnyEvents call old new i j parser next
  advances-without_promise advances = advances-weaker (λ never. absurd never) advances

  pub advances-to_same : {outside : Type 0} {old new : V} {i j k : ℕ} {parser next : Machine B} → j ≡ k
      → Advances outside call old new i j parser next → Advances outside call old new i k parser next
  advances-to_same {outside} {old} {new} {i} {parser} {next} same advances = search (rules, arith)

  -- A byte leads from a position to one that may be inside a character.
  pub reads-byte_at : {old mid new : V} {stream : List ℕ} {i b : ℕ} {parser next : Machine B} → i < length call.bytes
      → b ≡ slice_index call.bytes i → MayGoOn call mid
      → ((place : Place) → IsAtPlace call.limit parser place → IsSettledPlace place
      → TakesBytes call.step mid new call.limit place (b ∷ []) next) → IsAtPosition call old mid stream i parser
      → IsInsidePosition call old new stream (i + 1) next
  reads-byte_at {next} before_end byte_is may_go_on reads position =
      let taken = reads position.place position.is_at (position.settled before_end) in
      record {
        place = taken.next;
        is_at = taken.is_at;
        progress =
            progress-byte before_end byte_is may_go_on taken.leads taken.performed (is_at-place taken.is_at)
            position.progress;
      }

  -- A byte after which no character is open leads from a position to the next.
  pub advances-byte : {old new : V} {i b : ℕ} {parser next : Machine B} → i < length call.bytes
      → b ≡ slice_index call.bytes i → MayGoOn call old
      → ((place : Place) → IsAtPlace call.limit parser place → IsSettledPlace place
      → TakesBytes call.step old new call.limit place (b ∷ []) next) → IsSettled next.state
      → Advances (IsOutsideRunsInState parser.state b) call old new i (i + 1) parser next
  advances-byte {b} {parser} before_end byte_is may_go_on reads settled = record {
    is_at_position =
        λ value stream position. settles settled (reads-byte_at before_end byte_is may_go_on reads position);
    settled = λ _. settled;
    outside_runs = λ outside value stream position.
        adds-outside_runs before_end byte_is position.progress.is_after (is_at-place position.is_at)
        (outside_runs-place call.limit parser.state parser position.place b outside position.is_at.fields);
  }

  -- ESC in a text reports no run.
  pub advances-escape : {outside known : Type 0} {old new : V} {i : ℕ} {parser next : Machine B}
      → parser.state ≡ Text Empty → i < length call.bytes → slice_index call.bytes i ≡ escape
      → Advances known call old new i (i + 1) parser next → Advances outside call old new i (i + 1) parser next
  advances-escape {i} {parser} in_state before_end is_escape advances =
      advances-reporting advances (λ stream place is_at after. adds-leads before_end (sym is_escape)
      (subst (IsAfter call.limit (resumed_stream stream call.bytes i)) (place-settled_text in_state is_at) after)
      (bytes_lead-escape refl) tt (All-nil IsOutsideRuns))
