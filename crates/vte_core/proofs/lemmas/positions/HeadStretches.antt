-- The bytes of a head, and the byte that ends it. A function that reads several of them goes on by each; `ReadsHead`
-- says which, without the performer, which learns of a head only at its end. So both shapes, a control sequence's and
-- a device control string's, share it (`advances-head`, `advances-past_head`).
use Rattle.vte_core.proofs.Common.{Advances, append-nil, append_assoc, AreInClass, arith, ChunkCall, class_of, CollectedHead, ControlSequence, CountsNumbers, DeviceControl, drop, drop_more, ends_sequence, Entry, Event, false, false≢true, HasReadHead, HeadProgress, InControlSequence, InDeviceControl, is_final, is_head_byte, is_parameter_byte, IsAtPlace, IsAtPosition, IsPlaceOfState, IsSettled, IsSettledPlace, Leads, length, List, Machine, MatchOption, MayGoOn, None, Option, Parameters, Place, progress_after, ProgressAt, ReadsHead, refl, rules, SameIntermediates, slice_index, Some, State, subst, suc, sym, take, TakesByte, TakesBytes, true, zero, ℕ, [], ◌++◌, ◌+◌, ◌-◌, ◌<◌, ◌∷◌, ◌≡◌, ◌≤◌, ◌⊎◌}
use Rattle.vte_core.proofs.lemmas.bytes.Classes.{AreInClass-append, final_ends_nothing, head_ends_nothing, parameter_is_head}
use Rattle.vte_core.proofs.lemmas.bytes.Each.{one_byte, slice-then}
use Rattle.vte_core.proofs.lemmas.fields.Heads.{holds-parameter}
use Rattle.vte_core.proofs.lemmas.fields.PlaceOfState.{is_at-in, IsReachable}
use Rattle.vte_core.proofs.lemmas.places.BytesInStream.{bytes_lead-byte, no_escape}
use Rattle.vte_core.proofs.lemmas.places.PlaceLeads.{control-head, device-head}
use Rattle.vte_core.proofs.lemmas.positions.AddedEvents.{adds-same, recorded-at, reported-at}
use Rattle.vte_core.proofs.lemmas.positions.Progress.{progress-byte, progress-settled}
use Rattle.vte_core.proofs.lemmas.positions.SettledStates.{settled-same_state}
use Rattle.vte_core.proofs.lemmas.positions.Stretches.{advances-byte, advances-given, advances-then, advances-to_same}
use Rattle.vte_core.proofs.lemmas.positions.TakenBytes.{takes_bytes-in}
use Rattle.vte_core.specs.declared.head.HeadEnd.{HeadEnd}
use Rattle.vte_core.specs.private.CollectedHead.{ReadsHeadUpTo}
use Rattle.vte_core.specs.private.Progress.{MayRead}
use Rattle.vte_core.specs.private.ToRun.{IsOutsideRunsInState}

-- ---- `ReadsHead` of no bytes, of two stretches, of a byte

pub reads_head-nothing : {bytes : List ℕ} {i : ℕ} {reached : HeadProgress} {collected : CollectedHead}
    → i ≤ length bytes
    → ReadsHead bytes i i reached reached collected collected
reads_head-nothing {bytes} {i} {reached} {collected} within = search (rules, arith)

pub reads_head-then : {bytes : List ℕ} {i j k : ℕ} {reached reached_then next : HeadProgress}
    {old mid new : CollectedHead}
    → ReadsHead bytes i j reached reached_then old mid → ReadsHead bytes j k reached_then next mid new
    → ReadsHead bytes i k reached next old new
reads_head-then {bytes} {i} {j} {k} reads rest =
    let whole = slice-then bytes i j k reads.in_order rest.in_order in
    record {
      in_order = omega (arith, reads.in_order, rest.in_order);
      within = rest.within;
      head_bytes = rw whole (AreInClass-append is_head_byte _ _ reads.head_bytes rest.head_bytes);
      leads =
          λ head has_read. rw (whole, ← append_assoc head (take (j - i) (drop i bytes)) (take (k - j) (drop j bytes)))
          (rest.leads _ (reads.leads head has_read));
    }

pub reads_head-byte : {bytes : List ℕ} {i b : ℕ} {reached next : HeadProgress} {old new : CollectedHead}
    → i < length bytes
    → b ≡ slice_index bytes i → is_head_byte (class_of b) ≡ true
    → ((head : List ℕ) → HasReadHead old reached head → HasReadHead new next (head ++ b ∷ []))
    → ReadsHead bytes i (i + 1) reached next old new
reads_head-byte {bytes} {i} {b} before_end byte_is is_head leads = search (rules, arith, one_byte)

-- If no byte follows, the case for `None` holds.
pub match-none : {A : Type 0} (B : ℕ → Type 0) (next : Option ℕ) → ((b : ℕ) → next ≡ Some b → ⊥) → MatchOption next A B
    → A
match-none B None no_byte all = all
match-none B (Some b) no_byte all = absurd (no_byte b refl)

-- ---- a parameter byte, and the part of the head that it leads to

-- Parameter bytes change how far the head has come, if there are any.
pub progress_after-none : (reached : HeadProgress) {from to : ℕ} → from ≡ to → progress_after reached from to ≡ reached
progress_after-none reached {from} {to} same = search (rules, arith)

pub progress_after-more : (reached : HeadProgress) (from to : ℕ) → from < to
    → progress_after reached from to ≡ Parameters
progress_after-more reached from to more = search (rules, arith)

progress_after-may : (reached : HeadProgress) (from to : ℕ) → (reached ≡ Entry) ⊎ (reached ≡ Parameters)
    → (progress_after reached from to ≡ Entry) ⊎ (progress_after reached from to ≡ Parameters)
progress_after-may reached from to may = search (rules, arith)

-- A head is read further by a digit or a separator.
pub reads_head-parameter : {bytes : List ℕ} {from i b : ℕ} {reached : HeadProgress} {first old new : CollectedHead}
    → (reached ≡ Entry) ⊎ (reached ≡ Parameters)
    → i < length bytes → b ≡ slice_index bytes i → is_parameter_byte (class_of b) ≡ true → SameIntermediates old new
    → ((text : List ℕ) → CountsNumbers old text → CountsNumbers new (text ++ b ∷ []))
    → ReadsHead bytes from i reached (progress_after reached from i) first old
    → ReadsHead bytes from (i + 1) reached (progress_after reached from (i + 1)) first new
reads_head-parameter {from} {i} {b} {reached} {old} {new} may before_end byte_is is_parameter keeps counts before =
    rw (progress_after-more reached from (i + 1) (omega (arith, before.in_order)))
    (reads_head-then before (reads_head-byte before_end byte_is (parameter_is_head (class_of b) is_parameter)
    (λ head has_read.
    holds-parameter head b (progress_after-may reached from i may) has_read is_parameter keeps counts)))

-- ---- the shapes that have a head

-- Control sequences and device control strings differ only in state and place (`state_of`, `in_head`), so one lemma
-- advances past the bytes of both heads (`advances-head`).

-- Which of the two has the head.
pub data Shape : Type 0 where
  ControlHead : Shape
  DeviceHead : Shape

-- The state of a parser inside such a head.
abbrev state_of : Shape → HeadProgress → State
state_of ControlHead reached = ControlSequence reached
state_of DeviceHead reached = DeviceControl reached

-- The place after these bytes of such a head.
abbrev in_head : Shape → List ℕ → Place
in_head ControlHead head = InControlSequence head
in_head DeviceHead head = InDeviceControl head

-- The place is inside a head of this shape, and this is what was collected of it.
record InHeadAt (shape : Shape) (collected : CollectedHead) (reached : HeadProgress) (place : Place) : Type 0 where
  head : List ℕ
  same : place ≡ in_head shape head
  is_at : HasReadHead collected reached head

head-place : {B : Type 0} (shape : Shape) (limit : Option ℕ) (reached : HeadProgress) (parser : Machine B)
    (place : Place)
    → IsPlaceOfState limit (state_of shape reached) parser place
    → InHeadAt shape parser.collected reached place
head-place shape limit reached parser place fields = search (rules, arith)

head-is_at : {B : Type 0} (shape : Shape) {limit : Option ℕ} (reached : HeadProgress) {parser : Machine B}
    (head : List ℕ)
    → parser.state ≡ state_of shape reached
    → HasReadHead parser.collected reached head → IsAtPlace limit parser (in_head shape head)
head-is_at shape reached head in_state has_read = search (rules, arith)

head-leads : (shape : Shape) {limit : Option ℕ} (head : List ℕ) {b : ℕ} → is_head_byte (class_of b) ≡ true
    → Leads limit (in_head shape head) b [] (in_head shape (head ++ b ∷ []))
head-leads ControlHead head is_head = control-head is_head
head-leads DeviceHead head is_head = device-head is_head

head-is_reachable : (shape : Shape) (head : List ℕ) → IsReachable (in_head shape head)
head-is_reachable ControlHead head = tt
head-is_reachable DeviceHead head = tt

head-settled_place : (shape : Shape) (head : List ℕ) → IsSettledPlace (in_head shape head)
head-settled_place ControlHead head = tt
head-settled_place DeviceHead head = tt

head-outside_runs : (shape : Shape) (reached : HeadProgress) (b : ℕ) → IsOutsideRunsInState (state_of shape reached) b
head-outside_runs ControlHead reached b = tt
head-outside_runs DeviceHead reached b = tt

head-settled : (shape : Shape) (reached : HeadProgress) → IsSettled (state_of shape reached)
head-settled ControlHead reached = tt
head-settled DeviceHead reached = tt

module _ {V : Type 0} {call : ChunkCall V} where
  -- A call makes progress over n bytes of a head.
  progress-head : {old value : V} {stream : List ℕ} {i : ℕ} (shape : Shape) (n : ℕ) (head : List ℕ)
      → i + n ≤ length call.bytes → AreInClass is_head_byte (take n (drop i call.bytes)) → MayGoOn call value
      → ProgressAt call old value stream i (in_head shape head)
      → ProgressAt call old value stream (i + n) (in_head shape (head ++ take n (drop i call.bytes)))
  progress-head {i} shape zero head within more may_go_on progress =
      let same : i + 0 ≡ i = omega arith in rw (append-nil head, same) progress
  progress-head {i} shape (suc n) head within more may_go_on progress =
      let here : i < length call.bytes = omega (arith, within) in
      let b : ℕ = slice_index call.bytes i in
      let cut : drop i call.bytes ≡ b ∷ drop (i + 1) call.bytes = drop_more call.bytes i 0 here in
      let both : AreInClass is_head_byte (b ∷ take n (drop (i + 1) call.bytes)) = rw cut at more in
      let place = head-is_reachable shape (head ++ b ∷ []) in
      let reads =
      bytes_lead-byte
      (no_escape b (head_ends_nothing (class_of b) both.0)) (head-leads shape head both.0) in
      let one =
      progress-settled place (head-settled_place shape (head ++ b ∷ []))
      (progress-byte here refl may_go_on reads refl place progress) in
      let rest = progress-head {i = i + 1} shape n (head ++ b ∷ []) (omega (arith, within)) both.1 may_go_on one in
      let far : i + suc n ≡ i + 1 + n = omega arith in
      rw (far, cut) (rw (append_assoc head (b ∷ []) (take n (drop (i + 1) call.bytes))) at rest)

  -- The bytes of a part of a head lead from position i to position j.
  is_at-head : {B : Type 0} {old value : V} {stream : List ℕ} {i j : ℕ} {reached reached_then : HeadProgress}
      {parser next : Machine B} (shape : Shape) → parser.state ≡ state_of shape reached
      → ReadsHead call.bytes i j reached reached_then parser.collected next.collected → MayGoOn call value
      → next.state ≡ state_of shape reached_then → IsAtPosition call old value stream i parser
      → IsAtPosition call old value stream j next
  is_at-head {old} {value} {stream} {i} {j} {reached} {reached_then}
      {parser} {next} shape in_state reads may_go_on state position =
      let at_head = head-place shape call.limit reached parser position.place (is_at-in in_state position.is_at) in
      let here : ProgressAt call old value stream i (in_head shape at_head.head) =
      subst (ProgressAt call old value stream i) at_head.same position.progress in
      let end : i + (j - i) ≡ j = omega (arith, reads.in_order) in
      let run : List ℕ = take (j - i) (drop i call.bytes) in
      record {
        place = in_head shape (at_head.head ++ run);
        is_at = head-is_at shape reached_then (at_head.head ++ run) state (reads.leads at_head.head at_head.is_at);
        settled = λ _. head-settled_place shape (at_head.head ++ run);
        progress = rw end at
            (progress-head shape (j - i) at_head.head (omega (arith, reads.within, end)) reads.head_bytes may_go_on
            here);
      }

module _ {V : Type 0} {call : ChunkCall V} where
  -- A call goes on past a part of a head without an event.
  pub advances-head : {outside B : Type 0} {value : V} {i j : ℕ} {reached reached_then : HeadProgress}
      {parser next : Machine B}
      (shape : Shape) → parser.state ≡ state_of shape reached
      → ReadsHead call.bytes i j reached reached_then parser.collected next.collected → MayGoOn call value
      → next.state ≡ state_of shape reached_then → Advances outside call value value i j parser next
  advances-head {reached_then} {next} shape in_state reads may_go_on state = record {
    is_at_position = λ old stream position. is_at-head shape in_state reads may_go_on state position;
    settled = λ _. settled-same_state state (head-settled shape reached_then);
    outside_runs = λ _ old stream position.
        adds-same (reported-at
        (is_at-head {next = next} shape in_state reads (λ asks. absurd (false≢true asks)) state
        (recorded-at position)));
  }

  -- A call reads a part of a head and the byte after it, if the caller says what that byte does.
  pub advances-past_head : {outside B : Type 0} {old new : V} {i j b : ℕ} {reached reached_then : HeadProgress}
      {parser next : Machine B}
      {collected : CollectedHead} (shape : Shape) → parser.state ≡ state_of shape reached
      → ReadsHead call.bytes i j reached reached_then parser.collected collected
      → (j < length call.bytes) × (b ≡ slice_index call.bytes j) → MayGoOn call old
      → ((place : Place) → IsAtPlace {B = B} call.limit
      (record { state = state_of shape reached_then; collected = collected; command = parser.command }) place
      → IsSettledPlace place
      → TakesBytes call.step old new call.limit place (b ∷ []) next) → IsSettled next.state
      → Advances outside call old new i (j + 1) parser next
  advances-past_head {B} {reached_then} {parser} {collected} shape in_state reads next_byte may_go_on performs settled =
      let head : Machine B =
      record { state = state_of shape reached_then; collected = collected; command = parser.command } in
      advances-then (advances-head {next = head} shape in_state reads may_go_on refl)
      (advances-given (head-outside_runs shape reached_then _)
      (advances-byte next_byte.0 next_byte.1 may_go_on performs settled))

-- For a byte of a head other than CAN, SUB and ESC, it is enough to say what it does after each such head.
pub takes_bytes-head : {V B : Type 0} {step : V → Event → V} {old new : V} {limit : Option ℕ} {b : ℕ}
    {parser next : Machine B} (shape : Shape) (reached : HeadProgress)
    → parser.state ≡ state_of shape reached → ends_sequence (class_of b) ≡ false
    → ((head : List ℕ) → HasReadHead parser.collected reached head
    → TakesByte step old new limit (in_head shape head) b next)
    → (place : Place) → IsAtPlace limit parser place → IsSettledPlace place
    → TakesBytes step old new limit place (b ∷ []) next
takes_bytes-head {step} {old} {new} {limit} {b} {parser}
    {next} shape reached in_state ordinary takes = takes_bytes-in in_state ordinary (λ place is_at.
    let at_head = head-place shape limit reached parser place is_at in
    subst (λ p. TakesByte step old new limit p b next) (sym at_head.same) (takes at_head.head at_head.is_at))

-- A call reads the rest of a head and the final byte of a control sequence.
advances-control_sequence : {V B outside : Type 0} {call : ChunkCall V} {old new : V} {i j k b : ℕ}
    {reached reached_then : HeadProgress} {parser next : Machine B} {collected : CollectedHead}
    → parser.state ≡ ControlSequence reached
    → ReadsHead call.bytes i j reached reached_then parser.collected collected
    → (j < length call.bytes) × (b ≡ slice_index call.bytes j) → MayGoOn call old → is_final (class_of b) ≡ true
    → ((head : List ℕ) → HasReadHead collected reached_then head
    → TakesByte call.step old new call.limit (InControlSequence head) b next)
    → IsSettled next.state → k ≡ j + 1 → Advances outside call old new i k parser next
advances-control_sequence {reached_then} in_state reads next_byte may_go_on final takes settled end =
    advances-to_same (sym end)
    (advances-past_head ControlHead in_state reads next_byte may_go_on
    (takes_bytes-head ControlHead reached_then refl (final_ends_nothing _ final) takes) settled)

-- The same holds if the head is read up to its end (`ReadsHeadUpTo`), and the final byte is there.
pub advances-final_byte : {V B outside : Type 0} {call : ChunkCall V} {old new : V} {i k b : ℕ}
    {reached : HeadProgress} {end : HeadEnd} {parser next : Machine B} {collected : CollectedHead}
    → MayRead call old (ControlSequence reached) parser i
    → ReadsHeadUpTo call.bytes i reached end parser.collected collected → end.next_byte ≡ Some b
    → is_final (class_of b) ≡ true
    → ((head : List ℕ) → HasReadHead collected end.progress head
    → TakesByte call.step old new call.limit (InControlSequence head) b next)
    → IsSettled next.state → k ≡ end.position + 1 → Advances outside call old new i k parser next
advances-final_byte may_read reads next_is =
    advances-control_sequence may_read.in_state reads.head (rw next_is at reads.next_byte) may_read.may_go_on
