-- `Steps` holds for every reachable place and every byte (`steps`): by cases of the place and of the byte's class, each
-- by a lemma of `PlaceLeads`.
use Rattle.vte_core.proofs.Common.{AreBrief, arith, AtEscape, bell, breaks, Cancel, cases_Bool, Class, class_of, closing_events_at, Delete, dispatches_escape, ends_sequence, eqb, escape, EscapeSequence, Event, Execute, false, false≢true, Final, head_of, High, InControlSequence, InDeviceControl, InDeviceData, InEscape, InIgnoredString, inl, inr, InSystemCommand, Intermediate, InText, is_head_byte, is_well_shaped, kept_items, Leads, List, nat_tests, None, open_at, open_data_count, Option, pieces_of, Place, PlainControl, refl, rules, sequence_event, sequence_kind, SequenceKind, sym, to_close_at, true, ℕ, [], ◌++◌, ◌+◌, ◌<◌, ◌∙◌, ◌∷◌, ◌≡◌, ◌≤◌}
use Rattle.vte_core.proofs.lemmas.bytes.Classes.{below_40_is_escape_sequence, ends_not_cancel, is_dropped, is_dropped_in_head, Spans, spans}
use Rattle.vte_core.proofs.lemmas.fields.Pieces.{few_pieces, pieces_push, some_pieces}
use Rattle.vte_core.proofs.lemmas.fields.PlaceOfState.{IsReachable}
use Rattle.vte_core.proofs.lemmas.places.BytesInStream.{bytes_lead-byte, bytes_lead-escape, cancel_is_no_escape, no_escape}
use Rattle.vte_core.proofs.lemmas.places.PlaceLeads.{bounded-head, byte-dropped, byte-executed, command-bell, command-control, command-item, control-dispatched, control-head, control-silent, data-dropped, data-put, data-terminator, device-dropped, device-head, device-ill_shaped, device-well_shaped, escape-end, escape-intermediate, escape-key, executed_low, ignored-more, intermediate-end, intermediate-more, two_at_most}
use Rattle.vte_core.proofs.lemmas.places.Steps.{AreOutsideRuns, IsOutsideRunsAtPlace, IsSilentOrSettles, IsText, OpenPiecesFit, Steps}
use Rattle.vte_core.proofs.lemmas.places.TextSteps.{byte-cancels, closing_alone_brief, closing_brief, step-text}
use Rattle.vte_core.specs.Class.{Escape}

-- The place isn't in a text.
abbrev IsOutsideText : Place → Type 0
IsOutsideText (InText opened) = ⊥
IsOutsideText _ = Unit {0}

-- The place holds no byte of a character or of a command.
abbrev HoldsNothing : Place → Type 0
HoldsNothing (InText (a ∷ opened)) = ⊥
HoldsNothing (InSystemCommand (item ∷ items)) = ⊥
HoldsNothing _ = Unit {0}

-- The first place is outside of text, and the next one holds no bytes of a character or a command. Between places that
-- are known this computes, and `(tt, tt)` proves it.
abbrev LeavesNothingOpen : Place → Place → Type 0
LeavesNothingOpen place next = IsOutsideText place × HoldsNothing next

outside_text_is_no_text : (place : Place) → IsOutsideText place → IsText place → ⊥
outside_text_is_no_text (InText opened) outside text = outside
outside_text_is_no_text _ outside text = text

nothing_open : (limit : Option ℕ) (place : Place) → HoldsNothing place
    → (open_at place ≡ []) × (open_data_count (to_close_at limit place) ≡ 0) × IsReachable place
unfolding pieces_of kept_items
nothing_open limit place holds_nothing = search (rules, arith)

-- What a byte other than CAN, SUB and ESC is; most places drop a byte of the last case.
data Ordinary (b : ℕ) : Type 0 where
  control : class_of b ≡ PlainControl → Ordinary b
  intermediate : class_of b ≡ Intermediate → Ordinary b
  parameter : 0x30 ≤ b → b < 0x40 → is_head_byte (class_of b) ≡ true → dispatches_escape (class_of b) ≡ true
      → Ordinary b
  final : class_of b ≡ Final → Ordinary b
  dropped : is_dropped (class_of b) ≡ true → Ordinary b

ordinary-by_class : (b : ℕ) {class : Class} → class_of b ≡ class → ends_sequence class ≡ false → Ordinary b
ordinary-by_class b {class = PlainControl} is_class no_end = control is_class
ordinary-by_class b {class = Intermediate} is_class no_end = intermediate is_class
ordinary-by_class b {class = Final} is_class no_end = final is_class
ordinary-by_class b {class = Delete} is_class no_end = dropped (rw is_class refl)
ordinary-by_class b {class = High} is_class no_end = dropped (rw is_class refl)
ordinary-by_class b {class = Cancel} is_class no_end = cc
ordinary-by_class b {class = Escape} is_class no_end = cc
ordinary-by_class b is_class no_end =
    let range = spans b is_class in parameter (omega arith) (omega arith) (rw is_class refl) (rw is_class refl)

dropped_in_head : (class : Class) → is_dropped class ≡ true → is_dropped_in_head class ≡ true
dropped_in_head class is_dropped_class = search (rules, arith)

module _ {limit : Option ℕ} {place next : Place} {b : ℕ} (is_no_escape : eqb b escape ≡ false) where
  -- `Steps` holds for a byte other than ESC that leaves nothing open.
  step-leaving_nothing : {reported : List Event} → LeavesNothingOpen place next → Leads limit place b reported next
      → ((size : Option ℕ) → OpenPiecesFit size (to_close_at limit place) → AreBrief size reported)
      → (IsOutsideRunsAtPlace place b → AreOutsideRuns reported) → Steps limit place b
  step-leaving_nothing {reported} known leads brief outside_runs =
      let nothing = nothing_open limit next known.1 in
      record {
        reported = reported;
        next = next;
        is_reachable = nothing.2;
        leads = bytes_lead-byte is_no_escape leads;
        brief = brief;
        grows = λ _. omega (arith, nothing.1);
        leaves = inl nothing.0;
        silent_or_settles = λ text _. absurd (outside_text_is_no_text place known.0 text);
        outside_runs = outside_runs;
      }

  -- `Steps` holds for such a byte if it reports nothing.
  step-silent : LeavesNothingOpen place next → Leads limit place b [] next → Steps limit place b
  step-silent known leads = step-leaving_nothing known leads (λ _ _. tt) (λ _. tt)

  -- `Steps` holds for a plain control, if it is executed.
  step-executed : class_of b ≡ PlainControl → LeavesNothingOpen place next → Leads limit place b (Execute b ∷ []) next
      → Steps limit place b
  step-executed is_control known leads =
      step-leaving_nothing known leads (λ _ _. executed_low b (spans b is_control)) (λ _. tt)

-- ---- after ESC

step-at_escape_final : {limit : Option ℕ} {b : ℕ} {kind : SequenceKind} → eqb b escape ≡ false → class_of b ≡ Final
    → sequence_kind b ≡ kind → Steps limit AtEscape b
step-at_escape_final {b} {kind = EscapeSequence} is_no_escape is_final is_kind =
    let range = spans b is_final in
    step-leaving_nothing is_no_escape (tt, tt) (escape-end is_final refl is_kind)
    (λ _ _. (omega arith, omega arith, range.1))
    (λ _. tt)
step-at_escape_final {kind = key} is_no_escape is_final is_kind =
    step-silent is_no_escape (tt, tt) (escape-key key is_final is_kind refl)

step-at_escape : {limit : Option ℕ} {b : ℕ} → eqb b escape ≡ false → Ordinary b → Steps limit AtEscape b
step-at_escape is_no_escape (control is_control) =
    step-executed is_no_escape is_control (tt, tt) (byte-executed refl is_control)
step-at_escape is_no_escape (intermediate is_intermediate) =
    step-silent is_no_escape (tt, tt) (escape-intermediate is_intermediate)
step-at_escape {b} is_no_escape (parameter low high _ ends) =
    step-leaving_nothing is_no_escape (tt, tt) (escape-end refl ends (below_40_is_escape_sequence b high))
    (λ _ _. (omega arith, low, omega arith)) (λ _. tt)
step-at_escape is_no_escape (final is_final) = step-at_escape_final is_no_escape is_final refl
step-at_escape is_no_escape (dropped is_dropped_class) =
    step-silent is_no_escape (tt, tt) (byte-dropped refl refl is_dropped_class)

-- ---- after ESC and intermediates

step-in_escape_end : {limit : Option ℕ} {intermediates : List ℕ} {b : ℕ} → eqb b escape ≡ false → 0x30 ≤ b → b < 0x7f
    → dispatches_escape (class_of b) ≡ true → Steps limit (InEscape intermediates) b
step-in_escape_end {intermediates} is_no_escape low high ends =
    step-leaving_nothing is_no_escape (tt, tt) (intermediate-end refl ends)
    (λ _ _. (two_at_most intermediates, low, high)) (λ _. tt)

step-in_escape : {limit : Option ℕ} {intermediates : List ℕ} {b : ℕ} → eqb b escape ≡ false → Ordinary b
    → Steps limit (InEscape intermediates) b
step-in_escape is_no_escape (control is_control) =
    step-executed is_no_escape is_control (tt, tt) (byte-executed refl is_control)
step-in_escape is_no_escape (intermediate is_intermediate) =
    step-silent is_no_escape (tt, tt) (intermediate-more is_intermediate)
step-in_escape is_no_escape (parameter low high _ ends) = step-in_escape_end is_no_escape low (omega arith) ends
step-in_escape {b} is_no_escape (final is_final) =
    let range = spans b is_final in step-in_escape_end is_no_escape (omega arith) range.1 (rw is_final refl)
step-in_escape is_no_escape (dropped is_dropped_class) =
    step-silent is_no_escape (tt, tt) (byte-dropped refl refl is_dropped_class)

-- ---- in the head of a control sequence

step-in_control_sequence : {limit : Option ℕ} {head : List ℕ} {b : ℕ} → eqb b escape ≡ false → Ordinary b
    → Steps limit (InControlSequence head) b
unfolding sequence_event
step-in_control_sequence is_no_escape (control is_control) =
    step-executed is_no_escape is_control (tt, tt) (byte-executed refl is_control)
step-in_control_sequence is_no_escape (intermediate is_intermediate) =
    step-silent is_no_escape (tt, tt) (control-head (rw is_intermediate refl))
step-in_control_sequence is_no_escape (parameter _ _ is_head _) =
    step-silent is_no_escape (tt, tt) (control-head is_head)
step-in_control_sequence {head} {b} is_no_escape (final is_final) = elim (cases_Bool (is_well_shaped (head_of head))) [
  | inl well_shaped ↦
      step-leaving_nothing is_no_escape (tt, tt) (control-dispatched is_final well_shaped)
      (λ size _. (bounded-head size (head_of head) b (spans b is_final)).0) (λ _. tt)
  | inr ill_shaped ↦ step-silent is_no_escape (tt, tt) (control-silent is_final ill_shaped)
]
step-in_control_sequence is_no_escape (dropped is_dropped_class) =
    step-silent is_no_escape (tt, tt) (byte-dropped refl refl is_dropped_class)

-- ---- in a device control string

step-in_device_control : {limit : Option ℕ} {head : List ℕ} {b : ℕ} → eqb b escape ≡ false → Ordinary b
    → Steps limit (InDeviceControl head) b
unfolding sequence_event
step-in_device_control is_no_escape (control is_control) =
    step-silent is_no_escape (tt, tt) (device-dropped is_control refl)
step-in_device_control is_no_escape (intermediate is_intermediate) =
    step-silent is_no_escape (tt, tt) (device-head (rw is_intermediate refl))
step-in_device_control is_no_escape (parameter _ _ is_head _) = step-silent is_no_escape (tt, tt) (device-head is_head)
step-in_device_control {head} {b} is_no_escape (final is_final) = elim (cases_Bool (is_well_shaped (head_of head))) [
  | inl well_shaped ↦
      step-leaving_nothing is_no_escape (tt, tt) (device-well_shaped is_final well_shaped)
      (λ size _. (bounded-head size (head_of head) b (spans b is_final)).1) (λ _. tt)
  | inr ill_shaped ↦ step-silent is_no_escape (tt, tt) (device-ill_shaped is_final ill_shaped)
]
step-in_device_control {b} is_no_escape (dropped is_dropped_class) =
    step-silent is_no_escape (tt, tt) (device-dropped refl (dropped_in_head (class_of b) is_dropped_class))

-- ---- in its data

delete_is_no_terminator : (b : ℕ) → Spans Delete b → eqb b 0x9c ≡ false
delete_is_no_terminator b range = grind (arith, nat_tests)

step-in_device_data : {limit : Option ℕ} {b : ℕ} {class : Class} → eqb b escape ≡ false → class_of b ≡ class
    → ends_sequence class ≡ false → Steps limit InDeviceData b
step-in_device_data {b} {class = Delete} is_no_escape is_class no_end =
    step-silent is_no_escape (tt, tt) (data-dropped (rw is_class (delete_is_no_terminator b (spans b is_class)))
    (rw is_class refl))
step-in_device_data {b} {class = High} is_no_escape is_class no_end = elim (cases_Bool (eqb b 0x9c)) [
  | inl ends ↦ step-leaving_nothing is_no_escape (tt, tt) (data-terminator is_class ends) (λ _ _. tt) (λ _. tt)
  | inr inside ↦ step-silent is_no_escape (tt, tt) (data-dropped (rw is_class inside) (rw is_class refl))
]
step-in_device_data {class = Cancel} is_no_escape is_class no_end = cc
step-in_device_data {class = Escape} is_no_escape is_class no_end = cc
step-in_device_data is_no_escape is_class no_end =
    step-leaving_nothing is_no_escape (tt, tt) (data-put (rw is_class refl)) (λ _ _. rw is_class refl)
    (λ outside. absurd (false≢true (sym outside ∙ rw is_class refl)))

-- ---- in an operating system command

-- `Steps` holds for a byte that joins the command, or is dropped there.
step-joins_command : {limit : Option ℕ} {items later : List ℕ} {b : ℕ} → eqb b escape ≡ false
    → Leads limit (InSystemCommand items) b [] (InSystemCommand later)
    → (limit ≡ None → open_data_count (to_close_at limit (InSystemCommand later))
    ≤ open_data_count (to_close_at limit (InSystemCommand items)) + 1) → Steps limit (InSystemCommand items) b
step-joins_command {limit} {items} {later} {b} is_no_escape leads grows = record {
  reported = [];
  next = InSystemCommand later;
  is_reachable = tt;
  leads = bytes_lead-byte is_no_escape leads;
  brief = λ _ _. tt;
  grows = grows;
  leaves = inl refl;
  silent_or_settles = λ text _. absurd text;
  outside_runs = λ _. tt;
}

step-in_system_command : {limit : Option ℕ} {items : List ℕ} {b : ℕ} {class : Class} → eqb b escape ≡ false
    → class_of b ≡ class → ends_sequence class ≡ false → Steps limit (InSystemCommand items) b
step-in_system_command {limit} {items} {b} {class = PlainControl} is_no_escape is_class no_end =
    elim (cases_Bool (eqb b bell)) [
      | inl ends ↦
          step-leaving_nothing is_no_escape (tt, tt) (command-bell is_class ends)
          (λ _ fits. (few_pieces limit items, fits, some_pieces limit items)) (λ _. tt)
      | inr inside ↦ step-joins_command is_no_escape (command-control is_class inside) (λ _. omega arith)
    ]
step-in_system_command {class = Cancel} is_no_escape is_class no_end = cc
step-in_system_command {class = Escape} is_no_escape is_class no_end = cc
step-in_system_command {items} {b} is_no_escape is_class no_end =
    let range = spans b is_class in
    step-joins_command is_no_escape (command-item (omega arith)) (λ no_limit. rw no_limit (pieces_push items b))

-- ---- any place: by ESC, CAN and SUB, or the lemma of its shape

step-ordinary : (limit : Option ℕ) (place : Place) (b : ℕ) (class : Class) → IsReachable place → eqb b escape ≡ false
    → class_of b ≡ class → ends_sequence class ≡ false → Steps limit place b
step-ordinary limit (InText opened) b class is_reachable is_no_escape is_class no_end =
    step-text limit opened b is_no_escape is_reachable
step-ordinary limit AtEscape b class is_reachable is_no_escape is_class no_end =
    step-at_escape is_no_escape (ordinary-by_class b is_class no_end)
step-ordinary limit (InEscape intermediates) b class is_reachable is_no_escape is_class no_end =
    step-in_escape is_no_escape (ordinary-by_class b is_class no_end)
step-ordinary limit (InControlSequence head) b class is_reachable is_no_escape is_class no_end =
    step-in_control_sequence is_no_escape (ordinary-by_class b is_class no_end)
step-ordinary limit (InDeviceControl head) b class is_reachable is_no_escape is_class no_end =
    step-in_device_control is_no_escape (ordinary-by_class b is_class no_end)
step-ordinary limit InDeviceData b class is_reachable is_no_escape is_class no_end =
    step-in_device_data is_no_escape is_class no_end
step-ordinary limit (InSystemCommand items) b class is_reachable is_no_escape is_class no_end =
    step-in_system_command is_no_escape is_class no_end
step-ordinary limit InIgnoredString b class is_reachable is_no_escape is_class no_end =
    step-silent is_no_escape (tt, tt) (ignored-more (rw is_class (ends_not_cancel class no_end)))

-- As ESC breaks any open character, none is open here, so ESC reports nothing.
silent_or_settles-escape : (limit : Option ℕ) (place : Place) → IsReachable place → IsText place
    → breaks (open_at place) (escape ∷ []) ≡ false → IsSilentOrSettles AtEscape (closing_events_at limit place)
silent_or_settles-escape limit place is_reachable text unbroken = search (rules, arith)

outside_runs-closing : (limit : Option ℕ) (place : Place) (b : ℕ) → IsOutsideRunsAtPlace place b
    → AreOutsideRuns (closing_events_at limit place)
outside_runs-closing limit place b outside = search (rules, arith)

outside_runs-cancel : (limit : Option ℕ) (place : Place) (b : ℕ) → IsOutsideRunsAtPlace place b
    → AreOutsideRuns (closing_events_at limit place ++ Execute b ∷ [])
outside_runs-cancel limit place b outside = search (rules, arith)

step-by_class : (limit : Option ℕ) (place : Place) (b : ℕ) (class : Class) → IsReachable place → class_of b ≡ class
    → Steps limit place b
step-by_class limit place b Escape is_reachable is_class =
    let same : Spans Escape b = spans b is_class in
    rw same (record {
      reported = closing_events_at limit place;
      next = AtEscape;
      is_reachable = tt;
      leads = bytes_lead-escape is_reachable;
      brief = λ size fits. closing_alone_brief limit size place fits;
      grows = λ _. omega arith;
      leaves = inl refl;
      silent_or_settles = silent_or_settles-escape limit place is_reachable;
      outside_runs = outside_runs-closing limit place _;
    })
step-by_class limit (InText opened) b Cancel is_reachable is_class =
    step-text limit opened b (cancel_is_no_escape b is_class) is_reachable
step-by_class limit place b Cancel is_reachable is_class =
    step-leaving_nothing (cancel_is_no_escape b is_class) (tt, tt) (byte-cancels is_reachable is_class)
    (λ size fits. closing_brief limit size place b fits (spans b is_class)) (outside_runs-cancel limit place b)
step-by_class limit place b class is_reachable is_class =
    step-ordinary limit place b class is_reachable (no_escape b (rw is_class refl)) is_class refl

-- Each byte reports at most two events after each place, and leads to a next place.
pub steps : {limit : Option ℕ} {place : Place} {b : ℕ} → IsReachable place → Steps limit place b
steps {limit} {place} {b} is_reachable = step-by_class limit place b (class_of b) is_reachable refl
