-- A byte in a text, by whether it ends, continues or breaks the open character (`step-text`), and CAN and SUB at all
-- places (`byte-cancels`).
use Rattle.vte_core.proofs.Common.{ap, append-nil, AreBrief, arith, bell, body_outcome, Cancel, cases_Bool, character_event, class_of, closing_events_at, control_sequence_end, device_control_after_head, device_data_outcome, eqb, escape, Event, Execute, executed_events, false, false≢true, inl, inr, InSystemCommand, InText, is_control_character, is_truncated, is_well_formed, IsAtMostOneCharacter, Leads, List, may_continue, nat_tests, open_data_count, Option, Place, Print, refl, replacement, report, rules, sym, text_outcome, to_close_at, true, ℕ, [], ◌++◌, ◌<◌, ◌∙◌, ◌∷◌, ◌≡◌}
use Rattle.vte_core.proofs.lemmas.bytes.Classes.{spans}
use Rattle.vte_core.proofs.lemmas.bytes.Utf8.{ascii-alone, ascii-breaks, Tests}
use Rattle.vte_core.proofs.lemmas.fields.Pieces.{few_pieces, some_pieces}
use Rattle.vte_core.proofs.lemmas.fields.PlaceOfState.{IsReachable, may_continue-truncated}
use Rattle.vte_core.proofs.lemmas.places.BytesInStream.{bytes_lead-byte, waits-byte}
use Rattle.vte_core.proofs.lemmas.places.PlaceLeads.{executed_low, is_character_event-character, is_character_event-malformed, one_character-append, one_character-from_one_byte, text-lone, text-open, text-well_formed}
use Rattle.vte_core.proofs.lemmas.places.Steps.{IsSilentOrSettles, OpenPiecesFit, Steps}
use Rattle.vte_core.proofs.lemmas.shapes.BrokenCharacters.{breaks-broken}
use Rattle.vte_core.proofs.lemmas.shapes.FirstSegment.{text_outcome-broken, text_outcome-well_formed}
use Rattle.vte_core.specs.IgnoredString.{ignored_string_outcome}
use Rattle.vte_core.specs.private.Place.{control_sequence_from, device_control_from, escape_from, system_command_from}

-- ---- a byte in a text

open_data_count-text : (limit : Option ℕ) (opened : List ℕ) → open_data_count (to_close_at limit (InText opened)) ≡ 0
open_data_count-text limit [] = refl
open_data_count-text limit (a ∷ opened) = refl

silent_or_settles-is_character : (next : Place) (reported : List Event) → IsSilentOrSettles next reported
    → IsAtMostOneCharacter reported
silent_or_settles-is_character next reported silent_or_settles = search (rules, arith)

step-silent_or_settles : {limit : Option ℕ} {opened later : List ℕ} {byte : ℕ} {reported : List Event}
    → IsSilentOrSettles (InText later) reported → eqb byte escape ≡ false
    → Leads limit (InText opened) byte reported (InText later)
    → IsReachable (InText later) → Steps limit (InText opened) byte
step-silent_or_settles {limit} {opened} {later} {byte} {reported} silent_or_settles is_no_escape leads
    is_reachable = record {
      reported = reported;
      next = InText later;
      is_reachable = is_reachable;
      leads = bytes_lead-byte is_no_escape leads;
      brief =
          λ size _. one_character-from_one_byte size reported
          (silent_or_settles-is_character (InText later) reported silent_or_settles);
      grows = λ _. omega (arith, open_data_count-text limit later);
      leaves = elim silent_or_settles [ inl nothing ↦ inr (inl nothing) | inr closed ↦ inl closed.0 ];
      silent_or_settles = λ _ _. silent_or_settles;
      outside_runs = λ outside. absurd outside;
    }

-- `Steps` need only be shown for a byte that neither ends the character nor belongs to it.
step-by_tests : {limit : Option ℕ} {opened : List ℕ} {byte : ℕ} → eqb byte escape ≡ false
    → (is_well_formed (opened ++ byte ∷ []) ≡ false → is_truncated (opened ++ byte ∷ []) ≡ false
    → Steps limit (InText opened) byte)
    → Steps limit (InText opened) byte
step-by_tests {opened} {byte} is_no_escape neither = elim (cases_Bool (is_well_formed (opened ++ byte ∷ []))) [
  | inl well_formed ↦
      step-silent_or_settles (inr (refl, is_character_event-character (opened ++ byte ∷ []) well_formed))
      is_no_escape (text-well_formed well_formed) refl
  | inr not_well_formed ↦ elim (cases_Bool (is_truncated (opened ++ byte ∷ []))) [
    | inl truncated ↦ step-silent_or_settles (inl refl) is_no_escape text-open
        (may_continue-truncated (opened ++ byte ∷ []) truncated)
    | inr not_truncated ↦ neither not_well_formed not_truncated
  ]
]

step-settled : {limit : Option ℕ} {byte : ℕ} → eqb byte escape ≡ false → Steps limit (InText []) byte
step-settled {byte} is_no_escape =
    step-by_tests is_no_escape
    (λ not_well_formed not_truncated.
    step-silent_or_settles (inr (refl, is_character_event-malformed byte)) is_no_escape
    (text-lone not_well_formed not_truncated) refl)

-- `Steps` holds for a byte that belongs to no character with those before it.
step-broken : (limit : Option ℕ) (opened : List ℕ) (byte : ℕ) → eqb byte escape ≡ false → is_truncated opened ≡ true
    → is_well_formed (opened ++ byte ∷ []) ≡ false → is_truncated (opened ++ byte ∷ []) ≡ false
    → Steps limit (InText opened) byte
step-broken limit opened byte is_no_escape truncated not_well_formed_after not_truncated_after =
    let alone : Steps limit (InText []) byte = step-settled is_no_escape in
    let silent_or_settles : IsSilentOrSettles alone.next alone.reported = alone.silent_or_settles tt refl in
    record {
      reported = Print replacement ∷ alone.reported;
      next = alone.next;
      is_reachable = alone.is_reachable;
      leads = record {
        leads = λ rest.
            waits-byte limit (InText opened) (InText []) byte (Print replacement ∷ []) rest is_no_escape
            (text_outcome-broken opened byte truncated not_well_formed_after not_truncated_after)
            ∙ ap (report (Print replacement ∷ [])) (alone.leads.leads rest);
      };
      brief =
          λ size _. one_character-append size (Print replacement ∷ []) alone.reported (refl, refl)
          (silent_or_settles-is_character alone.next alone.reported silent_or_settles);
      grows = λ no_limit. omega (arith, alone.grows no_limit);
      leaves =
          elim silent_or_settles [
            | inl nothing ↦ inr (inr (ap (λ events. Print replacement ∷ events) nothing))
            | inr closed ↦ inl closed.0
          ];
      silent_or_settles = λ _ unbroken. absurd (false≢true
          (sym unbroken ∙ breaks-broken opened byte truncated not_well_formed_after not_truncated_after));
      outside_runs = λ outside. absurd outside;
    }

pub step-text : (limit : Option ℕ) (opened : List ℕ) (byte : ℕ) → eqb byte escape ≡ false → may_continue opened ≡ true
    → Steps limit (InText opened) byte
step-text limit opened byte is_no_escape continues = search (rules, arith, step-settled, step-by_tests, step-broken)

-- ---- CAN and SUB

-- CAN and SUB end what is open, which is closed first, and then are executed, by cases of the place.

cancel_is_no_bell : (b : ℕ) → class_of b ≡ Cancel → eqb b bell ≡ false
unfolding class_of
cancel_is_no_bell b is_cancel = grind (arith, nat_tests)

text_outcome-cancel : (rest : List ℕ) (b : ℕ) → b < 0x20
    → text_outcome (b ∷ rest) ≡ report (Execute b ∷ []) (text_outcome rest)
unfolding character_event
text_outcome-cancel rest b low =
    let control : is_control_character b ≡ true = grind (arith, nat_tests) in
    rw control at (text_outcome-well_formed (b ∷ []) rest (ascii-alone b (omega arith)).is_whole)

-- CAN and SUB close what is open, and then are executed.
pub byte-cancels : {limit : Option ℕ} {place : Place} {b : ℕ} → IsReachable place → class_of b ≡ Cancel
    → Leads limit place b (closing_events_at limit place ++ Execute b ∷ []) (InText [])
unfolding body_outcome executed_events escape_from control_sequence_from control_sequence_end device_control_from
    device_control_after_head device_data_outcome system_command_from ignored_string_outcome
byte-cancels {place = InText []} {b} is_reachable is_cancel =
    record { leads = λ rest. text_outcome-cancel rest b (spans b is_cancel) }
byte-cancels {place = InText (a ∷ opened)} {b} is_reachable is_cancel =
    let low : b < 0x20 = spans b is_cancel in
    let tests : Tests (a ∷ opened ++ b ∷ []) false false = ascii-breaks (a ∷ opened) b is_reachable (omega arith) in
    record {
      leads = λ rest. text_outcome-broken (a ∷ opened) b is_reachable tests.is_whole tests.is_open rest
          ∙ ap (report (Print replacement ∷ [])) (text_outcome-cancel rest b low);
    }
byte-cancels {place = InSystemCommand items} {b} is_reachable is_cancel =
    record { leads = λ rest. simp (is_cancel, cancel_is_no_bell b is_cancel, append-nil) }
byte-cancels is_reachable is_cancel = record { leads = λ rest. simp is_cancel }

-- ---- what ESC, CAN and SUB report is no more than one byte may

pub closing_brief : (limit size : Option ℕ) (place : Place) (b : ℕ) → OpenPiecesFit size (to_close_at limit place)
    → b < 0x20
    → AreBrief size (closing_events_at limit place ++ Execute b ∷ [])
closing_brief limit size place b fits low = search (rules, arith, executed_low, few_pieces, some_pieces)

pub closing_alone_brief : (limit size : Option ℕ) (place : Place) → OpenPiecesFit size (to_close_at limit place)
    → AreBrief size (closing_events_at limit place)
closing_alone_brief limit size place fits = search (rules, arith, few_pieces, some_pieces)
