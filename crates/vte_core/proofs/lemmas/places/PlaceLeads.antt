-- What one byte reports after each place, and where it leads: one lemma for each kind of place and of byte, by the
-- definition of that shape alone.
--
-- A lemma is named by the place and what comes there, as `escape-end` for the end of a sequence right after ESC.
use Rattle.std.proofs.lemmas.List.{length-take}
use Rattle.vte_core.proofs.Common.{ap, append-nil, append_assoc, are_too_many, AreBrief, arith, AtEscape, bell, body_outcome, Bool, character_event, Class, class_of, cond, control_sequence_end, control_sequence_outcome, CsiDispatch, device_control_after_head, device_control_outcome, device_data_outcome, dispatches_escape, ends_device_data, ends_system_command, eqb, escape_outcome, EscapeSequence, EscDispatch, Event, Execute, executed_events, false, Final, groups_of, HasBoundedFields, Head, head_of, High, Hook, InControlSequence, InDeviceControl, InDeviceData, InEscape, InIgnoredString, InSystemCommand, Intermediate, InText, is_cancel, is_device_data, is_head_byte, is_truncated, is_well_formed, is_well_shaped, IsAtMostOneCharacter, IsBounded, IsCharacterEvent, IsExecuted, IsPrintable, kept_intermediates, Leads, length, List, malformed_event, nat_le, nat_tests, Option, OscDispatch, pieces_of, Place, PlainControl, Print, Put, refl, reported_intermediates, rules, scalar_of, sequence_event, sequence_kind, sym, system_command_outcome, text_outcome, true, Unhook, ℕ, [], ◌++◌, ◌<◌, ◌∷◌, ◌≡◌, ◌≤◌}
use Rattle.vte_core.proofs.lemmas.bytes.Classes.{below_40_is_escape_sequence, head_is_no_control, head_is_no_end, is_dropped, is_dropped_in_head, spans}
use Rattle.vte_core.proofs.lemmas.bytes.Scalars.{well_formed_is_scalar}
use Rattle.vte_core.proofs.lemmas.fields.Numbers.{AreGroups-groups_of, some_group}
use Rattle.vte_core.proofs.lemmas.shapes.FirstSegment.{text_outcome-lone, text_outcome-well_formed}
use Rattle.vte_core.specs.IgnoredString.{ignored_string_outcome}
use Rattle.vte_core.specs.private.Place.{control_sequence_from, device_control_from, escape_from, system_command_from}
use Rattle.vte_core.specs.SequenceKind.{ControlSequence, DeviceControl, IgnoredString, SequenceKind, SystemCommand}

-- ---- DEL and 80..FF

-- The places at which DEL and 80..FF are dropped.
abbrev pub drops : Place → Bool
drops (InText opened) = false
drops InDeviceData = false
drops (InSystemCommand items) = false
drops _ = true

-- There, a byte that is dropped reports nothing and changes nothing.
pub byte-dropped : {limit : Option ℕ} {place : Place} {b : ℕ} {class : Class} → drops place ≡ true → class_of b ≡ class
    → is_dropped class ≡ true → Leads limit place b [] place
unfolding body_outcome escape_from control_sequence_from device_control_from ignored_string_outcome executed_events
byte-dropped place_drops is_class dropped = search (rules, arith)

-- ---- C0

-- The places at which bytes of C0 are executed, and nothing changes.
abbrev executes : Place → Bool
executes AtEscape = true
executes (InEscape intermediates) = true
executes (InControlSequence head) = true
executes _ = false

-- There, C0 is executed.
pub byte-executed : {limit : Option ℕ} {place : Place} {b : ℕ} → executes place ≡ true → class_of b ≡ PlainControl
    → Leads limit place b (Execute b ∷ []) place
unfolding body_outcome escape_from control_sequence_from executed_events
byte-executed place_executes is_control = search (rules, arith)

-- ---- after ESC

-- The first intermediate begins an escape sequence.
pub escape-intermediate : {limit : Option ℕ} {b : ℕ} → class_of b ≡ Intermediate
    → Leads limit AtEscape b [] (InEscape (b ∷ []))
unfolding body_outcome executed_events escape_outcome escape_from
escape-intermediate {b} is_intermediate =
    let range = spans b is_intermediate in
    record { leads = λ rest. simp (is_intermediate, below_40_is_escape_sequence b (omega arith)) }

-- The place after a key that begins a body.
abbrev begun_by : SequenceKind → Place
begun_by ControlSequence = InControlSequence []
begun_by DeviceControl = InDeviceControl []
begun_by SystemCommand = InSystemCommand []
begun_by IgnoredString = InIgnoredString
begun_by EscapeSequence = AtEscape

-- Whether keys of this kind begin a body, as all but those of escape sequences do.
abbrev begins_body : SequenceKind → Bool
begins_body EscapeSequence = false
begins_body _ = true

-- A key leads to where its body begins.
pub escape-key : {limit : Option ℕ} {b : ℕ} (kind : SequenceKind) → class_of b ≡ Final → sequence_kind b ≡ kind
    → begins_body kind ≡ true
    → Leads limit AtEscape b [] (begun_by kind)
unfolding body_outcome executed_events control_sequence_outcome control_sequence_from device_control_outcome
    device_control_from system_command_outcome system_command_from
escape-key kind is_final is_kind begins = search (rules, arith)

-- ---- after ESC and intermediates

-- A further intermediate is added to those before it.
pub intermediate-more : {limit : Option ℕ} {intermediates : List ℕ} {b : ℕ} → class_of b ≡ Intermediate
    → Leads limit (InEscape intermediates) b [] (InEscape (intermediates ++ b ∷ []))
unfolding escape_from executed_events
intermediate-more is_intermediate = record { leads = λ rest. simp (is_intermediate, append_assoc) }

-- A byte that ends the sequence dispatches it, with at most two intermediates.
pub intermediate-end : {limit : Option ℕ} {intermediates : List ℕ} {b : ℕ} {class : Class} → class_of b ≡ class
    → dispatches_escape class ≡ true
    → Leads limit (InEscape intermediates) b
    (EscDispatch (kept_intermediates intermediates) (are_too_many intermediates) b ∷ []) (InText [])
unfolding escape_from executed_events
intermediate-end is_class dispatches = search (rules, arith)

-- A byte that has no other meaning after ESC ends an escape sequence.
pub escape-end : {limit : Option ℕ} {b : ℕ} {class : Class} → class_of b ≡ class → dispatches_escape class ≡ true
    → sequence_kind b ≡ EscapeSequence
    → Leads limit AtEscape b (EscDispatch [] false b ∷ []) (InText [])
unfolding body_outcome executed_events escape_outcome
escape-end is_class dispatches is_kind = search (rules, arith)

-- ---- in the head of a control sequence

-- A byte of the head is added to it.
pub control-head : {limit : Option ℕ} {head : List ℕ} {b : ℕ} → is_head_byte (class_of b) ≡ true
    → Leads limit (InControlSequence head) b [] (InControlSequence (head ++ b ∷ []))
unfolding control_sequence_from executed_events
control-head {b} is_head =
    record {
      leads = λ rest.
          simp (is_head, head_is_no_control (class_of b) is_head, head_is_no_end (class_of b) is_head, append_assoc);
    }

-- A final byte dispatches a well-shaped head, and ends any other without an event.
pub control-dispatched : {limit : Option ℕ} {head : List ℕ} {b : ℕ} → class_of b ≡ Final
    → is_well_shaped (head_of head) ≡ true
    → Leads limit (InControlSequence head) b (sequence_event CsiDispatch (head_of head) b ∷ []) (InText [])
unfolding control_sequence_from control_sequence_end executed_events
control-dispatched is_final well_shaped = record { leads = λ rest. simp (is_final, append-nil, well_shaped) }

pub control-silent : {limit : Option ℕ} {head : List ℕ} {b : ℕ} → class_of b ≡ Final
    → is_well_shaped (head_of head) ≡ false → Leads limit (InControlSequence head) b [] (InText [])
unfolding control_sequence_from control_sequence_end executed_events
control-silent is_final ill_shaped = record { leads = λ rest. simp (is_final, append-nil, ill_shaped) }

-- ---- in the head of a device control string

-- C0, DEL and 80..FF are dropped.
pub device-dropped : {limit : Option ℕ} {head : List ℕ} {b : ℕ} {class : Class} → class_of b ≡ class
    → is_dropped_in_head class ≡ true → Leads limit (InDeviceControl head) b [] (InDeviceControl head)
unfolding device_control_from
device-dropped is_class dropped = search (rules, arith)

-- A byte of the head is added to it.
pub device-head : {limit : Option ℕ} {head : List ℕ} {b : ℕ} → is_head_byte (class_of b) ≡ true
    → Leads limit (InDeviceControl head) b [] (InDeviceControl (head ++ b ∷ []))
unfolding device_control_from
device-head {b} is_head = record { leads = λ rest. simp (is_head, head_is_no_end (class_of b) is_head, append_assoc) }

-- A final byte hooks the string if its head is well shaped. Otherwise it is ignored.
pub device-well_shaped : {limit : Option ℕ} {head : List ℕ} {b : ℕ} → class_of b ≡ Final
    → is_well_shaped (head_of head) ≡ true
    → Leads limit (InDeviceControl head) b (sequence_event Hook (head_of head) b ∷ []) InDeviceData
unfolding device_control_from device_control_after_head
device-well_shaped is_final well_shaped = record { leads = λ rest. simp (is_final, append-nil, well_shaped) }

pub device-ill_shaped : {limit : Option ℕ} {head : List ℕ} {b : ℕ} → class_of b ≡ Final
    → is_well_shaped (head_of head) ≡ false → Leads limit (InDeviceControl head) b [] InIgnoredString
unfolding device_control_from device_control_after_head
device-ill_shaped is_final ill_shaped = record { leads = λ rest. simp (is_final, append-nil, ill_shaped) }

-- ---- in the data of a hooked string

-- A byte of a class that is data doesn't end the data of a device control string.
data_is_no_end : (b : ℕ) → is_device_data (class_of b) ≡ true → ends_device_data b ≡ false
unfolding class_of
data_is_no_end b is_data = grind (arith, nat_tests)

-- A data byte is put, 9C ends the string, and other bytes that end nothing are dropped.
pub data-put : {limit : Option ℕ} {b : ℕ} → is_device_data (class_of b) ≡ true
    → Leads limit InDeviceData b (Put b ∷ []) InDeviceData
unfolding device_data_outcome
data-put {b} is_data = record { leads = λ rest. simp (is_data, data_is_no_end b is_data) }

pub data-dropped : {limit : Option ℕ} {b : ℕ} → ends_device_data b ≡ false → is_device_data (class_of b) ≡ false
    → Leads limit InDeviceData b [] InDeviceData
unfolding device_data_outcome
data-dropped no_end no_data = record { leads = λ rest. simp (no_end, no_data) }

pub data-terminator : {limit : Option ℕ} {b : ℕ} → class_of b ≡ High → eqb b 0x9c ≡ true
    → Leads limit InDeviceData b (Unhook ∷ []) (InText [])
unfolding device_data_outcome
data-terminator is_high is_terminator = record { leads = λ rest. simp (is_high, is_terminator) }

-- ---- in an operating system command

item_is_no_end : (b : ℕ) → 0x20 ≤ b → ends_system_command b ≡ false
unfolding class_of
item_is_no_end b low = grind (arith, nat_tests)

-- Whether the item is kept is said at the end of the command.
pub command-item : {limit : Option ℕ} {items : List ℕ} {b : ℕ} → 0x20 ≤ b
    → Leads limit (InSystemCommand items) b [] (InSystemCommand (items ++ b ∷ []))
unfolding system_command_from
command-item {b} low =
    let is_item : nat_le 0x20 b ≡ true =
    grind (arith, nat_tests) in record { leads = λ rest. simp (item_is_no_end b low, is_item, append_assoc) }

-- In an operating system command, bytes of C0 other than BEL are dropped.
pub command-control : {limit : Option ℕ} {items : List ℕ} {b : ℕ} → class_of b ≡ PlainControl → eqb b bell ≡ false
    → Leads limit (InSystemCommand items) b [] (InSystemCommand items)
unfolding system_command_from class_of
command-control {b} is_control no_bell = search (rules, arith)

-- BEL dispatches the command.
pub command-bell : {limit : Option ℕ} {items : List ℕ} {b : ℕ} → class_of b ≡ PlainControl → eqb b bell ≡ true
    → Leads limit (InSystemCommand items) b (OscDispatch (pieces_of limit items) true ∷ []) (InText [])
unfolding system_command_from
command-bell is_control is_bell = record { leads = λ rest. simp (is_control, is_bell, append-nil) }

-- ---- in a string that means nothing

-- Bytes other than CAN and SUB report nothing and change nothing.
pub ignored-more : {limit : Option ℕ} {b : ℕ} → is_cancel (class_of b) ≡ false
    → Leads limit InIgnoredString b [] InIgnoredString
unfolding ignored_string_outcome
ignored-more no_cancel = record { leads = λ rest. simp no_cancel }

-- ---- in a text

-- This holds of any byte: that it belongs to the character is said by `IsReachable` of the next place.
pub text-open : {limit : Option ℕ} {opened : List ℕ} {b : ℕ}
    → Leads limit (InText opened) b [] (InText (opened ++ b ∷ []))
text-open {opened} {b} = record { leads = λ rest. ap text_outcome (sym (append_assoc opened (b ∷ []) rest)) }

-- The last byte of a character reports it.
pub text-well_formed : {limit : Option ℕ} {opened : List ℕ} {b : ℕ} → is_well_formed (opened ++ b ∷ []) ≡ true
    → Leads limit (InText opened) b (character_event (scalar_of (opened ++ b ∷ [])) ∷ []) (InText [])
text-well_formed {opened} {b} well_formed =
    record { leads = λ rest. rw append_assoc at (text_outcome-well_formed (opened ++ b ∷ []) rest well_formed) }

-- A byte that neither is a character nor begins one is malformed by itself.
pub text-lone : {limit : Option ℕ} {b : ℕ} → is_well_formed (b ∷ []) ≡ false → is_truncated (b ∷ []) ≡ false
    → Leads limit (InText []) b (malformed_event (b ∷ []) ∷ []) (InText [])
text-lone {b} not_well_formed not_truncated =
    record { leads = λ rest. text_outcome-lone rest b not_well_formed not_truncated }

-- ---- the events of one byte are brief

-- A character, a control, or a dispatch whose intermediates and final byte have bounds: by the kind of event.

pub executed_low : (b : ℕ) → b < 0x20 → IsExecuted b
executed_low b low = grind (arith, nat_tests)

pub two_at_most : (bytes : List ℕ) → length (kept_intermediates bytes) ≤ 2
two_at_most bytes = omega (arith, length-take 2 bytes)

-- The events of a sequence and of a hook have the same bounds.
pub bounded-head : (limit : Option ℕ) (head : Head) (final : ℕ) → (0x40 ≤ final) × (final < 0x7f)
    → IsBounded limit (sequence_event CsiDispatch head final) × IsBounded limit (sequence_event Hook head final)
unfolding sequence_event
bounded-head limit head final in_range =
    let fields
    : HasBoundedFields (groups_of head.parameter_text) (kept_intermediates (reported_intermediates head)) final =
    record {
      groups_are = AreGroups-groups_of head.parameter_text;
      some_groups = some_group head.parameter_text;
      few_intermediates = two_at_most (reported_intermediates head);
      final_at_least = in_range.0;
      final_below = in_range.1;
    } in
    (fields, fields)

is_character_event-chosen : (executed : Bool) (byte scalar : ℕ) → (executed ≡ true → IsExecuted byte)
    → (executed ≡ false → IsPrintable scalar)
    → IsCharacterEvent (cond executed (Execute byte) (Print scalar))
is_character_event-chosen true byte scalar if_executed if_printed = if_executed refl
is_character_event-chosen false byte scalar if_executed if_printed = if_printed refl

-- A character gives a character event, and so does a malformed byte.
pub is_character_event-character : (bytes : List ℕ) → is_well_formed bytes ≡ true
    → IsCharacterEvent (character_event (scalar_of bytes))
unfolding character_event
is_character_event-character bytes well_formed = search (rules, arith, is_character_event-chosen, well_formed_is_scalar)

pub is_character_event-malformed : (b : ℕ) → IsCharacterEvent (malformed_event (b ∷ []))
unfolding malformed_event
is_character_event-malformed b = search (rules, arith)

-- A character event has no fields that could be too large.
pub character_event_bounded : (limit : Option ℕ) (event : Event) → IsCharacterEvent event → IsBounded limit event
character_event_bounded limit event short = search (rules, arith)

-- A character event is brief, and so are two of them.
pub one_character-from_one_byte : (limit : Option ℕ) (reported : List Event) → IsAtMostOneCharacter reported
    → AreBrief limit reported
one_character-from_one_byte limit reported one_character = search (rules, arith)

pub one_character-append : (limit : Option ℕ) (prefix rest : List Event) → IsAtMostOneCharacter prefix
    → IsAtMostOneCharacter rest
    → AreBrief limit (prefix ++ rest)
one_character-append limit prefix rest prefix_is rest_is = search (rules, arith)
