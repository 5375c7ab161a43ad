-- How records of a fixed size, a data area, and the input of a call represent events.
use Rattle.std.specs.Char.{encode_utf8}
use Rattle.std.specs.List.{filter, flat_map}
use Rattle.std.specs.Prelude.{Bool, drop, false, if◌then◌else◌, length, List, map, min, nat_le, suc, take, true, ℕ, [], ◌%◌, ◌*◌, ◌++◌, ◌+◌, ◌-◌, ◌/◌, ◌==◌, ◌^◌, ◌||◌, ◌∷◌}
use Rattle.std.specs.Str.{chars}
use Rattle.vte_c.specs.declared.event.VteEvent.{VteEvent}
use Rattle.vte_core.specs.Event.{CsiDispatch, EscDispatch, Event, Execute, Hook, OscDispatch, Print, Put, Unhook}
use Rattle.vte_core.specs.SystemCommand.{max_pieces}

-- ---- the data of an event

-- A number as two bytes, the low byte first.
abbrev pub two_bytes : ℕ → List ℕ
two_bytes n = n % 256 ∷ n / 256 ∷ []

-- A count as a byte.
abbrev pub count_byte : ℕ → ℕ
count_byte n = min n 255

-- A group: how many numbers it has, then the numbers.
abbrev pub group_bytes : List ℕ → List ℕ
group_bytes group = count_byte (length group) ∷ flat_map two_bytes group

-- A number as four bytes.
abbrev pub four_bytes : ℕ → List ℕ
four_bytes n = n % 256 ∷ (n / 256) % 256 ∷ (n / 65536) % 256 ∷ n / 16777216 ∷ []

-- A piece: how many bytes it has, then the bytes.
abbrev pub piece_bytes : List ℕ → List ℕ
piece_bytes piece = four_bytes (min (length piece) (2 ^ 32 - 1)) ++ piece

-- The data of an event: of a character its UTF-8, of a sequence its groups, of a command its
-- pieces, and of a data byte this byte.
abbrev pub data_of : Event → List ℕ
data_of (Print c) = encode_utf8 c
data_of (Hook groups intermediates ignore final) = flat_map group_bytes groups
data_of (CsiDispatch groups intermediates ignore final) = flat_map group_bytes groups
data_of (Put byte) = byte ∷ []
data_of (OscDispatch pieces bell) = flat_map piece_bytes pieces
data_of _ = []

-- How many data bytes of a command are kept, as `default_limit` says.
abbrev pub max_piece_bytes : ℕ
max_piece_bytes = 1024

-- A command with this many pieces, or data of this size, may have lost data.
abbrev pub is_at_limit : ℕ → ℕ → Bool
is_at_limit pieces size = nat_le max_pieces pieces || nat_le max_piece_bytes size

-- Only a command at a limit may have lost data.
abbrev pub may_have_lost : Event → Bool
may_have_lost (OscDispatch pieces bell) =
    is_at_limit (length pieces) (length (flat_map piece_bytes pieces))
may_have_lost _ = false

-- The maximum number of data bytes of what one byte of a stream adds: a command, each of whose 16
-- pieces has its length before it, and a character after it.
abbrev pub max_data_per_byte : ℕ
max_data_per_byte = max_piece_bytes + 4 * max_pieces + 4

-- The minimum room, for at least what two bytes of a stream add: how many records the caller's
-- buffer must have, how many data bytes its area, and how many bytes the buffer of `vte_strip`.
-- Two bytes add at most four events. At most one of them is a command, of at most 1,088 data bytes,
-- because the next command begins with two bytes. Each other event has at most 96 data bytes: 32
-- groups of one number. Their sum is 1,376.
abbrev pub min_events : ℕ
min_events = 4

-- More than two bytes add. Callers compile the number in (`VTE_MIN_DATA` of vte.h), so it stays.
abbrev pub min_data : ℕ
min_data = 2112

-- Each of two bytes adds at most two characters, of at most four bytes each.
abbrev pub min_text : ℕ
min_text = 16

-- ---- the record of an event

-- The numbers of the kinds, as in `vte.h`.
abbrev pub text_kind : ℕ
text_kind = 0

-- `VTE_EXECUTE`: a control character.
abbrev pub execute_kind : ℕ
execute_kind = 1

-- `VTE_HOOK`: the start of a device control string.
abbrev pub hook_kind : ℕ
hook_kind = 2

-- `VTE_DATA`: bytes of its data.
abbrev pub data_kind : ℕ
data_kind = 3

-- `VTE_UNHOOK`: its end.
abbrev pub unhook_kind : ℕ
unhook_kind = 4

-- `VTE_OSC`: an operating system command.
abbrev pub osc_kind : ℕ
osc_kind = 5

-- `VTE_CSI`: a control sequence.
abbrev pub csi_kind : ℕ
csi_kind = 6

-- `VTE_ESC`: an escape sequence.
abbrev pub esc_kind : ℕ
esc_kind = 7

-- A flag as a byte.
abbrev pub flag_byte : Bool → ℕ
flag_byte flag = if flag then 1 else 0

-- The fields other than kind and code are 0 until they are set.
abbrev pub blank_record : ℕ → ℕ → VteEvent
blank_record kind code = record {
  kind = kind;
  flag = 0;
  intermediate_count = 0;
  count = 0;
  first_intermediate = 0;
  second_intermediate = 0;
  unused = 0;
  code = code;
  start = 0;
}

-- At most two intermediates are reported. Each has a field, which is 0 if there is none.
abbrev pub kept_count : List ℕ → ℕ
kept_count [] = 0
kept_count (a ∷ []) = 1
kept_count (a ∷ b ∷ more) = 2

-- The first intermediate, or 0 if there is none.
abbrev pub first_kept : List ℕ → ℕ
first_kept [] = 0
first_kept (a ∷ more) = a

-- The second intermediate, or 0 if there is none. Those after it aren't reported.
abbrev pub second_kept : List ℕ → ℕ
second_kept (a ∷ b ∷ more) = b
second_kept _ = 0

-- The record of a sequence has the first two intermediates.
abbrev pub with_intermediates : VteEvent → List ℕ → VteEvent
with_intermediates vte_record intermediates = record vte_record {
  intermediate_count = kept_count intermediates;
  first_intermediate = first_kept intermediates;
  second_intermediate = second_kept intermediates;
}

-- The flag of a sequence is `ignore`, of a command whether BEL ended it, and of a text or of data
-- whether it is in the data area.
abbrev pub with_flag : VteEvent → Bool → VteEvent
with_flag vte_record flag = record vte_record { flag = flag_byte flag }

-- The second bit of a command's flag says that it lost data bytes.
abbrev pub with_loss : VteEvent → VteEvent
with_loss vte_record = record vte_record { flag = vte_record.flag % 2 + 2 }

-- A record without that bit, of which no clause speaks.
unfoldable pub without_loss : VteEvent → VteEvent
without_loss vte_record =
    if vte_record.kind == osc_kind
    then record vte_record { flag = vte_record.flag % 2 } else vte_record

-- The count says how many groups or pieces begin at `start`.
abbrev pub with_count : VteEvent → ℕ → VteEvent
with_count vte_record count = record vte_record { count = count_byte count }

-- The record of a sequence with parameters, whose code is the final byte.
abbrev pub sequence_record : ℕ → List (List ℕ) → List ℕ → Bool → ℕ → VteEvent
sequence_record kind groups intermediates ignore final =
    with_count (with_flag (with_intermediates (blank_record kind final) intermediates) ignore)
    (length groups)

-- The record of an event whose data starts at 0.
abbrev pub record_of : Event → VteEvent
record_of (Print c) = with_flag (blank_record text_kind (length (encode_utf8 c))) true
record_of (Execute byte) = blank_record execute_kind byte
record_of (Hook groups intermediates ignore final) =
    sequence_record hook_kind groups intermediates ignore final
record_of (Put byte) = with_flag (blank_record data_kind 1) true
record_of Unhook = blank_record unhook_kind 0
record_of (OscDispatch pieces bell) =
    with_count (with_flag (blank_record osc_kind 0) bell) (length pieces)
record_of (CsiDispatch groups intermediates ignore final) =
    sequence_record csi_kind groups intermediates ignore final
record_of (EscDispatch intermediates ignore byte) =
    with_flag (with_intermediates (blank_record esc_kind byte) intermediates) ignore

-- The number of an event's kind.
abbrev pub event_kind : Event → ℕ
event_kind event = (record_of event).kind

-- A set of kinds has a bit for each.
unfoldable pub contains_kind : ℕ → ℕ → Bool
contains_kind kinds kind = (kinds / 2 ^ (kind % 32)) % 2 == 1

-- The bits of all eight kinds (`VTE_ALL_KINDS` of vte.h).
abbrev pub all_kinds : ℕ
all_kinds = 255

-- The events of these kinds, which the caller wants.
abbrev pub wanted_events : ℕ → List Event → List Event
wanted_events kinds events = filter (λ event. contains_kind kinds (event_kind event)) events

-- What a run of bytes is: text, or data of a device control string.
pub data InputRunKind : Type 0 where
  TextRun : InputRunKind
  DataRun : InputRunKind

-- A run has the kind of its events.
abbrev pub run_kind : InputRunKind → ℕ
run_kind TextRun = text_kind
run_kind DataRun = data_kind

-- The events of a run: of a text each character is printed, of data each byte is put.
abbrev pub events_of_run : InputRunKind → List ℕ → List Event
events_of_run TextRun bytes = map Print (chars bytes)
events_of_run DataRun bytes = map Put bytes

-- The record of a run in the input: where it starts there, and how many bytes it has.
abbrev pub run_record : ℕ → ℕ → ℕ → VteEvent
run_record kind start size = record (blank_record kind size) { start = start }

-- What a record is for: an event, with its data in the area, or a run in the input.
pub data Entry : Type 0 where
  Single : Event → Entry
  InInput : InputRunKind → ℕ → ℕ → Entry

-- A run in the input has no data in the area.
abbrev pub entry_data : Entry → List ℕ
entry_data (Single event) = data_of event
entry_data (InInput run start size) = []

-- The record of an entry whose data starts at an offset.
abbrev pub record_at : ℕ → Entry → VteEvent
record_at offset (Single event) = record (record_of event) { start = offset }
record_at offset (InInput run start size) = run_record (run_kind run) start size

-- The records of entries, each of whose data starts where that of the one before it ends.
abbrev pub records_from : ℕ → List Entry → List VteEvent
records_from offset [] = []
records_from offset (entry ∷ entries) =
    record_at offset entry ∷ records_from (offset + length (entry_data entry)) entries

-- The events of an entry.
abbrev pub entry_events : List ℕ → Entry → List Event
entry_events input (Single event) = event ∷ []
entry_events input (InInput run start size) = events_of_run run (take size (drop start input))

-- ---- how a record and an area are read

-- The first numbers of an area, of two bytes each: as many as the first argument says.
abbrev pub numbers_in : ℕ → List ℕ → List ℕ
numbers_in (suc n) (low ∷ high ∷ area) = (low + 256 * high) ∷ numbers_in n area
numbers_in _ _ = []

-- The first groups of an area.
abbrev pub groups_in : ℕ → List ℕ → List (List ℕ)
groups_in (suc n) (count ∷ area) = numbers_in count area ∷ groups_in n (drop (2 * count) area)
groups_in _ _ = []

-- The first pieces of an area.
abbrev pub pieces_in : ℕ → List ℕ → List (List ℕ)
pieces_in (suc n) (a ∷ b ∷ c ∷ d ∷ area) =
    let size : ℕ = a + 256 * b + 65536 * c + 16777216 * d in
    take size area ∷ pieces_in n (drop size area)
pieces_in _ _ = []

-- As many of both fields as the record says.
abbrev pub intermediates_in : VteEvent → List ℕ
intermediates_in vte_record =
    take vte_record.intermediate_count
    (vte_record.first_intermediate ∷ vte_record.second_intermediate ∷ [])

-- The event that a record represents, with its data in the area, if it is no run.
unfoldable pub event_in : List ℕ → VteEvent → Event
event_in area vte_record =
    let later = drop vte_record.start area in
    let groups = groups_in vte_record.count later in
    if vte_record.kind == execute_kind then Execute vte_record.code
    else if vte_record.kind == hook_kind
    then Hook groups (intermediates_in vte_record) (vte_record.flag == 1) vte_record.code
    else if vte_record.kind == unhook_kind then Unhook
    else if vte_record.kind == osc_kind
    then OscDispatch (pieces_in vte_record.count later) (vte_record.flag % 2 == 1)
    else if vte_record.kind == csi_kind
    then CsiDispatch groups (intermediates_in vte_record) (vte_record.flag == 1) vte_record.code
    else EscDispatch (intermediates_in vte_record) (vte_record.flag == 1) vte_record.code

-- The bytes of a run that a record represents: in the area if it has the flag, in the input
-- otherwise.
abbrev pub run_in : List ℕ → List ℕ → VteEvent → List ℕ
run_in input area vte_record =
    take vte_record.code (drop vte_record.start (if vte_record.flag == 1 then area else input))

-- The events that a record represents.
unfoldable pub events_of : List ℕ → List ℕ → VteEvent → List Event
events_of input area vte_record =
    if vte_record.kind == text_kind then events_of_run TextRun (run_in input area vte_record)
    else if vte_record.kind == data_kind then events_of_run DataRun (run_in input area vte_record)
    else event_in area vte_record ∷ []

-- The kinds of records, in order.
abbrev pub kinds_of : List VteEvent → List ℕ
kinds_of records = map (λ vte_record. vte_record.kind) records

-- The events of the first `count` records.
abbrev pub events_in : ℕ → List VteEvent → List ℕ → List ℕ → List Event
events_in count records input area = flat_map (events_of input area) (take count records)
