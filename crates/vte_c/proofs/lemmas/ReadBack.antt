-- The records and data of entries are read back as their events (`entries-read`). Each part is read from the front of
-- what is left: its length comes before it, and the data of an entry begins where that of those before it ends. More
-- bytes after the input change nothing (`entry_events-later`).
use Rattle.std.specs.Char.{encode_utf8}
use Rattle.std.specs.Prelude.{◌-◌, ◌^◌}
use Rattle.vte_c.proofs.Common.{add-zero, ap, append_assoc, AreGroups, AreReadable, arith, Bool, cases_Bool, concat, count_byte, count_of, CsiDispatch, data_of, DataRun, default_limit, drop, drop-append-le, drop-append_seam, drop-drop, Entry, entry_data, entry_events, eqb-true, EscDispatch, Event, event_in, events_of, events_of_run, false, flag_byte, flat_map, get_or, group_bytes, groups_in, Hook, InInput, inl, InputRunKind, inr, intermediates_in, IsBounded, IsRunAt, kinds_of, length, length-append, length-drop, List, map, map-set_same, min, numbers_in, osc_kind, OscDispatch, piece_bytes, pieces_in, Print, Put, record_at, records_from, refl, run_kind, run_record, set, Single, sum_by-cons, sym, take, take-append-drop, take-append-le, take-append_seam, take-map, TextRun, true, two_bytes, VteEvent, with_intermediates, with_loss, without_loss, ℕ, [], ◌%◌, ◌*◌, ◌++◌, ◌+◌, ◌/◌, ◌==◌, ◌∙◌, ◌∷◌, ◌≡◌, ◌≤◌}
use Rattle.vte_c.proofs.lemmas.Buffers.{flag_byte-halved}
use Rattle.vte_c.proofs.lemmas.Lengths.{length-groups, length-two_bytes}
use Rattle.vte_c.specs.Record.{blank_record}
use Rattle.vte_core.proofs.lemmas.bytes.Runs.{chars-encode}
use Rattle.vte_core.specs.EventBounds.{HasBoundedFields}

-- ---- groups and pieces

-- Each has its length before it, so it is read from the front, whatever follows it.

numbers-read : (numbers back : List ℕ) → numbers_in (length numbers) (flat_map two_bytes numbers ++ back) ≡ numbers
numbers-read [] back = refl
numbers-read (n ∷ numbers) back =
    let number : n % 256 + 256 * (n / 256) ≡ n = omega arith in
    rw (number, numbers-read numbers back) refl

numbers-dropped : (numbers back : List ℕ) → drop (2 * length numbers) (flat_map two_bytes numbers ++ back) ≡ back
numbers-dropped numbers back = rw (← length-two_bytes numbers) (drop-append_seam (flat_map two_bytes numbers) back)

groups-read : (groups : List (List ℕ)) (back : List ℕ) → count_of groups ≤ 255
    → groups_in (length groups) (flat_map group_bytes groups ++ back) ≡ groups
groups-read [] back small = refl
groups-read (group ∷ groups) back small =
    let all = sum_by-cons length group groups in
    let at_most : count_byte (length group) ≡ length group = omega arith in
    let rest : List ℕ = flat_map group_bytes groups ++ back in
    let parts = append_assoc (flat_map two_bytes group) (flat_map group_bytes groups) back in
    let others = groups-read groups back (omega arith) in
    rw (parts, at_most, numbers-read group rest, numbers-dropped group rest, others) refl

groups-read_by_byte : (groups : List (List ℕ)) (back : List ℕ) → AreGroups groups
    → groups_in (count_byte (length groups)) (flat_map group_bytes groups ++ back) ≡ groups
groups-read_by_byte groups back groups_are =
    let at_most : count_byte (length groups) ≡ length groups = omega (arith, length-groups groups groups_are) in
    rw at_most (groups-read groups back (omega (arith, groups_are.at_most)))

pieces-read : (pieces : List (List ℕ)) (back : List ℕ) → length (concat pieces) ≤ 2 ^ 32 - 1
    → pieces_in (length pieces) (flat_map piece_bytes pieces ++ back) ≡ pieces
pieces-read [] back small = refl
pieces-read (piece ∷ pieces) back small =
    let all = length-append piece (concat pieces) in
    let at_least : min (length piece) (2 ^ 32 - 1) ≡ length piece = omega arith in
    let n : ℕ = length piece in
    let size : n % 256 + 256 * ((n / 256) % 256) + 65536 * ((n / 65536) % 256) + 16777216 * (n / 16777216) ≡ n =
    omega arith in
    let rest : List ℕ = flat_map piece_bytes pieces ++ back in
    let parts = append_assoc piece (flat_map piece_bytes pieces) back in
    let others = pieces-read pieces back (omega arith) in
    rw (parts, at_least, size, take-append_seam piece rest, drop-append_seam piece rest, others) refl

-- ---- an event by itself, from its record and its data

-- A flag is read from a byte, and that of a command from its first bit.
flag-read : (flag : Bool) → (flag_byte flag == 1) ≡ flag
flag-read true = refl
flag-read false = refl

intermediates-read : (vte_record : VteEvent) (intermediates : List ℕ) → length intermediates ≤ 2
    → intermediates_in (with_intermediates vte_record intermediates) ≡ intermediates
intermediates-read vte_record [] at_most = refl
intermediates-read vte_record (a ∷ []) at_most = refl
intermediates-read vte_record (a ∷ b ∷ []) at_most = refl
intermediates-read vte_record (a ∷ b ∷ c ∷ later) at_most = absurd (omega arith)

-- The fields of a control sequence or a device control string.
sequence-read : (event_of : List (List ℕ) → List ℕ → Bool → ℕ → Event) (groups : List (List ℕ))
    (intermediates back : List ℕ) (ignore : Bool) {final : ℕ} → HasBoundedFields groups intermediates final
    → event_of (groups_in (count_byte (length groups)) (flat_map group_bytes groups ++ back))
    (intermediates_in (with_intermediates (blank_record 0 final) intermediates)) (flag_byte ignore == 1) final
    ≡ event_of groups intermediates ignore final
sequence-read event_of groups intermediates back ignore {final} bounded =
    rw (
      groups-read_by_byte groups back bounded.groups_are,
      intermediates-read (blank_record 0 final) intermediates bounded.few_intermediates,
      flag-read ignore,
    ) refl

-- An event is read back if its data is at its offset in the area.
single-read : (input area back : List ℕ) (offset : ℕ) (event : Event) → IsBounded default_limit event
    → drop offset area ≡ data_of event ++ back
    → events_of input area (record_at offset (Single event)) ≡ event ∷ []
unfolding events_of event_in
single-read input area back offset (Print c) bounded is_there =
    rw (is_there, take-append_seam (encode_utf8 c) back, chars-encode c bounded.0) refl
single-read input area back offset (Hook groups intermediates ignore final) bounded is_there =
    rw is_there (ap (λ (e : Event). e ∷ []) (sequence-read Hook groups intermediates back ignore bounded))
single-read input area back offset (Put byte) bounded is_there = rw is_there refl
single-read input area back offset (OscDispatch pieces bell) bounded is_there =
    let at_most : count_byte (length pieces) ≡ length pieces = omega (arith, bounded.0) in
    rw (is_there, at_most, pieces-read pieces back (omega (arith, bounded.1)), flag_byte-halved bell, flag-read bell)
    refl
single-read input area back offset (CsiDispatch groups intermediates ignore final) bounded is_there =
    rw is_there (ap (λ (e : Event). e ∷ []) (sequence-read CsiDispatch groups intermediates back ignore bounded))
single-read input area back offset (EscDispatch intermediates ignore byte) bounded is_there =
    rw (intermediates-read _ intermediates bounded.0, flag-read ignore) refl
single-read input area back offset _ bounded is_there = refl

-- ---- entries one after another

-- The data of each is where those before it end.

run-read : (input area : List ℕ) (run : InputRunKind) (start size : ℕ)
    → events_of input area (run_record (run_kind run) start size) ≡ events_of_run run (take size (drop start input))
unfolding events_of
run-read input area TextRun start size = refl
run-read input area DataRun start size = refl

entries-read_from : (input area back : List ℕ) (offset : ℕ) (entries : List Entry) → AreReadable input entries
    → drop offset area ≡ flat_map entry_data entries ++ back
    → flat_map (events_of input area) (records_from offset entries) ≡ flat_map (entry_events input) entries
entries-read_from input area back offset [] readable is_there = refl
entries-read_from input area back offset (InInput run start size ∷ entries) readable is_there =
    let others = entries-read_from input area back offset entries readable.1 is_there in
    rw (add-zero offset, run-read input area run start size, others) refl
entries-read_from input area back offset (Single event ∷ entries) readable is_there =
    let parts = append_assoc (data_of event) (flat_map entry_data entries) back in
    let rest : List ℕ = flat_map entry_data entries ++ back in
    let left : drop (offset + length (data_of event)) area ≡ rest =
    rw (← drop-drop (length (data_of event)) offset area, is_there, parts) (drop-append_seam (data_of event) rest) in
    let others = entries-read_from input area back (offset + length (data_of event)) entries readable.1 left in
    rw (single-read input area rest offset event readable.0 (rw parts at is_there), others) refl

-- Whether a command lost data isn't read.
events-without_loss : (input area : List ℕ) (vte_record : VteEvent)
    → events_of input area (without_loss vte_record) ≡ events_of input area vte_record
unfolding events_of event_in without_loss
events-without_loss input area vte_record = elim (cases_Bool (vte_record.kind == osc_kind)) [
  | inl command ↦
      let kind : vte_record.kind ≡ osc_kind = eqb-true vte_record.kind osc_kind command in
      let flag : vte_record.flag % 2 % 2 ≡ vte_record.flag % 2 = omega arith in
      rw (kind, flag) refl
  | inr other ↦
      let same : without_loss vte_record ≡ vte_record = rw other refl in
      ap (events_of input area) same
]

-- The same holds of several records.
pub records-without_loss : (input area : List ℕ) (records : List VteEvent)
    → flat_map (events_of input area) (map without_loss records) ≡ flat_map (events_of input area) records
records-without_loss input area [] = refl
records-without_loss input area (vte_record ∷ records) =
    rw (events-without_loss input area vte_record, records-without_loss input area records) refl

record-without_loss : (vte_record : VteEvent) → vte_record.kind ≡ osc_kind
    → without_loss (with_loss vte_record) ≡ without_loss vte_record
unfolding without_loss
record-without_loss vte_record command =
    let flag : (vte_record.flag % 2 + 2) % 2 ≡ vte_record.flag % 2 = omega arith in
    rw (command, flag) refl

-- Writing whether a command lost data later doesn't change what is read.
pub records-same_without_loss : (records : List VteEvent) (count offset : ℕ) (default : VteEvent)
    → (get_or records offset default).kind ≡ osc_kind
    → map without_loss (take count (set records offset (with_loss (get_or records offset default))))
    ≡ map without_loss (take count records)
records-same_without_loss records count offset default command =
    let vte_record : VteEvent = get_or records offset default in
    sym (take-map without_loss count (set records offset (with_loss vte_record)))
    ∙ ap (take count)
    (map-set_same without_loss records offset (with_loss vte_record) default (record-without_loss vte_record command))
    ∙ take-map without_loss count records

kind-without_loss : (vte_record : VteEvent) → (without_loss vte_record).kind ≡ vte_record.kind
unfolding without_loss
kind-without_loss vte_record =
    elim (cases_Bool (vte_record.kind == osc_kind)) [ inl command ↦ rw command refl | inr other ↦ rw other refl ]

-- Nor does it change the kinds of records.
pub kinds-without_loss : (records : List VteEvent) → kinds_of (map without_loss records) ≡ kinds_of records
kinds-without_loss [] = refl
kinds-without_loss (vte_record ∷ records) = rw (kind-without_loss vte_record, kinds-without_loss records) refl

-- In an area whose first bytes are the data of all entries, their records report their events.
pub entries-read : (input area : List ℕ) (used : ℕ) (entries : List Entry) → AreReadable input entries
    → take used area ≡ flat_map entry_data entries
    → flat_map (events_of input area) (records_from 0 entries) ≡ flat_map (entry_events input) entries
entries-read input area used entries readable is_there =
    entries-read_from input area (drop used area) 0 entries readable
    (rw (← is_there) (sym (take-append-drop used area)))

-- ---- entries of an input, if more bytes follow it

run-same : (input more : List ℕ) (start size : ℕ) → start + size ≤ length input
    → take size (drop start (input ++ more)) ≡ take size (drop start input)
run-same input more start size within =
    let left : start ≤ length input = omega arith in
    let at_most : size ≤ length (drop start input) = omega (arith, length-drop start input) in
    rw (drop-append-le start input more, take-append-le size (drop start input) more) refl

run-later : (input more : List ℕ) (run : InputRunKind) (start size : ℕ) → IsRunAt input run start size
    → IsRunAt (input ++ more) run start size
run-later input more run start size is_run =
    let same = run-same input more start size is_run.within in
    record {
      within = omega (arith, is_run.within, length-append input more);
      not_empty = is_run.not_empty;
      is_of_kind = rw same is_run.is_of_kind;
    }

-- Entries that can be read from an input can be read from a longer one.
pub readable-later : (input more : List ℕ) (entries : List Entry) → AreReadable input entries
    → AreReadable (input ++ more) entries
readable-later input more [] readable = tt
readable-later input more (Single event ∷ entries) readable = (readable.0, readable-later input more entries readable.1)
readable-later input more (InInput run start size ∷ entries) readable =
    (run-later input more run start size readable.0, readable-later input more entries readable.1)

-- They report the same events there.
pub entry_events-later : (input more : List ℕ) (entries : List Entry) → AreReadable input entries
    → flat_map (entry_events (input ++ more)) entries ≡ flat_map (entry_events input) entries
entry_events-later input more [] readable = refl
entry_events-later input more (Single event ∷ entries) readable =
    rw (entry_events-later input more entries readable.1) refl
entry_events-later input more (InInput run start size ∷ entries) readable =
    rw (run-same input more start size readable.0.within, entry_events-later input more entries readable.1) refl
