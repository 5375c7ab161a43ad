-- How long the text of an event is, part by part, and how many events bytes add: at most two each. So the text of bytes
-- is at most eight times as long as they are (`text_grows_slowly`).
use Rattle.std.proofs.lemmas.List.Sums.{sum_by-cons}
use Rattle.event_log.proofs.Common.{added, All, All-head, All-tail, AllFitU16, AreBrief, AreGroups, arith, Bool, codes, concat, count_of, CsiDispatch, decimal, default_limit, EscDispatch, Event, Execute, false, FitsU16, flag_field, flat_map, group_text, hex_byte, hex_character, hex_digits, hex_field, hex_length, Hook, if◌then◌else◌, is_layout, IsBounded, IsNonEmpty, join_with_byte, len_utf8_bounds, length, length-append, length-decimal-le, length-encode, line_feed, line_of, List, map, max, nat_tests, OscDispatch, pieces_fields, plain_text_of, Print, refl, semicolon, sequence_fields, shown, suc, true, zero, ℕ, [], ◌*◌, ◌++◌, ◌+◌, ◌/◌, ◌<◌, ◌∷◌, ◌≡◌, ◌≤◌}
use Rattle.event_log.proofs.lemmas.CollectedTexts.{max_of_character_line, max_of_line, UnitsFit}
use Rattle.vte_core.proofs.lemmas.streams.After.{added-nothing}
use Rattle.vte_core.proofs.lemmas.streams.EarlyStops.{added-append}

-- ---- fields

length-hex_digits : (count n : ℕ) → length (hex_digits count n) ≡ count
unfolding hex_digits
length-hex_digits zero n = refl
length-hex_digits (suc count) n = simp length-append (omega (arith, length-hex_digits count (n / 16)))

length-hex_character : (least c : ℕ) → least ≤ 6 → length (hex_character least c) ≤ 6
unfolding hex_character hex_length
length-hex_character least c few =
    let at_most : hex_length c ≤ 6 = grind (arith, nat_tests) in
    omega (arith, length-hex_digits (max least (hex_length c)) c)

length-hex_bytes : (bytes : List ℕ) → length (flat_map hex_byte bytes) ≡ 2 * length bytes
unfolding hex_byte
length-hex_bytes [] = refl
length-hex_bytes (b ∷ bytes) = omega (arith, length-hex_bytes bytes)

length-hex_field : (bytes : List ℕ) → length (hex_field bytes) ≤ 2 + 2 * length bytes
unfolding hex_field
length-hex_field [] = omega arith
length-hex_field (b ∷ bytes) = omega (arith, length-hex_bytes (b ∷ bytes))

length-flag_field : (flag : Bool) → length (flag_field flag) ≤ 6
unfolding flag_field
length-flag_field true = omega arith
length-flag_field false = omega arith

length-pieces : (pieces : List (List ℕ))
    → length (flat_map hex_field pieces) ≤ 2 * length pieces + 2 * length (concat pieces)
length-pieces [] = omega arith
length-pieces (p ∷ pieces) = simp length-append (omega (arith, length-hex_field p, length-pieces pieces))

-- Each number has at most five digits, and `:` before it.
length-numbers : (group : List ℕ) → All FitsU16 group → length (group_text group) ≤ 6 * length group
length-numbers [] small = omega arith
length-numbers (x ∷ []) small =
    let here = All-head FitsU16 x [] small in
    length-decimal-le 6 x (omega arith) (omega arith) (omega arith)
length-numbers (x ∷ y ∷ group) small =
    let here = All-head FitsU16 x (y ∷ group) small in
    let few : length (decimal x) ≤ 5 = length-decimal-le 5 x (omega arith) (omega arith) (omega arith) in
    simp length-append (omega (arith, length-numbers (y ∷ group) (All-tail FitsU16 x (y ∷ group) small)))

-- There are at most 32 numbers, with five digits each, a `:`, and a `;` if its group begins with it.
length-shown : (groups : List (List ℕ)) → AreGroups groups → length (shown groups) ≤ 224
unfolding shown
length-shown groups groups_are = omega (arith, joined groups groups_are.filled groups_are.small, groups_are.at_most)
  where
    joined : (groups : List (List ℕ)) → All IsNonEmpty groups → All AllFitU16 groups
        → length (join_with_byte semicolon (map group_text groups)) ≤ 7 * count_of groups
    joined [] filled small = omega arith
    joined (x ∷ []) filled small =
        omega (arith, length-numbers x (All-head AllFitU16 x [] small), sum_by-cons length x [])
    joined (x ∷ y ∷ groups) filled small =
        let not_empty : 0 < length x = All-head IsNonEmpty x (y ∷ groups) filled in
        simp length-append (omega (
          arith,
          length-numbers x (All-head AllFitU16 x (y ∷ groups) small),
          joined (y ∷ groups) (All-tail IsNonEmpty x (y ∷ groups) filled)
              (All-tail AllFitU16 x (y ∷ groups) small),
          sum_by-cons length x (y ∷ groups),
        ))

-- ---- lines

length-line_of_character : (c : ℕ) → length (line_of (Print c)) ≤ max_of_character_line
unfolding line_of
length-line_of_character c = simp length-append (omega (arith, length-hex_character 4 c (omega arith)))

-- The groups have 224 bytes and 3 around them, the intermediates 2 and their digits, the flag 6, and the final byte 7.
length-sequence_fields : (groups : List (List ℕ)) (intermediates : List ℕ) (ignore : Bool) (final : ℕ)
    → AreGroups groups
    → length (sequence_fields groups intermediates ignore final) ≤ 242 + 2 * length intermediates
unfolding sequence_fields
length-sequence_fields groups intermediates ignore final groups_are =
    simp length-append
    (omega (
      arith,
      length-shown groups groups_are,
      length-hex_field intermediates,
      length-flag_field ignore,
      length-hex_character 2 final (omega arith),
    ))

length-sequence_line : (name : List ℕ) (groups : List (List ℕ)) (intermediates : List ℕ) (ignore : Bool) (final : ℕ)
    → length name ≤ 4 → AreGroups groups → length intermediates ≤ 2
    → length (name ++ sequence_fields groups intermediates ignore final ++ line_feed) ≤ max_of_line
length-sequence_line name groups intermediates ignore final short_name groups_are few_intermediates =
    simp length-append (omega (
      arith,
      length-sequence_fields groups intermediates ignore final groups_are,
      short_name,
      few_intermediates,
    ))

length-line : (event : Event) → IsBounded default_limit event → length (line_of event) ≤ max_of_line
unfolding line_of hex_byte pieces_fields
length-line (Print c) bounded = omega (arith, length-line_of_character c)
length-line (Hook groups intermediates ignore final) bounded =
    length-sequence_line (codes "hook") groups intermediates ignore final (omega arith) bounded.groups_are
    bounded.few_intermediates
length-line (CsiDispatch groups intermediates ignore final) bounded =
    length-sequence_line (codes "csi") groups intermediates ignore final (omega arith) bounded.groups_are
    bounded.few_intermediates
length-line (OscDispatch pieces bell) bounded =
    let count : length (decimal (length pieces)) ≤ 2 =
    length-decimal-le 2 (length pieces) (omega arith) (omega arith) (omega arith) in
    simp length-append (omega (arith, length-flag_field bell, length-pieces pieces))
length-line (EscDispatch intermediates ignore byte) bounded =
    simp length-append (omega (arith, length-hex_field intermediates, length-flag_field ignore))
length-line _ bounded = omega arith

-- At most two lines are reported up to the next start, the second for a character or a control.
pub line_units_fit : UnitsFit line_of
unfolding line_of hex_byte
line_units_fit [] brief = omega arith
line_units_fit (event ∷ []) brief = simp length-append (omega (arith, length-line event brief))
line_units_fit (event ∷ Print c ∷ []) brief =
    simp length-append (omega (arith, length-line event brief.0, length-hex_character 4 c (omega arith)))
line_units_fit (event ∷ Execute byte ∷ []) brief = simp length-append (omega (arith, length-line event brief.0))
line_units_fit (event ∷ last ∷ []) brief = absurd brief.1
line_units_fit (event ∷ last ∷ third ∷ events) brief = absurd brief

-- ---- plain text

length-layout : (byte : ℕ) (layout : Bool) → length (if layout then byte ∷ [] else []) ≤ 4
length-layout byte true = omega arith
length-layout byte false = omega arith

length-text : (event : Event) → length (plain_text_of event) ≤ 4
unfolding plain_text_of
length-text (Print c) = omega (arith, length-encode c, (len_utf8_bounds c).1)
length-text (Execute byte) = length-layout byte (is_layout byte)
length-text _ = omega arith

length-texts : (events : List Event) → length (flat_map plain_text_of events) ≤ 4 * length events
length-texts [] = omega arith
length-texts (event ∷ events) = simp length-append (omega (arith, length-text event, length-texts events))

-- ---- what bytes add

-- One byte adds at most two events, of which only the first may be long.
abbrev pub BytesAreBrief : Type 0
BytesAreBrief = (stream : List ℕ) (byte : ℕ) → AreBrief default_limit (added default_limit stream (byte ∷ []))

events-at_most_two : (events : List Event) → AreBrief default_limit events → length events ≤ 2
events-at_most_two [] brief = omega arith
events-at_most_two (event ∷ []) brief = omega arith
events-at_most_two (event ∷ last ∷ []) brief = omega arith
events-at_most_two (event ∷ last ∷ third ∷ events) brief = absurd brief

events_grow_slowly : BytesAreBrief → (stream bytes : List ℕ)
    → length (added default_limit stream bytes) ≤ 2 * length bytes
events_grow_slowly brief stream [] = rw added-nothing (omega arith)
events_grow_slowly brief stream (b ∷ bytes) =
    rw (added-append default_limit stream (b ∷ []) bytes) (simp length-append
    (omega (
      arith,
      events-at_most_two (added default_limit stream (b ∷ [])) (brief stream b),
      events_grow_slowly brief (stream ++ b ∷ []) bytes,
    )))

-- The text of what bytes add has at most eight bytes for each of them.
pub text_grows_slowly : BytesAreBrief → (stream bytes : List ℕ)
    → length (flat_map plain_text_of (added default_limit stream bytes)) ≤ 8 * length bytes
text_grows_slowly brief stream bytes =
    omega (arith, length-texts (added default_limit stream bytes), events_grow_slowly brief stream bytes)
