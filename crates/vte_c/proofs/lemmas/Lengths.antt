-- How long the data of an event are, part by part. Each event has at most 1,088 bytes (`data_of-at_most`), and the
-- second one that a byte adds at most four (`data_of-character_event`).
use Rattle.vte_c.proofs.Common.{All, All-head, All-tail, AreGroups, arith, concat, count_of, CsiDispatch, data_of, default_limit, Event, Execute, flat_map, group_bytes, Hook, IsBounded, IsCharacterEvent, IsNonEmpty, len_utf8_bounds, length, length-append, length-encode, List, OscDispatch, piece_bytes, Print, refl, sum_by-cons, two_bytes, ℕ, [], ◌*◌, ◌+◌, ◌<◌, ◌∷◌, ◌≡◌, ◌≤◌}

-- Each number has two bytes.
pub length-two_bytes : (numbers : List ℕ) → length (flat_map two_bytes numbers) ≡ 2 * length numbers
length-two_bytes [] = refl
length-two_bytes (n ∷ numbers) = omega (arith, length-two_bytes numbers)

length-group_bytes : (groups : List (List ℕ))
    → length (flat_map group_bytes groups) ≡ length groups + 2 * count_of groups
length-group_bytes [] = refl
length-group_bytes (group ∷ groups) =
    let parts = length-append (group_bytes group) (flat_map group_bytes groups) in
    let all = sum_by-cons length group groups in
    omega (arith, parts, all, length-two_bytes group, length-group_bytes groups)

length-piece_bytes : (pieces : List (List ℕ))
    → length (flat_map piece_bytes pieces) ≡ 4 * length pieces + length (concat pieces)
length-piece_bytes [] = refl
length-piece_bytes (piece ∷ pieces) =
    let parts = length-append (piece_bytes piece) (flat_map piece_bytes pieces) in
    omega (arith, parts, length-append piece (concat pieces), length-piece_bytes pieces)

length-filled : (groups : List (List ℕ)) → All IsNonEmpty groups → length groups ≤ count_of groups
length-filled [] filled = omega arith
length-filled (group ∷ groups) filled =
    let not_empty : 0 < length group = All-head IsNonEmpty group groups filled in
    omega (arith, sum_by-cons length group groups, length-filled groups (All-tail IsNonEmpty group groups filled))

-- Each group has a number, and there are at most 32 numbers.
pub length-groups : (groups : List (List ℕ)) → AreGroups groups → length groups ≤ 32
length-groups groups groups_are = omega (arith, length-filled groups groups_are.filled, groups_are.at_most)

group_bytes-at_most : (groups : List (List ℕ)) → AreGroups groups → length (flat_map group_bytes groups) ≤ 96
group_bytes-at_most groups groups_are =
    omega (arith, length-group_bytes groups, length-groups groups groups_are, groups_are.at_most)

-- No event has more data bytes: a command has at most 16 pieces, each after four bytes, with 1,024 bytes together. A
-- sequence has at most 96: 32 groups, each after one byte, with 32 numbers of two bytes together.
abbrev max_event_data : ℕ
max_event_data = 1088

-- A command has the most, and a character at most four.
pub data_of-at_most : (event : Event) → IsBounded default_limit event → length (data_of event) ≤ max_event_data
data_of-at_most (Print c) bounded = omega (arith, length-encode c, (len_utf8_bounds c).1)
data_of-at_most (Hook groups intermediates ignore final) bounded =
    omega (arith, group_bytes-at_most groups bounded.groups_are)
data_of-at_most (OscDispatch pieces bell) bounded = omega (arith, length-piece_bytes pieces, bounded.0, bounded.1)
data_of-at_most (CsiDispatch groups intermediates ignore final) bounded =
    omega (arith, group_bytes-at_most groups bounded.groups_are)
data_of-at_most _ bounded = omega arith

-- The second event that a byte adds is a character event, with little data.
pub data_of-character_event : (event : Event) → IsCharacterEvent event → length (data_of event) ≤ 4
data_of-character_event (Print c) short = omega (arith, length-encode c, (len_utf8_bounds c).1)
data_of-character_event (Execute byte) short = omega arith
data_of-character_event _ short = absurd short
