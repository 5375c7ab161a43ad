-- The parts of a line. Those that are pushed one after another extend it by all of them (`extends_then`); the digits of
-- a number and the fields of pieces are such parts.
use Rattle.std.proofs.lemmas.List.Folds.{flat_map-map}
use Rattle.std.proofs.lemmas.Slice.Eq.{bytes_eq-Decides}
use Rattle.event_log.proofs.Common.{ap, append_assoc, arith, blank, Bool, bytes_eq, codes, Decides-below_and, decimal, decimal_digit, decimal_step, drop, ExtendsLine, false, flat_map, get_or, has_room_after, hex_byte, hex_character, hex_digit, hex_digits, hex_field, hex_length, IsTrue, length, length-append, length-map, line_feed, line_of, List, LogBuffer, map, max, nat_tests, pieces_fields, Print, refl, suc, sym, take, true, zero, ℕ, [], ◌%◌, ◌&&◌, ◌*◌, ◌++◌, ◌+◌, ◌-◌, ◌/◌, ◌<◌, ◌^◌, ◌∙◌, ◌∷◌, ◌≡◌, ◌≤◌}
use Rattle.event_log.specs.declared.lines.hex.TheConstants.{HEX_PAIRS}

-- Two texts have room one after the other exactly if they have room together.
texts-fit_together : (before between both : Bool) (bytes first reached second : List ℕ)
    → between ≡ (before && has_room_after bytes first) → both ≡ (between && has_room_after reached second)
    → (IsTrue between → reached ≡ bytes ++ first) → both ≡ (before && has_room_after bytes (first ++ second))
texts-fit_together false between both bytes first reached second first_fits second_fits appended =
    rw (second_fits, first_fits)
texts-fit_together true true both bytes first reached second first_fits second_fits appended = simp length-append
    (let sizes = ap length (appended refl) ∙ length-append bytes first in grind (arith, nat_tests))
texts-fit_together true false both bytes first reached second first_fits second_fits appended =
    simp length-append (grind (arith, nat_tests))

-- A line that doesn't fit doesn't fit with more either.
texts-first_fits : (between both has_room : Bool) → both ≡ (between && has_room) → IsTrue both → IsTrue between
texts-first_fits true both has_room both_fit fit = refl
texts-first_fits false both has_room both_fit fit = sym both_fit ∙ fit

-- A line that is extended by a text and then by another is extended by both together.
pub extends_then : {old mid new : LogBuffer} {first second : List ℕ} → ExtendsLine old first mid
    → ExtendsLine mid second new → ExtendsLine old (first ++ second) new
extends_then {old} {mid} {new} {first} {second} first_extends second_extends = record {
  start = second_extends.start ∙ first_extends.start;
  fits =
      texts-fit_together old.fits mid.fits new.fits old.bytes.items first mid.bytes.items second first_extends.fits
      second_extends.fits first_extends.appended;
  appended = λ fits. second_extends.appended fits
      ∙ ap (λ (bytes : List ℕ). bytes ++ second)
      (first_extends.appended (texts-first_fits _ _ _ second_extends.fits fits))
      ∙ append_assoc old.bytes.items first second;
  kept = (
    first_extends.kept.0 ++ second_extends.kept.0,
    second_extends.kept.1 ∙ ap (λ (bytes : List ℕ). bytes ++ second_extends.kept.0) first_extends.kept.1
        ∙ append_assoc old.bytes.items first_extends.kept.0 second_extends.kept.0,
  );
  lost = second_extends.lost ∙ first_extends.lost;
}

-- ---- decimal digits

-- The digits of a small number, by how many it has.
pub decimal-one_digit : (n : ℕ) → n < 10 → decimal n ≡ (0x30 + n % 10) ∷ []
decimal-one_digit n low = grind (arith, decimal_digit)

pub decimal-two_digits : (n : ℕ) → 10 ≤ n → n < 100 → decimal n ≡ (0x30 + n / 10 % 10) ∷ (0x30 + n % 10) ∷ []
decimal-two_digits n high low = grind (arith, decimal_step, decimal-one_digit)

-- A number's last three digits come after those of its thousands.
pub decimal-three_more : (n : ℕ) → 1000 ≤ n → n < 2 ^ 64
    → decimal n ≡ decimal (n / 1000) ++ (0x30 + n / 100 % 10) ∷ (0x30 + n / 10 % 10) ∷ (0x30 + n % 10) ∷ []
decimal-three_more n high fits = grind (arith, decimal_step, append_assoc)

pub decimal-three_digits : (n : ℕ) → 100 ≤ n → n < 1000
    → decimal n ≡ (0x30 + n / 100 % 10) ∷ (0x30 + n / 10 % 10) ∷ (0x30 + n % 10) ∷ []
decimal-three_digits n high low = grind (arith, decimal_step, decimal-two_digits)

-- The fields of pieces are pushed one after another.
pub pieces_fields-as_pushed : {P : Type 0} (bytes_of : P → List ℕ) (pieces : List P)
    → pieces_fields (map bytes_of pieces)
    ≡ blank ++ decimal (length pieces) ++ flat_map (λ piece. hex_field (bytes_of piece)) pieces
unfolding pieces_fields
pieces_fields-as_pushed bytes_of pieces = rw (length-map, flat_map-map hex_field bytes_of pieces) refl

-- ---- the two hex digits of each byte

-- The table has them: a test of all 256 entries computes to true.

-- The two digits that the table has for a byte.
abbrev entry : ℕ → List ℕ
entry b = get_or HEX_PAIRS.now (2 * b) 0 ∷ get_or HEX_PAIRS.now (2 * b + 1) 0 ∷ []

-- Whether the table has the digits of each byte below n.
abbrev entries_match : ℕ → Bool
entries_match zero = true
entries_match (suc n) = bytes_eq (entry n) (hex_byte n) && entries_match n

entries_checked : entries_match 256 ≡ true
unfolding hex_byte hex_digit
entries_checked = refl

-- The table has the digits of the definition at each byte.
pub entry-of_byte : (b : ℕ) → b < 256
    → get_or HEX_PAIRS.now (2 * b) 0 ∷ get_or HEX_PAIRS.now (2 * b + 1) 0 ∷ [] ≡ hex_byte b
entry-of_byte =
    (Decides-below_and (λ b. bytes_eq (entry b) (hex_byte b)) (λ b. entry b ≡ hex_byte b) entries_match
    (λ b. bytes_eq-Decides _ _) refl (λ _. refl) 256).0 entries_checked

-- ---- the line of a character

-- A number below 2 ^ 16 has the digits of two bytes, and six digits are those of three bytes.
four_digits-of_bytes : (n : ℕ) → n < 0x10000 → hex_digits 4 n ≡ hex_byte (n / 0x100) ++ hex_byte (n % 0x100)
unfolding hex_digits hex_byte
four_digits-of_bytes n below =
    let first : n / 16 / 16 / 16 % 16 ≡ n / 0x100 / 16 = omega arith in
    let second : n / 16 / 16 % 16 ≡ n / 0x100 % 16 = omega arith in
    let third : n / 16 % 16 ≡ n % 0x100 / 16 = omega arith in
    let fourth : n % 16 ≡ n % 0x100 % 16 = omega arith in
    rw (first, second, third, fourth) refl

pub six_digits-of_bytes : (n : ℕ)
    → hex_digits 6 n ≡ hex_byte (n / 0x10000 % 0x100) ++ (hex_byte (n / 0x100 % 0x100) ++ hex_byte (n % 0x100))
unfolding hex_digits hex_byte
six_digits-of_bytes n =
    let first : n / 16 / 16 / 16 / 16 / 16 % 16 ≡ n / 0x10000 % 0x100 / 16 = omega arith in
    let second : n / 16 / 16 / 16 / 16 % 16 ≡ n / 0x10000 % 0x100 % 16 = omega arith in
    let third : n / 16 / 16 / 16 % 16 ≡ n / 0x100 % 0x100 / 16 = omega arith in
    let fourth : n / 16 / 16 % 16 ≡ n / 0x100 % 0x100 % 16 = omega arith in
    let fifth : n / 16 % 16 ≡ n % 0x100 / 16 = omega arith in
    let sixth : n % 16 ≡ n % 0x100 % 16 = omega arith in
    rw (first, second, third, fourth, fifth, sixth) refl

-- The line of a character has four, five or six hex digits, by the size of its number.

pub line_of-four_digits : (n : ℕ) → n < 0x10000
    → line_of (Print n) ≡ codes "print " ++ (hex_byte (n / 0x100) ++ hex_byte (n % 0x100)) ++ line_feed
unfolding line_of hex_character hex_length
line_of-four_digits n below =
    let count : max 4 (hex_length n) ≡ 4 = grind (arith, nat_tests) in
    rw (count, four_digits-of_bytes n below) refl

pub line_of-five_digits : (n : ℕ) → 0x10000 ≤ n → n < 0x100000
    → line_of (Print n) ≡ codes "print " ++ hex_digits 5 n ++ line_feed
unfolding line_of hex_character hex_length
line_of-five_digits n above below =
    let count : max 4 (hex_length n) ≡ 5 = grind (arith, nat_tests) in
    rw count refl

pub line_of-six_digits : (n : ℕ) → 0x100000 ≤ n → line_of (Print n) ≡ codes "print " ++ hex_digits 6 n ++ line_feed
unfolding line_of hex_character hex_length
line_of-six_digits n above =
    let count : max 4 (hex_length n) ≡ 6 = grind (arith, nat_tests) in
    rw count refl

-- The last digits of six, as many as that.
pub last_digits : (count n : ℕ) → count ≤ 6
    → take (6 - (6 - count)) (drop (6 - count) (hex_digits 6 n)) ≡ hex_digits count n
unfolding hex_digits
last_digits zero n few = refl
last_digits (suc zero) n few = refl
last_digits (suc (suc zero)) n few = refl
last_digits (suc (suc (suc zero))) n few = refl
last_digits (suc (suc (suc (suc zero)))) n few = refl
last_digits (suc (suc (suc (suc (suc zero))))) n few = refl
last_digits (suc (suc (suc (suc (suc (suc zero)))))) n few = refl
last_digits (suc (suc (suc (suc (suc (suc (suc count))))))) n few = absurd (omega arith)
