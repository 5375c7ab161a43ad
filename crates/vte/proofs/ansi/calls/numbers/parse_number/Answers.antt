-- A number beyond 255 stays so, whatever digits follow.
use Rattle.std.proofs.Common.{◌*◌}
use Rattle.std.specs.Char.{digit_value}
use Rattle.std.specs.Str.Parse.{digits_value_after}
use Rattle.vte.proofs.ansi.calls.numbers.parse_number.Goals as goal
use Rattle.vte.proofs.ansi.calls.numbers.parse_number.Invariants.{number_after}
use Rattle.vte.proofs.Common.{and-false, arith, decimal_number, drop, drop_all, drop_more, false, get_or, length, List, nat_lt, nat_tests, None, refl, rules, Some, sym, true, ℕ, [], ◌+◌, ◌<◌, ◌∙◌, ◌∷◌, ◌≡◌, ◌≤◌}

digits_value_after-grows : (number : ℕ) (digits : List ℕ) → number ≤ digits_value_after 10 number digits
digits_value_after-grows number [] = omega arith
digits_value_after-grows number (digit ∷ digits) =
    omega (arith, digits_value_after-grows (number * 10 + digit_value digit) digits)

decimal_number-too_large : (number : ℕ) (digits : List ℕ) (i : ℕ) → i < length digits
    → 256 ≤ number * 10 + digit_value (get_or digits i 0)
    → number_after number (drop i digits) ≡ decimal_number digits → None ≡ decimal_number digits
decimal_number-too_large number digits i inside large before =
    let digit = get_or digits i 0 in
    let all : ℕ = digits_value_after 10 (number * 10 + digit_value digit) (drop (i + 1) digits) in
    let over : nat_lt all 256 ≡ false =
    grind (arith, nat_tests, large, digits_value_after-grows (number * 10 + digit_value digit) (drop (i + 1) digits)) in
    let is_none : number_after number (digit ∷ drop (i + 1) digits) ≡ None = rw (over, and-false) refl in
    sym is_none ∙ rw (drop_more digits i 0 inside) at before

pub returns-in_err-checked_mul : goal.returns-in_err-checked_mul
returns-in_err-checked_mul c =
    c.from_residual-in_err-checked_mul.ensures
    ∙ decimal_number-too_large c.loop-byte.number c.args.digits.now c.loop-byte.byte-index c.loop-byte-test.true
    (search rules) c.loop-byte.invariant.rest

pub returns-in_err-number : goal.returns-in_err-number
returns-in_err-number c =
    c.from_residual-in_err-number.ensures
    ∙ decimal_number-too_large c.loop-byte.number c.args.digits.now c.loop-byte.byte-index c.loop-byte-test.true
    (search rules) c.loop-byte.invariant.rest

pub returns : goal.returns
returns c =
    let number = c.loop-byte.number in
    let small : nat_lt number 256 ≡ true = grind (arith, nat_tests, c.loop-byte.invariant.fits) in
    let all : number_after number [] ≡ Some number = rw small refl in
    sym all
    ∙ rw (drop_all c.loop-byte.byte-index c.args.digits.now c.loop-byte-test.false) at c.loop-byte.invariant.rest
