-- The digits that are left, after those of the number, give what all give.
use Rattle.std.specs.Prelude.{if◌then◌else◌, ◌&&◌}
use Rattle.std.specs.Str.{all_ascii_digits}
use Rattle.std.specs.Str.Parse.{digits_value_after}
use Rattle.vte.proofs.ansi.calls.numbers.parse_number.Given as goal
use Rattle.vte.proofs.Common.{decimal_number, drop, List, nat_lt, None, Option, Some, ℕ, ◌<◌, ◌≡◌}

-- The number that further digits write after `number`, if all are digits and it is below 256.
abbrev pub number_after : ℕ → List ℕ → Option ℕ
number_after number digits =
    if all_ascii_digits digits && nat_lt (digits_value_after 10 number digits) 256
    then Some (digits_value_after 10 number digits) else None

abbrev pub invariant-loop-byte : goal.invariant-loop-byte
invariant-loop-byte l = record {
  fits : l.number < 256;
  rest : number_after l.number (drop l.byte-index l.digits) ≡ decimal_number l.digits;
}
