-- A number of up to three digits is pushed digit by digit; a longer one is its thousands, and then its last three
-- digits.
use Rattle.event_log.proofs.Common.{arith}
use Rattle.event_log.proofs.lemmas.Fields.{decimal-one_digit, decimal-three_digits, decimal-three_more, decimal-two_digits, extends_then}
use Rattle.event_log.proofs.lines.LogBuffer.+push_decimal.Goals as goal

pub returns-in-0-to-9 : goal.returns-in-0-to-9
returns-in-0-to-9 t c = rw (decimal-one_digit c.args.number (omega arith)) (rw c.digit.ensures at c.push.ensures)

pub returns-in-10-to-99 : goal.returns-in-10-to-99
returns-in-10-to-99 t c =
    rw (decimal-two_digits c.args.number (omega arith) (omega arith))
    (rw (c.digit-in-10-to-99.ensures, c.digit-in-10-to-99-2.ensures) at c.push-in-10-to-99.ensures)

pub returns-in-100-to-999 : goal.returns-in-100-to-999
returns-in-100-to-999 t c =
    rw (decimal-three_digits c.args.number (omega arith) (omega arith))
    (rw (
      c.digit-in-100-to-999.ensures,
      c.digit-in-100-to-999-2.ensures,
      c.digit-in-100-to-999-3.ensures,
    ) at c.push-in-100-to-999.ensures)

pub returns-in_default : goal.returns-in_default
returns-in_default t c =
    rw (decimal-three_more c.args.number (omega arith) (omega arith))
    (extends_then c.push_decimal.ensures
    (rw (
      c.digit-in_default.ensures,
      c.digit-in_default-2.ensures,
      c.digit-in_default-3.ensures,
    ) at c.push-in_default.ensures))
