-- The recursion ends, for a thousandth of a number is smaller.
use Rattle.event_log.proofs.lines.LogBuffer.+push_decimal.Given as goal

abbrev pub decreases-push_decimal : goal.decreases-push_decimal
decreases-push_decimal l = l.number
