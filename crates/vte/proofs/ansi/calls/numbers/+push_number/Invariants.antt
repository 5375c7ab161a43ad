-- The recursion ends, for a tenth of a number is smaller.
use Rattle.vte.proofs.ansi.calls.numbers.+push_number.Given as goal

abbrev pub decreases-push_number : goal.decreases-push_number
decreases-push_number g l = l.number
