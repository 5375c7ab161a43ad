-- Neither sequence begins in the blocks so far.
use Rattle.std.proofs.Common.{◌≤◌}
use Rattle.vte.proofs.ansi.updates.release.skip_blocks.Given as goal
use Rattle.vte.specs.private.Hold.{HasNoSequenceBetween}

abbrev pub invariant-loop-unread : goal.invariant-loop-unread
invariant-loop-unread l = record {
  within : l.unread ≤ l.before;
  none : HasNoSequenceBetween l.bytes l.unread l.before;
}

abbrev pub decreases-loop-unread : goal.decreases-loop-unread
decreases-loop-unread l = l.unread
