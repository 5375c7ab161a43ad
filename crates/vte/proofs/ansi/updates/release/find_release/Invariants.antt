-- The search has come back to this position, and what it has seen decides what the whole hold does (`HasSeen`).
use Rattle.vte.proofs.ansi.updates.release.find_release.Given as goal
use Rattle.vte.proofs.Common.{IsHeldTail, length, List, ℕ, ◌++◌, ◌+◌, ◌≤◌}
use Rattle.vte.proofs.lemmas.updates.Seen.{HasSeen}

abbrev pub invariant-loop-position : goal.invariant-loop-position
invariant-loop-position l = record {
  at_most : l.begin_count + l.unread ≤ length l.bytes;
  seen : (held more : List ℕ) → IsHeldTail held more l.bytes l.start
      → HasSeen (held ++ more) (length more) (l.start + l.unread) l.first_begin l.begin_count;
}

abbrev pub decreases-loop-position : goal.decreases-loop-position
decreases-loop-position l = l.unread
