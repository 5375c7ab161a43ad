-- The call has gone on to this position (`HasReadOn`). Each round reads a byte or more.
use Rattle.vte_c.proofs.Common.{buffers_of, HasRead, HasReadOn, length, List, ℕ, ◌-◌, ◌≡◌, ◌≤◌}
use Rattle.vte_c.proofs.feed.read_until_full.Given as goal

abbrev pub invariant-loop-position : goal.invariant-loop-position
invariant-loop-position l = record {
  within : l.position ≤ length l.bytes;
  reads_on : (already_read : List ℕ) → HasRead l.fn.parser already_read
      → HasReadOn (buffers_of l.fn.writer) (buffers_of l.writer) l.parser already_read l.bytes 0 l.position;
  nothing_read : l.position ≡ 0 → buffers_of l.writer ≡ buffers_of l.fn.writer;
}

abbrev pub decreases-loop-position : goal.decreases-loop-position
decreases-loop-position l = length l.bytes - l.position
