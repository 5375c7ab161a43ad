-- The numbers are read up to this position; the last one is open, in a local variable. One look for each byte.
use Rattle.vte_core.proofs.Common.{length, looks_of, None, progress_after, ReadsHead, ◌+◌, ◌-◌, ◌≡◌, ◌≤◌}
use Rattle.vte_core.proofs.head.CollectedHead.read_numbers.Given as goal
use Rattle.vte_core.specs.Parameters.{greatest_number}
use Rattle.vte_core.specs.private.CollectedHead.{with_open_number}

abbrev pub invariant-loop-position : goal.invariant-loop-position
invariant-loop-position l = record {
  reads : ReadsHead l.input.bytes.now l.from l.position l.reached
      (progress_after l.reached l.from l.position) l.initial.self (with_open_number l.self l.number);
  looks : looks_of l.reader + l.from ≡ looks_of l.initial.reader + l.position;
  no_next : l.next_byte ≡ None;
  small : l.number ≤ greatest_number;
  joined : l.self.joined ≡ l.initial.self.joined;
}

abbrev pub decreases-loop-position : goal.decreases-loop-position
decreases-loop-position l = length l.input.bytes.now - l.position
