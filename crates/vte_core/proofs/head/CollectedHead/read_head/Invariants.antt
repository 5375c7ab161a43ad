-- The head is read up to this position, with one look for each byte.
use Rattle.vte_core.proofs.Common.{length, looks_of, None, ReadsHead, ◌+◌, ◌-◌, ◌≡◌}
use Rattle.vte_core.proofs.head.CollectedHead.read_head.Given as goal

abbrev pub invariant-loop-position : goal.invariant-loop-position
invariant-loop-position l = record {
  reads : ReadsHead l.input.bytes.now l.from l.position l.fn.reached l.progress l.initial.self l.self;
  looks : looks_of l.reader + l.from ≡ looks_of l.initial.reader + l.position;
  no_next : l.next_byte ≡ None;
}

abbrev pub decreases-loop-position : goal.decreases-loop-position
decreases-loop-position l = length l.input.bytes.now - l.position
