-- Each round reads one byte of the head, and what was read adds up (`reads_head-then`).
use Rattle.vte_core.proofs.Common.{arith, refl, rules, sym, ◌∙◌}
use Rattle.vte_core.proofs.head.CollectedHead.read_head.Goals as goal
use Rattle.vte_core.proofs.lemmas.positions.HeadStretches.{reads_head-byte, reads_head-nothing, reads_head-then}

pub loop-position-init : goal.loop-position-init
loop-position-init c = record { reads = reads_head-nothing c.requires; looks = omega arith; no_next = refl }

pub loop-position-preserved : goal.loop-position-preserved
loop-position-preserved c =
    let invariant = c.loop-position.invariant in
    let is_head = sym c.is_head_byte.ensures ∙ c.if-not-is_head_byte.false in
    record {
      reads =
          reads_head-then invariant.reads
          (reads_head-byte (omega arith) c.byte_at-byte.ensures.value is_head c.collect_head_byte-progress.ensures);
      looks = omega arith;
      no_next = invariant.no_next;
    }

pub returns-after-loop-position-clause-reads : goal.returns-after-loop-position-clause-reads
returns-after-loop-position-clause-reads c = search (rules, arith)
