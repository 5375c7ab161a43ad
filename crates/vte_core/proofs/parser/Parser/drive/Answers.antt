-- With a limit nothing is refused. A call that never stops reads all bytes; one that stops says where.
use Rattle.vte_core.proofs.Common.{sym, ◌∙◌}
use Rattle.vte_core.proofs.lemmas.positions.Contracts.{costs-added, reads-bytes, reads-until}
use Rattle.vte_core.proofs.lemmas.positions.SettledStates.{all_read-unless_asked}
use Rattle.vte_core.proofs.parser.Parser.drive.Goals as goal

pub returns-in-Ok-clause-reads_all : goal.returns-in-Ok-clause-reads_all
returns-in-Ok-clause-reads_all g c = λ never.
    let d = rw c.in-Ok.is at c.drive-result.ensures.reads in
    rw (← c.into_reader-reader.ensures.bytes)
    (reads-bytes (all_read-unless_asked _ _ d.within (λ left. sym never ∙ d.may_stop left)) d
    (costs-added c.into_reader-reader.ensures.looks c.add.ensures (rw c.in-Ok.is at c.drive-result.ensures.costs)))

pub returns-in-Ok-clause-stops : goal.returns-in-Ok-clause-stops
returns-in-Ok-clause-stops g c = λ may_stop.
    rw (← c.into_reader-reader.ensures.bytes)
    (reads-until may_stop (rw c.in-Ok.is at c.drive-result.ensures.reads)
    (costs-added c.into_reader-reader.ensures.looks c.add.ensures (rw c.in-Ok.is at c.drive-result.ensures.costs)))
