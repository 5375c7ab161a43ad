-- With a limit nothing is refused, so a run is found.
use Rattle.vte_core.proofs.lemmas.positions.Contracts.{costs-added}
use Rattle.vte_core.proofs.parser.Parser.drive_to_run.Goals as goal

pub returns-in-Ok : goal.returns-in-Ok
returns-in-Ok g c =
    let driven = c.drive_to_run-result.ensures in
    let costs = costs-added c.into_reader-reader.ensures.looks c.add.ensures (rw c.in-Ok.is at driven.costs) in
    rw (← c.into_reader-reader.ensures.bytes) (record {
      comes = rw c.in-Ok.is at driven.comes;
      outside_runs = λ stream has_read. rw c.in-Ok.is at driven.outside_runs stream has_read;
      looks_at_most = costs.looks_at_most_if_ok;
      looks_at_least = costs.looks_at_least;
    })
