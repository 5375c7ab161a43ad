-- What the machine's `drive_to_run` ensures, of a reader that begins with no looks.
use Rattle.vte_core.proofs.lemmas.positions.Contracts.{costs-added}
use Rattle.vte_core.proofs.parser.long_parser.LongParser.drive_to_run.Goals as goal

pub returns : goal.returns
returns g c =
    let driven = c.drive_to_run-result.ensures in
    rw (← c.into_reader-reader.ensures.bytes) (record {
      comes = driven.comes;
      refuses = driven.refuses;
      costs = costs-added c.into_reader-reader.ensures.looks c.add.ensures driven.costs;
      outside_runs = driven.outside_runs;
    })
