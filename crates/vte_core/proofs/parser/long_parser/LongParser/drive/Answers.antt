-- What the machine's `drive` ensures, of a reader that begins with no looks.
use Rattle.vte_core.proofs.lemmas.positions.Contracts.{costs-added}
use Rattle.vte_core.proofs.parser.long_parser.LongParser.drive.Goals as goal

pub returns : goal.returns
returns g c =
    let drive = c.drive-result.ensures in
    rw (← c.into_reader-reader.ensures.bytes) (record {
      reads = drive.reads;
      refuses = drive.refuses;
      costs = costs-added c.into_reader-reader.ensures.looks c.add.ensures drive.costs;
    })
