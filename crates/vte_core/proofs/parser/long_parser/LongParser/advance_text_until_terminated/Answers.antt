-- What `drive` ensures of a call that may stop, put into the contract by `positions/Contracts`.
use Rattle.vte_core.proofs.lemmas.positions.Contracts.{advance-until}
use Rattle.vte_core.proofs.parser.long_parser.LongParser.advance_text_until_terminated.Goals as goal

pub returns : goal.returns
returns g c =
    rw (← c.new.ensures)
    (advance-until c.drive.result c.drive.ensures.reads c.drive.ensures.refuses c.drive.ensures.costs)
