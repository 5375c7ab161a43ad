-- As for `advance`.
use Rattle.vte_core.proofs.Common.{ap, Err, err_from_is_err_and, ◌∙◌}
use Rattle.vte_core.proofs.lemmas.positions.Contracts.{advance-read, advance-refused}
use Rattle.vte_core.proofs.parser.long_parser.LongParser.advance_text.Goals as goal

pub returns-in_err-drive : goal.returns-in_err-drive
returns-in_err-drive g c =
    let error = err_from_is_err_and c.from_residual.result c.from_residual.ensures.1 in
    rw (error.1 ∙ ap Err error.2, ← c.new.ensures)
    (advance-refused _ c.in_err-drive.ensures.refuses c.in_err-drive.ensures.costs)

pub returns : goal.returns
returns g c = rw (← c.new.ensures) (advance-read c.in_ok-drive.ensures.reads c.in_ok-drive.ensures.costs)
