-- What `drive_to_run` ensures, with and without memory, put into the contract by `positions/Contracts`.
use Rattle.vte_core.proofs.Common.{ap, Err, err_from_is_err_and, ◌∙◌}
use Rattle.vte_core.proofs.lemmas.positions.Contracts.{to_run-read, to_run-refused}
use Rattle.vte_core.proofs.parser.long_parser.LongParser.advance_to_run.Goals as goal

pub returns-in_err-range : goal.returns-in_err-range
returns-in_err-range g c =
    let error = err_from_is_err_and c.from_residual.result c.from_residual.ensures.1 in
    let driven = c.in_err-range.ensures in
    rw (error.1 ∙ ap Err error.2, ← c.new.ensures) (record {
      reads = to_run-refused _ driven.refuses driven.costs;
      outside_runs = driven.outside_runs;
    })

pub returns : goal.returns
returns g c =
    let driven = c.in_ok-range.ensures in
    let taken = c.take_run.ensures in
    record {
      reads =
          to_run-read _ (rw c.new.ensures at driven.comes) taken.start taken.end taken.taken
          (rw c.new.ensures at driven.costs)
          (λ stream has_read. rw c.new.ensures at driven.outside_runs stream has_read);
      outside_runs = tt;
    }
