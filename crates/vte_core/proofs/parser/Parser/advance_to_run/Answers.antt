-- What `drive_to_run` ensures, of the run that was taken.
use Rattle.vte_core.proofs.Common.{refl, rules}
use Rattle.vte_core.proofs.lemmas.positions.ToRun.{reads-run, returns-run}
use Rattle.vte_core.proofs.parser.Parser.advance_to_run.Goals as goal

pub returns : goal.returns
returns g c =
    let driven = c.drive_to_run-range.ensures in
    let took = c.take_run.ensures in
    let comes = rw c.new.ensures at driven.comes in
    record {
      returns = returns-run _ comes took.start took.end took.taken refl;
      reads = reads-run c.take_run.result comes took.start took.end took.taken;
      outside_runs = λ stream has_read. rw took.start (rw c.new.ensures at driven.outside_runs stream has_read);
      looks_at_most = search rules;
      looks_at_least = search rules;
    }
