-- A short search first. If the run goes on where that ends, the long one continues it.
use Rattle.vte_core.proofs.Common.{arith, eqb-true, rules}
use Rattle.vte_core.proofs.lemmas.bytes.NoRuns.{no_run-all}
use Rattle.vte_core.proofs.lemmas.bytes.Scans.{scans-run}
use Rattle.vte_core.proofs.reader.Reader.find_run_end.Goals as goal

pub returns-else-end-len-clause-scans : goal.returns-else-end-len-clause-scans
returns-else-end-len-clause-scans c = scans-run c.find_run_end_up_to-end.ensures.scans
    c.find_run_end_by_blocks.ensures.scans

pub returns-then-end-len-clause-ended : goal.returns-then-end-len-clause-ended
returns-then-end-len-clause-ended c = search (rules, arith, no_run-all, eqb-true)
