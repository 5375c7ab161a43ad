-- Whole blocks first, then the bytes after them: together they are one run.
use Rattle.vte_core.proofs.Common.{arith, rules}
use Rattle.vte_core.proofs.lemmas.bytes.NoRuns.{no_run-all}
use Rattle.vte_core.proofs.lemmas.bytes.Scans.{scans-run}
use Rattle.vte_core.proofs.reader.Reader.find_run_end_by_blocks.Goals as goal

pub returns-clause-scans : goal.returns-clause-scans
returns-clause-scans c = scans-run c.skip_run_blocks-end.ensures.scans c.find_run_end_up_to.ensures.scans

pub returns-clause-ended : goal.returns-clause-ended
returns-clause-ended c = search (rules, arith, no_run-all)
