-- All bytes so far are a run.
use Rattle.vte_core.proofs.Common.{length, ◌-◌}
use Rattle.vte_core.proofs.lemmas.bytes.Scans.{SearchesRun}
use Rattle.vte_core.proofs.reader.Reader.find_run_end_up_to.Given as goal

abbrev pub invariant-loop-end : goal.invariant-loop-end
invariant-loop-end l = SearchesRun l.layout l.input.bytes.now l.from l.end l.initial.self l.self

abbrev pub decreases-loop-end : goal.decreases-loop-end
decreases-loop-end l = length l.input.bytes.now - l.end
