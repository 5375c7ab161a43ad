-- All bytes so far are a run, with one look for each before the first ASCII.
use Rattle.vte_core.proofs.Common.{length, looks_of, ◌+◌, ◌-◌, ◌<◌, ◌≤◌}
use Rattle.vte_core.proofs.lemmas.bytes.Scans.{SearchesRun}
use Rattle.vte_core.proofs.reader.Reader.find_run_end_after_non_ascii.Given as goal
use Rattle.vte_core.specs.declared.reader.run_end.TheConstants.{SHORT_NON_ASCII_RUN, SHORT_RUN}

abbrev pub invariant-loop-end : goal.invariant-loop-end
invariant-loop-end g l = record {
  searches : SearchesRun l.layout l.input.bytes.now l.from l.end l.initial.self l.self;
  within : l.to ≤ length l.input.bytes.now;
  pays_for_blocks : l.to < length l.input.bytes.now → l.from + SHORT_NON_ASCII_RUN ≤ l.to;
  singly : l.to < length l.input.bytes.now → l.to < l.from + SHORT_RUN
      → looks_of l.self + l.from ≤ looks_of l.initial.self + l.end;
}

abbrev pub decreases-loop-end : goal.decreases-loop-end
decreases-loop-end g l = length l.input.bytes.now - l.end
