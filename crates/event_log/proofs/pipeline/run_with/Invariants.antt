-- After this many reads all that was read is written (`HasReadPart`), and the collector is empty.
use Rattle.event_log.proofs.Common.{empty_text, HasReadStream, List, Some, ℕ, ◌≡◌}
use Rattle.event_log.proofs.lemmas.Progress.{HasReadPart}
use Rattle.event_log.proofs.pipeline.run_with.Given as goal

abbrev pub invariant-loop : goal.invariant-loop
invariant-loop g l = record {
  reads : HasReadStream l.parser;
  empty : g.C.Collector.collected_text_of l.collector ≡ empty_text;
  reads_part : (input old_contents : List ℕ) → g.R.Source.remaining l.fn.reader ≡ Some input
      → g.W.Sink.contents l.fn.writer ≡ Some old_contents →
      HasReadPart g.C.Collector.text_of input old_contents l.counter l.parser (g.R.Source.remaining l.reader)
      (g.W.Sink.contents l.writer);
}
