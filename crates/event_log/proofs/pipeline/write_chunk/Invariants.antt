-- What was written, and then the text of what is unread, adds up to the total text. Each round reads a byte or more.
use Rattle.event_log.proofs.Common.{empty_text, HasReadStream, HasWritten, length, List, ℕ, [], ◌++◌, ◌≡◌}
use Rattle.event_log.proofs.pipeline.write_chunk.Given as goal

abbrev pub invariant-loop-unread : goal.invariant-loop-unread
invariant-loop-unread g l = record {
  reads : HasReadStream l.parser;
  empty : g.C.Collector.collected_text_of l.collector ≡ empty_text;
  written : (total_text : List ℕ → List ℕ)
      → HasWritten g.C.Collector.text_of total_text (g.W.Sink.contents l.fn.writer) l.fn.parser [] →
      HasWritten g.C.Collector.text_of (λ more. total_text (l.fn.chunk ++ more)) (g.W.Sink.contents l.writer) l.parser
      l.unread;
}

abbrev pub decreases-loop-unread : goal.decreases-loop-unread
decreases-loop-unread g l = length l.unread
