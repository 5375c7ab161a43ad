-- At first the chunk is unread. In the end nothing is, and a flush keeps what was written.
use Rattle.std.proofs.lemmas.Result.{on_ok_weaker}
use Rattle.event_log.proofs.Common.{nil_from_length, rules}
use Rattle.event_log.proofs.lemmas.Progress.{written-before_chunk, written-kept}
use Rattle.event_log.proofs.pipeline.write_chunk.Goals as goal

pub loop-unread-init : goal.loop-unread-init
loop-unread-init g c = record {
  reads = c.requires.parsed;
  empty = c.requires.holds_nothing;
  written = λ total_text has_written. written-before_chunk c.args.chunk.now has_written;
}

pub returns-clause-writes : goal.returns-clause-writes
returns-clause-writes g c = λ total_text has_written.
    let none_unread = nil_from_length c.loop-unread.unread.now (search rules) in
    let written = rw none_unread at c.loop-unread.invariant.written total_text has_written in
    on_ok_weaker c.flush.result (written-kept written) c.flush.ensures.keeps
