-- What the collector collected is appended to what was written (`written-more`).
use Rattle.event_log.proofs.lemmas.CollectedTexts.{adds_up-at_first}
use Rattle.event_log.proofs.lemmas.Progress.{written-more}
use Rattle.event_log.proofs.pipeline.parse_and_write.Goals as goal

pub returns-clause-reads : goal.returns-clause-reads
returns-clause-reads g c =
    let adds_up = (c.collect-unread.ensures.collects _ (adds_up-at_first c.requires.parsed c.args.bytes.now)).adds_up in
    record { already_read = adds_up.already_read; parsed = adds_up.parsed }

pub returns-clause-writes : goal.returns-clause-writes
returns-clause-writes g c = λ total_text has_written.
    written-more has_written
    (λ part before. (c.collect-unread.ensures.collects part before).adds_up) c.in_ok-write_collected.ensures.appends
