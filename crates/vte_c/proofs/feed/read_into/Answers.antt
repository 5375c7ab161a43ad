-- The parser is restored before and saved after, so what `read_until_full` ensures holds for what is saved
-- (`call-fed`).
use Rattle.vte_c.proofs.feed.read_into.Goals as goal
use Rattle.vte_c.proofs.lemmas.CallResults.{call-fed}

pub returns-clause-stops_at_once : goal.returns-clause-stops_at_once
returns-clause-stops_at_once c =
    λ stream reads no_run_stops i earlier.
    let has_read_on = c.read_until_full-read.ensures.reads_on stream (c.restore.ensures stream reads) in
    has_read_on.reads_on.no_stop_before no_run_stops i earlier

pub returns-clause-feeds : goal.returns-clause-feeds
returns-clause-feeds c = λ before stream rest has_reported.
    let reads = c.restore.ensures has_reported.already_read has_reported.reads in
    call-fed c.requires.are_empty has_reported
    (c.read_until_full-read.ensures.reads_on has_reported.already_read reads) c.save.ensures
    (c.read_until_full-read.ensures.reads_some has_reported.already_read reads)
