-- The call stops before a line could be lost (`lines-kept`), and not before its first byte (`call-reads_some`).
use Rattle.std.proofs.lemmas.List.{take_rest}
use Rattle.event_log.proofs.Common.{arith, default_limit, length-drop}
use Rattle.event_log.proofs.lemmas.KeptTexts.{call-reads_some, lines-kept}
use Rattle.event_log.proofs.recorder.RecorderCollector.collect.Goals as goal

pub returns-clause-reads_some : goal.returns-clause-reads_some
returns-clause-reads_some c = λ not_empty.
    let has_read = c.requires.parsed in
    let stops_exactly = c.advance_until_terminated-read.ensures.stops has_read.already_read has_read.parsed in
    let further = call-reads_some c.requires.holds_nothing stops_exactly not_empty in
    simp (take_rest, length-drop) (omega arith)

pub returns-clause-collects : goal.returns-clause-collects
returns-clause-collects c = λ total_text before.
    let call = c.advance_until_terminated-read in
    rw take_rest
    (lines-kept c.args.bytes.now (c.early_stops.ensures.adds_up default_limit)
    (c.early_stops.ensures.units default_limit)
    c.requires.holds_nothing before (call.ensures.stops before.already_read before.parsed)
    (call.ensures.reads before.already_read before.parsed))
