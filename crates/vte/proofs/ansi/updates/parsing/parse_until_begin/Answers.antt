-- An early stop reads the prefix up to the begin of an update (`updates/Prefixes`), and what was lent comes back with
-- its calls.
use Rattle.vte.proofs.ansi.updates.parsing.parse_until_begin.Goals as goal
use Rattle.vte.proofs.Common.{drop, length, prefix_to_begin, processor_meaning, refl}
use Rattle.vte.proofs.lemmas.events.EnoughMemory.{prefix_fits}
use Rattle.vte.proofs.lemmas.events.PerformedEvents.{performer-given_back, stop_performs, stop_stream, stop_terminated, stops_at_prefix}
use Rattle.vte.proofs.lemmas.turns.EachOnce.{prefix-rest}

pub returns-clause-parses_prefix : goal.returns-clause-parses_prefix
returns-clause-parses_prefix g c = λ state spare ready.
    let meaning = processor_meaning g.P.EventParser.limit g.H.Handler.step g.T.Timeout.set g.T.Timeout.clear
    g.T.Timeout.allows in
    let bytes = c.args.bytes.now in
    let prefix = prefix_to_begin g.P.EventParser.limit state.parsed bytes in
    let ends = c.advance_until_begin-read.ensures.stops state.parsed spare ready.parts_at.has_read ready.memory in
    let fit =
    prefix_fits (g.B.TextBuffer.text_capacity c.args.processor_state.now.text) g.P.EventParser.limit state.parsed
    prefix (drop (length prefix) bytes)
    (rw (prefix-rest g.P.EventParser.limit state.parsed bytes) ends.fits) in
    record {
      count = stops_at_prefix meaning refl ends.stops;
      begins_is = stop_terminated meaning refl ends.stops;
      is_at =
          performer-given_back g.H.Handler.value_of g.T.Timeout.value_of g.B.TextBuffer.text_capacity meaning state
          prefix _
          c.advance_until_begin-read.new.performer fit (stop_performs meaning refl ends.stops)
          c.processor_state-1.given.1 ready.parts_at refl refl refl refl
          (rw (stop_stream meaning refl ends.stops) at ends.reads) c.handler-1.given.1
          c.advance_until_begin-read.ensures.keeps_memory;
    }
