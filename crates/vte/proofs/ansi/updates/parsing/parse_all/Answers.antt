-- What was lent to the performer comes back with the calls of the parsed bytes.
use Rattle.vte.proofs.ansi.updates.parsing.parse_all.Goals as goal
use Rattle.vte.proofs.Common.{processor_meaning, refl}
use Rattle.vte.proofs.lemmas.events.PerformedEvents.{performer-given_back, text_capacity_back}

pub returns-clause-parsed : goal.returns-clause-parsed
returns-clause-parsed g c = λ state spare ready.
    let meaning = processor_meaning g.P.EventParser.limit g.H.Handler.step g.T.Timeout.set g.T.Timeout.clear
    g.T.Timeout.allows in
    let parses = c.advance.ensures.parses state.parsed spare ready.parts_at.has_read ready.memory in
    performer-given_back g.H.Handler.value_of g.T.Timeout.value_of g.B.TextBuffer.text_capacity meaning state
    c.args.bytes.now
    _
    c.advance.new.performer parses.fits parses.performs c.processor_state-1.given.1
    ready.parts_at refl refl refl refl parses.reads c.handler-1.given.1 c.advance.ensures.keeps_memory

pub returns-clause-leaves_memory : goal.returns-clause-leaves_memory
returns-clause-leaves_memory g c = λ state spare ready.
    let meaning = processor_meaning g.P.EventParser.limit g.H.Handler.step g.T.Timeout.set g.T.Timeout.clear
    g.T.Timeout.allows in
    let parses = c.advance.ensures.parses state.parsed spare ready.parts_at.has_read ready.memory in
    let same =
    text_capacity_back g.H.Handler.value_of g.T.Timeout.value_of g.B.TextBuffer.text_capacity meaning state
    c.args.bytes.now _
    c.advance.new.performer parses.fits parses.performs c.processor_state-1.given.1 in
    rw same parses.memory
