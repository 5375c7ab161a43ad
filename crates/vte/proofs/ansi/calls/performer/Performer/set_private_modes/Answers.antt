-- One mode more is set, and the modes that are left give what all give.
use Rattle.vte.proofs.ansi.calls.performer.Performer.set_private_modes.Goals as goal
use Rattle.vte.proofs.Common.{ap, performer_value, sym, timeout_meaning, with_private_mode, with_private_modes, ◌∙◌}
use Rattle.vte.proofs.lemmas.events.EventCalls.{modes-more}

pub loop-group-preserved : goal.loop-group-preserved
loop-group-preserved g c =
    let step = g.H.Handler.step in
    let timeout = timeout_meaning g.T.Timeout.set g.T.Timeout.clear g.T.Timeout.allows in
    let performer =
    performer_value g.H.Handler.value_of g.T.Timeout.value_of g.B.TextBuffer.text_capacity c.loop-group.self in
    ap (λ performer. with_private_modes step timeout performer c.next.new.self)
    (c.set_private_mode.ensures ∙ ap (with_private_mode step timeout performer) c.first_number.ensures)
    ∙ (modes-more step timeout performer c.in-Some.group.now c.next.new.self
    ∙ (ap (with_private_modes step timeout performer) (sym c.in-Some.ensures.steps) ∙ c.loop-group.invariant))
