-- What is open is reported first. Then ESC leads to after ESC, and CAN or SUB is executed and leads to a text.
use Rattle.vte_core.proofs.Common.{ap, arith, closing_events_at, Execute, refl, rules, sym, [], ◌∙◌, ◌∷◌}
use Rattle.vte_core.proofs.lemmas.bytes.Classes.{ends_by_cancel}
use Rattle.vte_core.proofs.lemmas.fields.PlaceOfState.{is_at-place}
use Rattle.vte_core.proofs.lemmas.places.BytesInStream.{cancel_is_no_escape}
use Rattle.vte_core.proofs.lemmas.places.TextSteps.{byte-cancels}
use Rattle.vte_core.proofs.lemmas.positions.TakenBytes.{takes-byte, takes_bytes-escape}
use Rattle.vte_core.proofs.lemmas.streams.After.{after_events-append, takes_bytes-one}
use Rattle.vte_core.proofs.parser.machine.Machine.end_sequence.Goals as goal

pub returns-then-byte-eq-ESCAPE-clause-takes : goal.returns-then-byte-eq-ESCAPE-clause-takes
returns-then-byte-eq-ESCAPE-clause-takes g c = search (rules, arith, takes_bytes-escape)

pub returns-clause-takes : goal.returns-clause-takes
returns-clause-takes g c = λ place s b.
    let step = g.P.CountedPerform.step in
    let limit = g.B.Buffer.limit in
    let is_cancel = ends_by_cancel c.args.byte c.requires c.if-byte-eq-ESCAPE.false in
    takes_bytes-one (cancel_is_no_escape c.args.byte is_cancel)
    (takes-byte
    (c.execute_control.ensures.value
    ∙ ap (λ v. step v (Execute c.args.byte)) (c.report_string_end.ensures.reported place s b)
    ∙ sym
    (after_events-append step (g.P.CountedPerform.value_of c.args.performer.now) (closing_events_at limit place)
    (Execute c.args.byte ∷ [])))
    (record { fields = (refl, refl) })
    (byte-cancels (is_at-place s) is_cancel))

pub returns-clause-handles : goal.returns-clause-handles
returns-clause-handles g c = search rules
