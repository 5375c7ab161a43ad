-- The byte after intermediates by its class: another intermediate, a byte that dispatches, one that ends the sequence,
-- a control, or one that is dropped. In each case the machine is at the place to which the byte leads.
use Rattle.vte_core.proofs.Common.{arith, class_of, refl, rules, sym, ◌∙◌}
use Rattle.vte_core.proofs.lemmas.bytes.Classes.{class-control, class-intermediate, dispatch_ends_nothing, other_than_intermediate}
use Rattle.vte_core.proofs.lemmas.fields.PlaceOfState.{is_at-between, is_at-by}
use Rattle.vte_core.proofs.lemmas.places.PlaceLeads.{byte-dropped, byte-executed, intermediate-end, intermediate-more}
use Rattle.vte_core.proofs.lemmas.positions.SettledStates.{settled-same_state}
use Rattle.vte_core.proofs.lemmas.positions.Stretches.{advances-byte, advances-given, advances-nothing, advances-then}
use Rattle.vte_core.proofs.lemmas.positions.TakenBytes.{advances-in, takes-byte, takes-in_escape}
use Rattle.vte_core.proofs.parser.machine.Machine.read_intermediates.Goals.{else-is_intermediate+else-dispatches_escape+else-ends_sequence+else-is_plain_control, then-is_intermediate}
use Rattle.vte_core.proofs.parser.machine.Machine.read_intermediates.Goals as goal

-- Nothing is read yet.
pub loop-position-init : goal.loop-position-init
loop-position-init g c = search (rules, arith, advances-nothing, settled-same_state)

-- Another intermediate is collected, and DEL or a byte from 80 is dropped: the place stays after intermediates.
pub loop-position-preserved : goal.loop-position-preserved
loop-position-preserved g c =
    let invariant = c.loop-position.invariant in
    let b = c.byte_at-byte.result in
    let parser = c.loop-position.self in
    record {
      advances = advances-then invariant.advances (elim c.if-is_intermediate.branch [
        -- The byte is an intermediate.
        | then-is_intermediate branch ↦
            let is_intermediate = class-intermediate _ (sym c.is_intermediate.ensures
            ∙ branch.if-is_intermediate.true) in
            rw branch.self-is
            (advances-given tt (advances-in invariant.in_state
            (omega arith) c.byte_at-byte.ensures.value invariant.may_go_on
            (rw is_intermediate refl)
            (takes-in_escape parser (λ intermediates holds. takes-byte refl
            (is_at-by invariant.in_state (branch.collect_intermediate.ensures.holds intermediates holds))
            (intermediate-more is_intermediate)))
            (settled-same_state invariant.in_state tt)))
        -- A byte that is dropped.
        | else-is_intermediate+else-dispatches_escape+else-ends_sequence+else-is_plain_control branch ↦
            let ordinary = sym branch.ends_sequence.ensures ∙ branch.if-ends_sequence.false in
            let dropped =
            other_than_intermediate (class_of b) (sym c.is_intermediate.ensures ∙ branch.if-is_intermediate.false)
            (sym branch.dispatches_escape.ensures ∙ branch.if-dispatches_escape.false) ordinary
            (sym branch.is_plain_control.ensures ∙ branch.if-is_plain_control.false) in
            rw branch.self-is
            (advances-given tt (advances-in invariant.in_state
            (omega arith) c.byte_at-byte.ensures.value invariant.may_go_on ordinary
            (takes-in_escape parser
            (λ intermediates holds.
            takes-byte refl (is_at-by invariant.in_state holds)
            (byte-dropped refl refl dropped))) (settled-same_state invariant.in_state tt)))
      ]);
      may_go_on = invariant.may_go_on;
      in_state = elim c.if-is_intermediate.branch [
        | then-is_intermediate branch ↦ rw branch.self-is invariant.in_state
        | else-is_intermediate+else-dispatches_escape+else-ends_sequence+else-is_plain_control branch ↦ rw
            branch.self-is
            invariant.in_state
      ];
      spends = search rules;
    }

-- A byte that dispatches: the sequence is reported, with the first two intermediates, and a text goes on.
pub returns-then-dispatches_escape-clause-advances : goal.returns-then-dispatches_escape-clause-advances
returns-then-dispatches_escape-clause-advances g c =
    let invariant = c.loop-position.invariant in
    let b = c.byte_at-byte.result in
    let ends = sym c.dispatches_escape.ensures ∙ c.if-dispatches_escape.true in
    let dispatched = c.dispatch_escape.ensures in
    advances-then invariant.advances
    (advances-given tt
    (advances-in invariant.in_state (omega arith) c.byte_at-byte.ensures.value invariant.may_go_on
    (dispatch_ends_nothing (class_of b) ends)
    (takes-in_escape c.loop-position.self
    (λ intermediates holds. takes-byte
    (rw (holds.kept, holds.too_many_intermediates) at dispatched.reports.value) (is_at-between dispatched.in_text)
    (intermediate-end refl ends))) (settled-same_state dispatched.in_text tt)))

-- CAN, SUB or ESC: the sequence is left without being reported.
pub returns-then-ends_sequence-clause-advances : goal.returns-then-ends_sequence-clause-advances
returns-then-ends_sequence-clause-advances g c =
    let invariant = c.loop-position.invariant in
    let dispatched = c.end_sequence.ensures in
    advances-then invariant.advances
    (advances-given (rw invariant.in_state tt)
    (advances-byte
    (omega arith) c.byte_at-byte.ensures.value invariant.may_go_on dispatched.takes dispatched.handles.settled))

-- A control is executed inside the sequence.
pub returns-then-is_plain_control-clause-advances : goal.returns-then-is_plain_control-clause-advances
returns-then-is_plain_control-clause-advances g c =
    let invariant = c.loop-position.invariant in
    let b = c.byte_at-byte.result in
    let is_control = class-control _ (sym c.is_plain_control.ensures ∙ c.if-is_plain_control.true) in
    advances-then invariant.advances
    (advances-given tt (advances-in invariant.in_state (omega arith) c.byte_at-byte.ensures.value invariant.may_go_on
    (rw is_control refl)
    (takes-in_escape c.loop-position.self
    (λ intermediates holds. takes-byte c.execute_control.ensures.value (is_at-by invariant.in_state holds)
    (byte-executed refl is_control))) (settled-same_state invariant.in_state tt)))
