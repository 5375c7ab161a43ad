-- A call that asks goes on by one data byte; one that doesn't takes all up to the next byte that isn't put.
use Rattle.vte_core.proofs.Common.{arith, refl, rules, sym, ◌∙◌}
use Rattle.vte_core.proofs.lemmas.positions.DataStretches.{advances-data, advances-put, first-put}
use Rattle.vte_core.proofs.lemmas.positions.SettledStates.{may_stop-none, settled-same_state}
use Rattle.vte_core.proofs.lemmas.positions.Stretches.{advances-nothing, advances-then, advances-to_same, advances-without_promise}
use Rattle.vte_core.proofs.parser.machine.Machine.read_device_data.Goals.{else-this-ne0-via-else-this-ne0, else-this-ne0-via-then-this-ne0+else-terminated}
use Rattle.vte_core.proofs.parser.machine.Machine.read_device_data.Goals as goal

pub loop-position-init : goal.loop-position-init
loop-position-init g c = search (rules, arith, advances-nothing, settled-same_state)

-- After one more data byte, a call that may stop wasn't stopped.
pub loop-position-preserved : goal.loop-position-preserved
loop-position-preserved g c =
    let invariant = c.loop-position.invariant in
    let is_data = sym c.is_device_data.ensures ∙ c.if-not-is_device_data.false in
    record {
      advances = advances-then invariant.advances
          (advances-put invariant.in_state (omega arith) c.byte_at-byte.ensures.value invariant.may_go_on is_data
          c.put_byte.ensures.value);
      may_go_on = (λ asks. elim c.else-this-ne0.branch [
        | else-this-ne0-via-then-this-ne0+else-terminated branch ↦ sym branch.terminated.ensures
            ∙ branch.if-terminated.false
        | else-this-ne0-via-else-this-ne0 branch ↦ absurd (may_stop-none branch.if-this-ne0.false asks)
      ]);
      in_state = invariant.in_state;
      spends = search rules;
    }

-- After one more data byte, the call stops.
pub returns-then-terminated-clause-advances : goal.returns-then-terminated-clause-advances
returns-then-terminated-clause-advances g c =
    let invariant = c.loop-position.invariant in
    let is_data = sym c.is_device_data.ensures ∙ c.if-not-is_device_data.false in
    advances-then invariant.advances
    (advances-put invariant.in_state
    (omega arith) c.byte_at-byte.ensures.value invariant.may_go_on is_data c.put_byte.ensures.value)

-- A call that doesn't ask takes all data up to the byte that isn't put.
pub returns-then-not-this-clause-advances : goal.returns-then-not-this-clause-advances
returns-then-not-this-clause-advances g c =
    let invariant = c.loop-position.invariant in
    let found = c.find_device_data_end-end.ensures in
    let are_put =
    first-put c.args.input.bytes.now c.byte_at-byte.ensures.value
    (sym c.is_device_data.ensures ∙ c.if-not-is_device_data.false) found.passed in
    advances-then invariant.advances
    (advances-data invariant.in_state (omega (arith, found.in_order)) found.within are_put
    (rw c.if-not-this.true refl) c.report_data.ensures.put)

-- A byte that isn't data ends the data or is dropped.
pub returns-then-not-is_device_data-clause-advances : goal.returns-then-not-is_device_data-clause-advances
returns-then-not-is_device_data-clause-advances g c =
    advances-then c.loop-position.invariant.advances (advances-without_promise c.end_data_or_drop_byte.ensures.advances)

pub returns-clause-advances : goal.returns-clause-advances
returns-clause-advances g c = advances-to_same (omega arith) c.loop-position.invariant.advances
