-- Stretches add up: what leads from a position to the next leads from the start. The call ends at a stop, with all
-- bytes, or when memory is refused.
use Rattle.vte_core.proofs.Common.{ap, arith, Err, err_from_is_err_and, rules, ◌∙◌}
use Rattle.vte_core.proofs.lemmas.positions.CallEnds.{call_ends-at_stop, call_ends-with_all}
use Rattle.vte_core.proofs.lemmas.positions.SettledStates.{may_stop-some}
use Rattle.vte_core.proofs.parser.machine.Machine.drive_loop.Goals as goal

-- The loop begins after the bytes that continue an open character.
pub loop-position-init : goal.loop-position-init
loop-position-init g c =
    let continued = c.continue_open_character-position.ensures in
    record { is_at_position = continued.is_at_position; settled = continued.settled; spends = search rules }

-- The bytes that the state's function reads lead from there to where it ends.
pub loop-position-preserved : goal.loop-position-preserved
loop-position-preserved g c = search (rules, arith)

-- A stop before a byte.
pub returns-then-terminated : goal.returns-then-terminated
returns-then-terminated g c = record {
  reads = search (rules, arith, call_ends-at_stop, may_stop-some);
  refuses = tt;
  costs = search (rules, arith);
}

-- All bytes are read.
pub returns : goal.returns
returns g c = record {
  reads = call_ends-with_all (omega arith) c.loop-position.invariant.is_at_position;
  refuses = tt;
  costs = search (rules, arith);
}

-- Memory was refused: what was read before adds up, and the refused byte is at that position.
pub returns-in_err-position : goal.returns-in_err-position
returns-in_err-position g c =
    let error = err_from_is_err_and c.from_residual.result c.from_residual.ensures.1 in
    let failed = c.in_err-position.ensures in
    rw (error.1 ∙ ap Err error.2) (record {
      reads = tt;
      refuses = record {
        before_end = omega (arith, c.loop-position-test.true, c.len.ensures, failed.refuses.stays);
        is_at_position = λ stream has_read.
            failed.advances.is_at_position _ stream (c.loop-position.invariant.is_at_position stream has_read);
        may_go_on = failed.refuses.may_go_on;
        refused = failed.refuses.refused;
      };
      costs = search (rules, arith);
    })
