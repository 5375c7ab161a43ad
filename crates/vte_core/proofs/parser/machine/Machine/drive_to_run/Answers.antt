-- As for `drive_loop`, a stretch at a time. A run is found in a text or in data, and is returned unread: the bytes
-- before it have reported nothing of a run (`reports-more`).
use Rattle.vte_core.proofs.Common.{Advances, ap, arith, ChunkCall, Err, err_from_is_err_and, Machine, rules, sym, ℕ, ◌∙◌}
use Rattle.vte_core.proofs.lemmas.positions.AddedEvents.{reports-more}
use Rattle.vte_core.proofs.lemmas.positions.ToRun.{comes-nowhere, comes-to_run, has-data, has-text, outside-text_and_data, settled-text}
use Rattle.vte_core.proofs.parser.machine.Machine.drive_to_run.Goals.{else-loop-position-test, then-loop-position-test+else-not-terminated}
use Rattle.vte_core.proofs.parser.machine.Machine.drive_to_run.Goals as goal
use Rattle.vte_core.proofs.parser.machine.Machine.drive_to_run.Invariants.{IsBeforeRun}

-- A stretch that reports no run leads from one position before a run to another.
before_run-then : {V B known : Type 0} {call : ChunkCall V} {first value new : V} {i j : ℕ}
    {before parser next : Machine B} → IsBeforeRun call first value i before parser → known
    → Advances known call value new i j parser next → IsBeforeRun call first new j before next
before_run-then is_before given advances = record {
  is_at_position = λ stream has_read. advances.is_at_position _ stream (is_before.is_at_position stream has_read);
  outside_runs = λ stream has_read. reports-more (is_before.outside_runs stream has_read)
      (advances.outside_runs given _ stream (is_before.is_at_position stream has_read));
}

-- The loop begins after the bytes that continue an open character.
pub loop-position-init : goal.loop-position-init
loop-position-init g c = search (rules, arith)

-- In a text, the search has found a run of text, and the machine is between characters.
pub returns-then-end-position-clause-comes : goal.returns-then-end-position-clause-comes
returns-then-end-position-clause-comes g c =
    let invariant = c.loop-position.invariant in
    let found = c.find_run_end-end.ensures in
    let settled = settled-text c.in-Text.is (invariant.settled (omega arith)) in
    comes-to_run (has-text settled (omega arith) found.scans.within found.scans.passed found.ended) (omega arith)
    (sym c.terminated.ensures ∙ c.if-not-terminated.true) invariant.before_run.is_at_position

-- In data, the search has found data that are put.
pub returns-then-end-position-2-clause-comes : goal.returns-then-end-position-2-clause-comes
returns-then-end-position-2-clause-comes g c =
    let invariant = c.loop-position.invariant in
    let found = c.find_device_data_end-end.ensures in
    comes-to_run (has-data c.in-DeviceData.is (omega arith) found.within found.passed found.ended) (omega arith)
    (sym c.terminated.ensures ∙ c.if-not-terminated.true) invariant.before_run.is_at_position

-- In a text that begins with no run, what is read belongs to no run.
pub loop-position-preserved-else-end-position : goal.loop-position-preserved-else-end-position
loop-position-preserved-else-end-position g c =
    let read = c.read_outside_runs-position.ensures.advances in
    record {
      before_run = before_run-then c.loop-position.invariant.before_run tt read;
      settled = read.settled;
      spends = search rules;
    }

-- In data, before a byte that isn't put, what is read belongs to no run either.
pub loop-position-preserved-else-end-position-2 : goal.loop-position-preserved-else-end-position-2
loop-position-preserved-else-end-position-2 g c =
    let read = c.end_data_or_drop_byte-position.ensures.advances in
    record {
      before_run = before_run-then c.loop-position.invariant.before_run tt read;
      settled = read.settled;
      spends = search rules;
    }

-- In any other state there can't be a run.
pub loop-position-preserved : goal.loop-position-preserved
loop-position-preserved g c =
    let read = c.in_ok-position-in_default.ensures.advances in
    let outside = outside-text_and_data _ c.in_default.not-Text c.in_default.not-DeviceData in
    record {
      before_run = before_run-then c.loop-position.invariant.before_run outside read;
      settled = read.settled;
      spends = search rules;
    }

-- Memory was refused: the call is where the refused byte is.
pub returns-in_err-position-in_default : goal.returns-in_err-position-in_default
returns-in_err-position-in_default g c =
    let error = err_from_is_err_and c.from_residual.result c.from_residual.ensures.1 in
    let failed = c.in_err-position-in_default.ensures in
    let outside = outside-text_and_data _ c.in_default.not-Text c.in_default.not-DeviceData in
    let refused = before_run-then c.loop-position.invariant.before_run outside failed.advances in
    record {
      comes = search rules;
      refuses = rw (error.1 ∙ ap Err error.2) (record {
        before_end = omega (arith, c.loop-position-test.true, c.len.ensures, failed.refuses.stays);
        is_at_position = refused.is_at_position;
        may_go_on = failed.refuses.may_go_on;
        refused = failed.refuses.refused;
      });
      costs = search rules;
      outside_runs = λ stream has_read. rw (error.1 ∙ ap Err error.2) (refused.outside_runs stream has_read);
    }

-- Without a run, either the performer was terminated or all bytes are read.
pub returns-clause-comes : goal.returns-clause-comes
returns-clause-comes g c =
    let invariant = c.loop-position.invariant in
    let empty = c.empty.ensures in
    comes-nowhere invariant.spends.within empty.start empty.end empty.kind invariant.before_run.is_at_position
    (λ left. elim c.loop-position-test.branch [
      | then-loop-position-test+else-not-terminated branch ↦ sym branch.terminated.ensures
          ∙ branch.if-not-terminated.false
      | else-loop-position-test branch ↦ absurd (omega (arith, left, branch.loop-position-test.false, c.len.ensures))
    ])

pub returns-clause-outside_runs : goal.returns-clause-outside_runs
returns-clause-outside_runs g c stream has_read =
    rw c.empty.ensures.start (c.loop-position.invariant.before_run.outside_runs stream has_read)
