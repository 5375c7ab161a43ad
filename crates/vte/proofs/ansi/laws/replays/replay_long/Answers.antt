-- As for `replay`; a call that is refused memory ends the list where it is, and says what it lacks.
use Rattle.vte.proofs.ansi.laws.replays.replay_long.Goals.{in-Advance+in_default, in-StopSync}
use Rattle.vte.proofs.ansi.laws.replays.replay_long.Goals as goal
use Rattle.vte.proofs.Common.{long_facts, ProcessorLacksMemory, refl, take_all}
use Rattle.vte.proofs.lemmas.replays.ReplayedSteps.{advance_refused, advance_taken, first_lacks, has_replayed, stop_taken}
use Rattle.vte.proofs.lemmas.replays.WithoutUpdates.{replays_all}

pub loop-index-init : goal.loop-index-init
loop-index-init g c = λ state is_at. has_replayed _ state refl is_at

pub loop-index-preserved : goal.loop-index-preserved
loop-index-preserved g c = λ state is_at.
    let before = c.loop-index.invariant state is_at in
    elim c.match-step.branch [
      | in-Advance+in_default branch ↦ rw (branch.processor-is, branch.handler-is)
          (advance_taken _ state c.args.steps.now _ _ c.loop-index-test.true before branch.in-Advance.is
          (branch.in_default.ensures.reads_all.advances before.next before.is_at))
      | in-StopSync branch ↦ rw (branch.processor-is, branch.handler-is)
          (stop_taken _ state c.args.steps.now _ _ c.loop-index-test.true before branch.in-StopSync.is
          (branch.stop_sync.ensures.stops before.next before.is_at))
    ]

pub returns-in-Err-clause-refuses : goal.returns-in-Err-clause-refuses
returns-in-Err-clause-refuses g c = λ state is_at.
    let before = c.loop-index.invariant state is_at in
    advance_refused _ state c.args.steps.now _ _ c.loop-index-test.true before c.in-Advance.is
    c.in-Err.ensures.until_refused.within (c.in-Err.ensures.until_refused.takes before.next before.is_at)

pub returns-in-Err-clause-lacks_memory : goal.returns-in-Err-clause-lacks_memory
returns-in-Err-clause-lacks_memory g c =
    first_lacks
    (ProcessorLacksMemory (long_facts g.T.Timeout.value_of c.advance.new.self)) c.args.steps.now _ _
    c.loop-index-test.true c.in-Advance.is c.in-Err.ensures.until_refused.lacks_memory

pub returns-clause-replays : goal.returns-clause-replays
returns-clause-replays g c =
    replays_all _
    (λ state is_at.
    rw (take_all c.loop-index.index c.args.steps.now c.loop-index-test.false) at (c.loop-index.invariant state is_at))
