-- A call is one more step of the list, by what it ensures; and so is a stop.
use Rattle.vte.proofs.ansi.laws.replays.replay.Goals.{in-Advance, in-StopSync}
use Rattle.vte.proofs.ansi.laws.replays.replay.Goals as goal
use Rattle.vte.proofs.Common.{refl, take_all}
use Rattle.vte.proofs.lemmas.replays.ReplayedSteps.{advance_taken, has_replayed, stop_taken}
use Rattle.vte.proofs.lemmas.replays.WithoutUpdates.{replays_all}

pub loop-step-init : goal.loop-step-init
loop-step-init g c = λ state is_at. has_replayed _ state refl is_at

pub loop-step-preserved : goal.loop-step-preserved
loop-step-preserved g c = λ state is_at.
    let before = c.loop-step.invariant state is_at in
    elim c.match-step.branch [
      | in-Advance branch ↦ rw (branch.processor-is, branch.handler-is)
          (advance_taken _ state c.args.steps.now _ _ c.loop-step-test.true before branch.in-Advance.is
          (branch.advance.ensures.advances before.next before.is_at))
      | in-StopSync branch ↦ rw (branch.processor-is, branch.handler-is)
          (stop_taken _ state c.args.steps.now _ _ c.loop-step-test.true before branch.in-StopSync.is
          (branch.stop_sync.ensures.stops before.next before.is_at))
    ]

pub returns : goal.returns
returns g c =
    replays_all _
    (λ state is_at.
    rw (take_all c.loop-step.step-index c.args.steps.now c.loop-step-test.false) at (c.loop-step.invariant state is_at))
