-- Each byte up to here fits, unless one was found that doesn't.
use Rattle.std.proofs.Common.{true, ℕ, ◌<◌, ◌≡◌}
use Rattle.vte_core.proofs.reader.run_blocks.continues_run.Given as goal
use Rattle.vte_core.specs.private.Automaton.{FollowsAt}

abbrev pub invariant-loop-k : goal.invariant-loop-k
invariant-loop-k l = l.all ≡ true → (k : ℕ) → k < l.k → FollowsAt l.layout l.window k
