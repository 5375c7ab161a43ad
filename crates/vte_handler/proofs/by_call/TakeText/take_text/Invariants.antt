-- The characters so far are taken.
use Rattle.std.proofs.Common.{map, ◌≡◌}
use Rattle.vte_handler.proofs.by_call.TakeText.take_text.Given as goal
use Rattle.vte_handler.specs.Call.{Input}
use Rattle.vte_handler.specs.Handler.{after}

abbrev pub invariant-loop-c : goal.invariant-loop-c
invariant-loop-c g l =
    g.Self.TakeCall.value_of l.self
    ≡ after g.Self.TakeCall.step (g.Self.TakeCall.value_of l.initial.self) (map Input l.yielded)
