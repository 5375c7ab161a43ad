-- The characters so far are printed.
use Rattle.vte_core.proofs.Common.{after, map, Print, ◌≡◌}
use Rattle.vte_core.proofs.reader.granularity.AnyReceiveAsByCharacter.print_text.Given as goal

abbrev pub invariant-loop-c : goal.invariant-loop-c
invariant-loop-c g l =
    g.P.Perform.value_of l.self ≡ after g.P.Perform.step (g.P.Perform.value_of l.initial.self) (map Print l.yielded)
