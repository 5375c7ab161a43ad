-- The bytes that are left to put lead from the performer so far to where all of them lead.
use Rattle.vte_core.proofs.Common.{after, drop, map, Put, ◌≡◌}
use Rattle.vte_core.proofs.reader.granularity.AnyReceiveAsByCharacter.put_slice.Given as goal

abbrev pub invariant-loop-byte : goal.invariant-loop-byte
invariant-loop-byte g l = after g.P.Perform.step (g.P.Perform.value_of l.self) (map Put (drop l.byte-index l.bytes))
    ≡ after g.P.Perform.step (g.P.Perform.value_of l.initial.self) (map Put l.bytes)
