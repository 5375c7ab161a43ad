-- What was written of the groups, followed by those that are left, is what all of them give.
use Rattle.vte_c.proofs.Common.{AreaHolds, buffers_of, flat_map, group_bytes, List, ℕ, ◌++◌, ◌≡◌}
use Rattle.vte_c.proofs.event_writer.EventWriter.write_groups.Given as goal

abbrev pub invariant-loop-group : goal.invariant-loop-group
invariant-loop-group l =
    goal.iterator-loop-group.can_next l.group-iterator × goal.iterator-loop-group.is_finite l.group-iterator
    × ((done : List ℕ) × AreaHolds (buffers_of l.fn.self) l.self l.end done
    × (done ++ flat_map group_bytes l.group-iterator ≡ flat_map group_bytes l.fn.params))
