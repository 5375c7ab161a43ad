-- A group more is written, and no longer among those that are left.
use Rattle.vte_c.proofs.Common.{append_assoc, group_bytes, rules, ◌++◌}
use Rattle.vte_c.proofs.event_writer.EventWriter.write_groups.Goals as goal

pub loop-group-preserved : goal.loop-group-preserved
loop-group-preserved c =
    let invariant = c.loop-group.invariant.2 in
    let done = invariant.0 ++ group_bytes c.in-Some.group.now in
    (tt, tt, (done, c.write_group-end.ensures _ _ invariant.1, rw (append_assoc invariant.0) (search rules)))
