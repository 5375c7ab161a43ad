-- The first group, and then each other one after `;`, are the text of all groups (`groups_written`). Without groups
-- that text is empty.
use Rattle.event_log.proofs.Common.{after_semicolon, All-tail, append-nil, arith, Bor, common_steps, flat_map, get_or, group_text, groups_written, IsNonEmpty, List, map, refl, shown, shown-nil, sym, ℕ, [], ◌++◌, ◌∙◌, ◌≡◌}
use Rattle.event_log.proofs.lemmas.Fields.{extends_then}
use Rattle.event_log.proofs.lines.LogBuffer.push_groups.Goals.{in-Some+in-None, in_default}
use Rattle.event_log.proofs.lines.LogBuffer.push_groups.Goals as goal

pub loop-group-init : goal.loop-group-init
loop-group-init c =
    let parts = sym c.iter-groups.ensures.value ∙ c.in-Some.ensures.steps in
    let begun = rw parts at c.iter-groups.ensures.groups.filled in
    rw (c.into_iter-group-iterator.ensures.into_iter_gives) (record {
      along = rw parts refl;
      filled = All-tail IsNonEmpty c.in-Some.first.now _ begun;
      pushed = rw (parts, append-nil) (extends_then c.push.ensures c.push_numbers.ensures);
    })

pub loop-group-preserved : goal.loop-group-preserved
loop-group-preserved c =
    let invariant = c.loop-group.invariant in
    let next = c.in-Some-group.ensures.steps in
    let separated = extends_then c.push-in-loop-group.ensures c.push_numbers-in-loop-group.ensures in
    let pushed_more = extends_then invariant.pushed separated in
    record {
      along = grind (arith, common_steps);
      filled = All-tail IsNonEmpty c.in-Some-group.group.now c.next-in-loop-group.new.self
          (rw next at invariant.filled);
      pushed = grind (arith, common_steps, pushed_more);
    }

pub returns : goal.returns
returns c =
    let bracket = c.push-2.ensures in
    elim c.match-next.branch [
      | in-Some+in-None at_branch ↦
          let invariant = at_branch.loop-group.invariant in
          let passed = map (λ (group : Bor (List ℕ)). group.now) at_branch.loop-group.yielded in
          let all : group_text (get_or c.args.params.now 0 []) ++ flat_map after_semicolon passed
          ≡ shown c.args.params.now =
          groups_written c.args.params.now _ _ passed _ invariant.along refl at_branch.in-None.ensures.steps.0 in
          extends_then (rw all at invariant.pushed) (rw at_branch.self-is at bracket)
      | in_default at_branch ↦
          let no_groups = sym c.iter-groups.ensures.value ∙ at_branch.in_default.ensures.steps.0 in
          rw (no_groups, shown-nil) (extends_then c.push.ensures (rw at_branch.self-is at bracket))
    ]
