-- What is written after the last group, or if there is none, is the text of the groups.
use Rattle.std.proofs.Output.{has_written_append, has_written_of_eq, writes_in_calls_nil}
use Rattle.vte_core.proofs.Common.{arith, common_steps, refl, rules, ◌∙◌}
use Rattle.vte_core.proofs.lemmas.streams.ParameterTexts.{groups_written, shown-nil}
use Rattle.vte_core.proofs.params.write_groups.Goals as goal

pub returns-in-None : goal.returns-in-None
returns-in-None g c plain _ =
    let first = c.in_ok-write.ensures.writes plain refl in
    has_written_of_eq _ _ _ _ _
    (groups_written _ _ _ _ _ c.in-Some.ensures.steps
    (c.loop-group.invariant.0 ∙ c.into_iter-group-iterator.ensures.into_iter_gives) c.in-None.ensures.steps.0)
    (has_written_append _ _ _ _ _ _ first (c.loop-group.invariant.1 first.plain))

pub returns-in_default : goal.returns-in_default
returns-in_default g c plain _ = search (rules, arith, has_written_of_eq, shown-nil, writes_in_calls_nil)

pub loop-group-preserved : goal.loop-group-preserved
loop-group-preserved g c = grind (arith, common_steps)
