-- The iterator yields all characters of the text.
use Rattle.std.proofs.Common.{ap, false, map, sym, ◌∙◌}
use Rattle.std.proofs.lemmas.Iterator.{YieldsList-from_chars}
use Rattle.std.proofs.lemmas.Iterator.Consumers.{YieldsList-end}
use Rattle.std.proofs.lemmas.List.{map-id}
use Rattle.test_lines.proofs.event_lines.EventLinesPerformText.print_text.Goals as goal
use Rattle.test_lines.specs.Stop.{stop_after}
use Rattle.vte_core.specs.Event.{after}
use Rattle.vte_core.specs.RunText.{run_event}

pub returns : goal.returns
returns c =
    let all =
    YieldsList-end
    (YieldsList-from_chars c.args.text.now c.utf8.text cc) c.loop-c.yielded _ c.loop-c.yielded_by _ _ c.in-None.is
    c.next.ensures.steps in
    c.loop-c.invariant
    ∙ ap (λ cs. after stop_after c.args.self.now.stop (map (run_event false) cs))
    (sym (map-id c.loop-c.yielded) ∙ all.0)
