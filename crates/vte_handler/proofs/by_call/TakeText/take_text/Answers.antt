-- The iterator yields all characters of the text.
use Rattle.std.proofs.Common.{ap, map, sym, ◌∙◌}
use Rattle.std.proofs.lemmas.Iterator.{YieldsList-from_chars}
use Rattle.std.proofs.lemmas.Iterator.Consumers.{YieldsList-end}
use Rattle.std.proofs.lemmas.List.{map-id}
use Rattle.vte_handler.proofs.by_call.TakeText.take_text.Goals as goal
use Rattle.vte_handler.specs.Call.{Input}
use Rattle.vte_handler.specs.Handler.{after}

pub returns : goal.returns
returns g c =
    let all =
    YieldsList-end
    (YieldsList-from_chars c.args.text.now c.utf8.text cc) c.loop-c.yielded _ c.loop-c.yielded_by _ _ c.in-None.is
    c.next.ensures.steps in
    c.loop-c.invariant
    ∙ ap (λ cs. after g.Self.TakeCall.step (g.Self.TakeCall.value_of c.args.self.now) (map Input cs))
    (sym (map-id c.loop-c.yielded) ∙ all.0)
