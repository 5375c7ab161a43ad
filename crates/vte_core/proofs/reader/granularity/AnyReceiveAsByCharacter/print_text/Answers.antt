-- The iterator yields all characters of the text.
use Rattle.std.proofs.lemmas.Iterator.{YieldsList-from_chars}
use Rattle.std.proofs.lemmas.Iterator.Consumers.{YieldsList-end}
use Rattle.std.proofs.lemmas.List.{map-id}
use Rattle.vte_core.proofs.Common.{after, ap, map, Print, sym, ◌∙◌}
use Rattle.vte_core.proofs.reader.granularity.AnyReceiveAsByCharacter.print_text.Goals as goal

pub returns : goal.returns
returns g c =
    let all =
    YieldsList-end
    (YieldsList-from_chars c.args.text.now c.utf8.text cc) c.loop-c.yielded _ c.loop-c.yielded_by _ _ c.in-None.is
    c.next.ensures.steps in
    c.loop-c.invariant
    ∙ ap (λ cs. after g.P.Perform.step (g.P.Perform.value_of c.args.self.now) (map Print cs))
    (sym (map-id c.loop-c.yielded) ∙ all.0)
