-- An ill-shaped head leads to an ignored string. Any other is whole once the last number is settled, and hooks.
use Rattle.vte_core.proofs.Common.{ap, head_of, Hook, InDeviceData, InIgnoredString, refl, rules, sequence_event, [], ◌∙◌, ◌∷◌}
use Rattle.vte_core.proofs.lemmas.bytes.Classes.{class-final}
use Rattle.vte_core.proofs.lemmas.fields.Heads.{dispatched-ready, head-holds, ill_shaped-now}
use Rattle.vte_core.proofs.lemmas.places.PlaceLeads.{device-ill_shaped, device-well_shaped}
use Rattle.vte_core.proofs.parser.machine.Machine.hook.Goals as goal

-- After an ill-shaped head, the string is ignored.
pub returns-in-IllShaped-clause-takes : goal.returns-in-IllShaped-clause-takes
returns-in-IllShaped-clause-takes g c = λ head s.
    let ill = ill_shaped-now (rw c.in-IllShaped.is at s) in
    record {
      reported = [];
      next = InIgnoredString;
      performed = refl;
      is_at = record { fields = tt };
      leads = device-ill_shaped (class-final _ c.requires) ill;
    }

-- A well-shaped head is reported by `Hook`.
pub returns-clause-takes : goal.returns-clause-takes
returns-clause-takes g c = λ head s.
    let head_end = c.end_head-ignore.ensures c.args.reached head (head-holds c.in_default.not-IllShaped s) in
    record {
      reported = sequence_event Hook (head_of head) c.args.final_byte ∷ [];
      next = InDeviceData;
      performed =
          c.hook.ensures.value
          ∙ ap (g.P.CountedPerform.step (g.P.CountedPerform.value_of c.args.performer.now))
          (dispatched-ready Hook c.args.final_byte head_end);
      is_at = record { fields = tt };
      leads = device-well_shaped (class-final _ c.requires) head_end.well_shaped;
    }

pub returns-clause-handles : goal.returns-clause-handles
returns-clause-handles g c = search rules
