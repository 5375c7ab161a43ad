-- An ill-shaped head reports nothing. Any other is whole once the last number is settled, and is dispatched.
use Rattle.vte_core.proofs.Common.{ap, arith, CsiDispatch, head_of, InText, refl, rules, sequence_event, [], ◌∙◌, ◌∷◌}
use Rattle.vte_core.proofs.lemmas.bytes.Classes.{class-final}
use Rattle.vte_core.proofs.lemmas.fields.Heads.{dispatched-ready, head-holds, ill_shaped-now}
use Rattle.vte_core.proofs.lemmas.fields.PlaceOfState.{is_at-between}
use Rattle.vte_core.proofs.lemmas.places.PlaceLeads.{control-dispatched, control-silent}
use Rattle.vte_core.proofs.lemmas.positions.SettledStates.{settled-same_state}
use Rattle.vte_core.proofs.parser.machine.Machine.end_control_sequence.Goals as goal

-- An ill-shaped head reports nothing.
pub returns-in-IllShaped-clause-takes : goal.returns-in-IllShaped-clause-takes
returns-in-IllShaped-clause-takes g c = λ head s.
    let ill = ill_shaped-now (rw c.in-IllShaped.is at s) in
    record {
      reported = [];
      next = InText [];
      performed = refl;
      is_at = record { fields = (refl, refl) };
      leads = control-silent (class-final _ c.requires.final_byte) ill;
    }

-- A well-shaped head is dispatched.
pub returns-clause-takes : goal.returns-clause-takes
returns-clause-takes g c = λ head s.
    let ready = c.end_head-ignore.ensures c.args.head.progress head (head-holds c.in_default.not-IllShaped s) in
    let dispatch = c.dispatch_control_sequence.ensures.dispatches in
    record {
      reported = sequence_event CsiDispatch (head_of head) c.args.final_byte ∷ [];
      next = InText [];
      performed = dispatch.reports.value
          ∙ ap (g.P.CountedPerform.step (g.P.CountedPerform.value_of c.args.performer.now))
          (dispatched-ready CsiDispatch c.args.final_byte ready);
      is_at = is_at-between dispatch.in_text;
      leads = control-dispatched (class-final _ c.requires.final_byte) ready.well_shaped;
    }

pub returns-clause-handles : goal.returns-clause-handles
returns-clause-handles g c = search (rules, arith, settled-same_state)
