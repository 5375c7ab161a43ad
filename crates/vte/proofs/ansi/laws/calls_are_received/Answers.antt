-- Each law is a lemma on lists of calls.
use Rattle.vte.proofs.ansi.laws.calls_are_received.Goals as goal
use Rattle.vte.proofs.lemmas.replays.ReplayedSteps.{refused_delivered, replay-append, replay-invariant, replay-only_one, steps_delivered}

pub returns-clause-calls : goal.returns-clause-calls
returns-clause-calls g c = λ limit. steps_delivered _

pub returns-clause-refused : goal.returns-clause-refused
returns-clause-refused g c = refused_delivered _

pub returns-clause-goes_on : goal.returns-clause-goes_on
returns-clause-goes_on g c = λ limit. replay-append _

pub returns-clause-hold_invariant : goal.returns-clause-hold_invariant
returns-clause-hold_invariant g c = λ limit. replay-invariant _

pub returns-clause-unique_state : goal.returns-clause-unique_state
returns-clause-unique_state g c =
    λ limit state end other steps steady well takes takes_other.
    replay-only_one _ steady state end other steps well takes takes_other
