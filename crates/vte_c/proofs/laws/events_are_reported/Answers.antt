-- A saved parser of zeros is a new one, which has read nothing. What calls give is joined, and in the end nothing is
-- unread (`CallResults`).
use Rattle.vte_c.proofs.Common.{default_limit, refl, sym, ◌∙◌}
use Rattle.vte_c.proofs.laws.events_are_reported.Goals as goal
use Rattle.vte_c.proofs.lemmas.CallResults.{events-reported, given-all, given-before, given-nothing}

pub returns-clause-starts : goal.returns-clause-starts
returns-clause-starts c =
    λ kinds parser zeros.
    given-nothing (c.empty_stream.ensures default_limit) (rw (c.new.ensures.zeros ∙ sym zeros) at c.new.ensures.reads)

pub returns-clause-goes_on : goal.returns-clause-goes_on
returns-clause-goes_on c = λ kinds. given-before

pub returns-clause-ends : goal.returns-clause-ends
returns-clause-ends c = λ kinds parser given stream has_reported. given-all refl parser given stream has_reported

pub returns-clause-all_wanted : goal.returns-clause-all_wanted
returns-clause-all_wanted c = events-reported
