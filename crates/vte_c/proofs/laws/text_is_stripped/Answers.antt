-- A saved parser of zeros is a new one, which has read nothing. What calls give is joined, and in the end nothing is
-- unread (`CallResults`).
use Rattle.vte_c.proofs.Common.{default_limit, refl, sym, ◌∙◌}
use Rattle.vte_c.proofs.laws.text_is_stripped.Goals as goal
use Rattle.vte_c.proofs.lemmas.CallResults.{given-all, given-before, given-nothing}

pub returns-clause-starts : goal.returns-clause-starts
returns-clause-starts c =
    λ parser zeros.
    given-nothing (c.empty_stream.ensures default_limit) (rw (c.new.ensures.zeros ∙ sym zeros) at c.new.ensures.reads)

pub returns-clause-goes_on : goal.returns-clause-goes_on
returns-clause-goes_on c = given-before

pub returns-clause-ends : goal.returns-clause-ends
returns-clause-ends c = λ parser text stream has_stripped. given-all refl parser text stream has_stripped
