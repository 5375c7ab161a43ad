-- A digit makes the open number longer; a separator stores it and opens another.
use Rattle.vte_core.proofs.Common.{arith, Bool, false, refl, rules, true, ◌≡◌}
use Rattle.vte_core.proofs.head.CollectedHead.collect_parameter_byte.Goals as goal
use Rattle.vte_core.proofs.lemmas.fields.Heads.{counts-digit, counts-separator}

pub returns-in-Some-clause-counts : goal.returns-in-Some-clause-counts
returns-in-Some-clause-counts c = search (rules, arith, counts-digit)

-- A byte of the parameters that is no digit is a separator.
left_is_separator : (separator parameter : Bool) → (separator ≡ false → parameter ≡ false) → parameter ≡ true
    → separator ≡ true
left_is_separator true parameter other is_parameter = refl
left_is_separator false parameter other is_parameter = let unmet = other refl in cc

pub returns-in_default-clause-counts : goal.returns-in_default-clause-counts
returns-in_default-clause-counts c = λ text k.
    counts-separator c.args.byte k (c.store_number-self.ensures.holds text k)
    (left_is_separator _ _ c.in_default.ensures c.requires) refl refl refl
