-- One byte more after one, two or three: it ends the character, leaves it open or breaks it (`bytes/Scalars`).
use Rattle.vte_core.proofs.Common.{arith, rules}
use Rattle.vte_core.proofs.lemmas.bytes.Scalars.{fourth-broken, fourth-whole, second-broken, second-open, second-whole, third-broken, third-open, third-whole}
use Rattle.vte_core.proofs.utf8.OpenCharacter.extend.Goals as goal

pub returns-then-first-lt224 : goal.returns-then-first-lt224
returns-then-first-lt224 c = search (rules, arith, second-whole)

pub returns-else-first-lt224 : goal.returns-else-first-lt224
returns-else-first-lt224 c =
    rw c.in-One.is (λ more. second-open c.in-One.first c.args.byte more (cc) c.if-first-lt224.false)

pub returns-in_default : goal.returns-in_default
returns-in_default c = rw c.in-One.is (λ more. second-broken c.in-One.first c.args.byte more (cc))

pub returns-then-first-lt240 : goal.returns-then-first-lt240
returns-then-first-lt240 c = search (rules, arith, third-whole)

pub returns-else-first-lt240 : goal.returns-else-first-lt240
returns-else-first-lt240 c =
    rw c.in-Two.is (λ more. third-open c.in-Two.first c.in-Two.second c.args.byte more (cc) c.if-first-lt240.false)

pub returns-in_default-2 : goal.returns-in_default-2
returns-in_default-2 c = rw c.in-Two.is (λ more. third-broken c.in-Two.first c.in-Two.second c.args.byte more (cc))

pub returns-in-Three : goal.returns-in-Three
returns-in-Three c = search (rules, arith, fourth-whole)

pub returns-in_default-3 : goal.returns-in_default-3
returns-in_default-3 c =
    rw c.in-Three.is (λ more. fourth-broken c.in-Three.first c.in-Three.second c.in-Three.third c.args.byte more (cc))
