-- Each byte goes on with the character (`goes_on-more`), until one completes or breaks it, or no byte is left.
use Rattle.vte_core.proofs.Common.{arith, refl, rules}
use Rattle.vte_core.proofs.lemmas.positions.Characters.{completes-all, completes-malformed, completes-well_formed, goes_on-more, goes_on-nowhere}
use Rattle.vte_core.proofs.parser.machine.Machine.continue_character.Goals as goal

pub loop-position-init : goal.loop-position-init
loop-position-init g c =
    record { goes = goes_on-nowhere c.args.self.now c.requires.some_open; same = refl; spends = search rules }

-- After one more byte that continues the character, the loop goes on.
pub loop-position-preserved : goal.loop-position-preserved
loop-position-preserved g c = search (rules, arith, goes_on-more)

-- The byte ends the character.
pub returns-in-WellFormed-clause-completes : goal.returns-in-WellFormed-clause-completes
returns-in-WellFormed-clause-completes g c =
    let invariant = c.loop-position.invariant in
    completes-well_formed invariant.goes c.in-WellFormed.ensures refl
    (rw invariant.same at c.report_character.ensures.value)
    (omega (arith, c.loop-position-test.true, c.len-position-end.ensures)) c.byte_at.ensures.value refl

-- The byte breaks the character.
pub returns-in-Malformed-clause-completes : goal.returns-in-Malformed-clause-completes
returns-in-Malformed-clause-completes g c =
    let invariant = c.loop-position.invariant in
    completes-malformed invariant.goes c.in-Malformed.ensures refl (rw invariant.same at c.print_char.ensures.value)
    (omega (arith, c.loop-position-test.true, c.len-position-end.ensures)) c.byte_at.ensures.value

-- If no byte is left, the character stays open.
pub returns-clause-completes : goal.returns-clause-completes
returns-clause-completes g c =
    let invariant = c.loop-position.invariant in rw invariant.same (completes-all invariant.goes (omega arith)
    (omega arith))
