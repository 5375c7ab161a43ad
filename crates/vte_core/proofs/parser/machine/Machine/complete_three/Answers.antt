-- Each of the second and third byte of a character of three fits or breaks it, unless the bytes of the call end before.
use Rattle.vte_core.proofs.Common.{arith, rules, sym, ℕ, ◌+◌, ◌∙◌, ◌≡◌}
use Rattle.vte_core.proofs.lemmas.bytes.Scalars.{second-broken, spells-three, third-broken}
use Rattle.vte_core.proofs.lemmas.positions.Characters.{completes-all, completes-malformed, completes-well_formed, goes_on-nowhere, goes_on-second, opened-some}
use Rattle.vte_core.proofs.parser.machine.Machine.complete_three.Goals as goal

-- `omega` proves this over plain numbers, so that it has little to read.
counted : (from : ℕ) → from + 2 ≡ from + 1 + 1
counted from = omega arith

-- The second byte doesn't fit the first one, so it breaks the character.
pub returns-then-not-may_begin_three-clause-completes : goal.returns-then-not-may_begin_three-clause-completes
returns-then-not-may_begin_three-clause-completes g c =
    let requires = c.requires in
    let misfits = sym c.may_begin_three.ensures ∙ c.if-not-may_begin_three.true in
    completes-malformed (goes_on-nowhere c.args.self.now (opened-some _ _))
    (λ truncated. second-broken c.args.first c.args.second truncated misfits) requires.may_read.in_state
    c.print_char.ensures.value requires.before_end requires.looked_at

-- If the call ends after two bytes, the character stays open.
pub returns-then-next-len-clause-completes : goal.returns-then-next-len-clause-completes
returns-then-next-len-clause-completes g c = search (rules, arith, completes-all, goes_on-second)

-- The third byte doesn't continue the character, so it breaks it after two bytes.
pub returns-then-not-is_continuation-clause-completes : goal.returns-then-not-is_continuation-clause-completes
returns-then-not-is_continuation-clause-completes g c =
    let requires = c.requires in
    let second = sym c.may_begin_three.ensures ∙ c.if-not-may_begin_three.false in
    let misfits = sym c.is_continuation.ensures ∙ c.if-not-is_continuation.true in
    completes-malformed
    (goes_on-second c.args.self.now requires.lead.low second requires.before_end requires.looked_at)
    (λ truncated. third-broken c.args.first c.args.second c.byte_at-third.result truncated misfits)
    requires.may_read.in_state c.print_char-then-not-is_continuation.ensures.value
    (omega (arith, requires.before_end, c.if-next-len.false)) c.byte_at-third.ensures.value

-- Three bytes spell a character.
pub returns-clause-completes : goal.returns-clause-completes
returns-clause-completes g c =
    let requires = c.requires in
    let second = sym c.may_begin_three.ensures ∙ c.if-not-may_begin_three.false in
    let third = sym c.is_continuation.ensures ∙ c.if-not-is_continuation.false in
    let spells =
    spells-three requires.lead.low requires.lead.high second third in
    completes-well_formed
    (goes_on-second c.args.self.now requires.lead.low second requires.before_end requires.looked_at)
    (λ truncated. (spells.is_whole, c.character_of_three.ensures)) requires.may_read.in_state
    c.report_character.ensures.value (omega (arith, requires.before_end, c.if-next-len.false))
    c.byte_at-third.ensures.value (counted _)
