-- What the first byte begins is open, so the call goes on by what completes it (`advances-first`): the second byte
-- here, or three bytes in a function of their own; that for four says the same as this one.
use Rattle.vte_core.proofs.Common.{arith, refl, sym, ◌∙◌}
use Rattle.vte_core.proofs.lemmas.bytes.Scalars.{second-broken, second-lone, spells-two}
use Rattle.vte_core.proofs.lemmas.positions.BetweenCharacters.{advances-first}
use Rattle.vte_core.proofs.lemmas.positions.Characters.{completes-all, completes-malformed, completes-well_formed, goes_on-nowhere, opened-some}
use Rattle.vte_core.proofs.parser.machine.Machine.read_character.Goals as goal

-- The call ends after the first byte: the character stays open.
pub returns-then-next-len-clause-advances : goal.returns-then-next-len-clause-advances
returns-then-next-len-clause-advances g c =
    advances-first c.requires.may_read c.requires.lead.low c.requires.lead.high
    (completes-all (goes_on-nowhere c.args.self.now (opened-some _ _)) refl (omega arith))

-- The second byte does not continue it, whatever the first one is: it is broken before that byte.
pub returns-then-not-is_continuation-clause-advances : goal.returns-then-not-is_continuation-clause-advances
returns-then-not-is_continuation-clause-advances g c =
    let requires = c.requires in
    let misfits =
    second-lone c.args.first c.byte_at-second.result (sym c.is_continuation.ensures ∙ c.if-not-is_continuation.true) in
    advances-first requires.may_read requires.lead.low requires.lead.high
    (completes-malformed (goes_on-nowhere c.args.self.now (opened-some _ _))
    (λ truncated. second-broken c.args.first c.byte_at-second.result truncated misfits)
    requires.may_read.in_state c.print_char.ensures.value (omega arith) c.byte_at-second.ensures.value)

-- Two bytes spell a character.
pub returns-then-first-lt224-clause-advances : goal.returns-then-first-lt224-clause-advances
returns-then-first-lt224-clause-advances g c =
    let requires = c.requires in
    let spells =
    spells-two requires.lead.low c.if-first-lt224.true
    (sym c.is_continuation.ensures ∙ c.if-not-is_continuation.false) in
    advances-first requires.may_read requires.lead.low requires.lead.high
    (completes-well_formed (goes_on-nowhere c.args.self.now (opened-some _ _))
    (λ truncated. (spells.is_whole, c.character_of_two.ensures))
    requires.may_read.in_state c.report_character.ensures.value (omega arith) c.byte_at-second.ensures.value refl)

-- A first byte below F0 begins a character of three bytes.
pub returns-then-first-lt240-clause-advances : goal.returns-then-first-lt240-clause-advances
returns-then-first-lt240-clause-advances g c =
    advances-first c.requires.may_read c.requires.lead.low c.requires.lead.high c.complete_three.ensures.completes
