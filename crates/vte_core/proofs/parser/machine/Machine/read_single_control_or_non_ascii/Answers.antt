-- A lead byte opens a character, since the call ends after it. Any other byte except ESC is a control or malformed.
use Rattle.vte_core.proofs.Common.{arith, from_to, is_in, nat_tests, refl, sym, true, ◌<◌, ◌∙◌, ◌≡◌, ◌≤◌}
use Rattle.vte_core.proofs.lemmas.positions.BetweenCharacters.{advances-first, advances-lone}
use Rattle.vte_core.proofs.lemmas.positions.Characters.{completes-all, goes_on-nowhere, opened-some}
use Rattle.vte_core.proofs.lemmas.positions.Stretches.{advances-without_promise}
use Rattle.vte_core.proofs.parser.machine.Machine.read_single_control_or_non_ascii.Goals as goal

pub returns-then-is_lead-clause-advances : goal.returns-then-is_lead-clause-advances
returns-then-is_lead-clause-advances g c =
    let lead : is_in (from_to 0xc2 0xf4) c.args.byte ≡ true = sym c.is_lead.ensures ∙ c.if-is_lead.true in
    let low : 0xc2 ≤ c.args.byte = grind (arith, nat_tests) in
    let high : c.args.byte < 0xf5 = grind (arith, nat_tests) in
    advances-without_promise (advances-first {given = ⊥} c.requires.may_read low high
    (completes-all (goes_on-nowhere c.args.self.now (opened-some _ _)) refl (omega (arith, c.requires.one_byte))))

pub returns-else-is_lead-clause-advances : goal.returns-else-is_lead-clause-advances
returns-else-is_lead-clause-advances g c =
    let reported = c.report_lone_byte.ensures in
    advances-lone c.requires.may_read c.if-byte-eq-ESCAPE.false (sym c.is_lead.ensures ∙ c.if-is_lead.false)
    reported.control reported.malformed
