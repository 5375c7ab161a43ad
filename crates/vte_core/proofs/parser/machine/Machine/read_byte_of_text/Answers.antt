-- A byte that is a character, a control or malformed alone: the call reads it.
use Rattle.vte_core.proofs.Common.{arith, sym, ◌∙◌}
use Rattle.vte_core.proofs.lemmas.positions.BetweenCharacters.{advances-lone, advances-printed}
use Rattle.vte_core.proofs.parser.machine.Machine.read_byte_of_text.Goals.{else-is_printed_ascii+else-is_lead+else-first-ge160+else-first-eq-ESCAPE, else-is_printed_ascii+else-is_lead+then-first-ge160, then-is_printed_ascii}
use Rattle.vte_core.proofs.parser.machine.Machine.read_byte_of_text.Goals as goal

pub returns-clause-advances : goal.returns-clause-advances
returns-clause-advances g c =
    let here = c.requires.may_read in
    elim c.if-is_printed_ascii.branch [
      | then-is_printed_ascii branch ↦
          rw branch.performer-is (advances-printed here
          (sym c.is_printed_ascii.ensures ∙ branch.if-is_printed_ascii.true) branch.from.ensures
          branch.print_char.ensures.value)
      | else-is_printed_ascii+else-is_lead+then-first-ge160 branch ↦
          let reported = branch.report_lone_byte.ensures in
          rw branch.performer-is (advances-lone here (grind (arith, branch.if-first-ge160.true))
          (sym branch.is_lead.ensures ∙ branch.if-is_lead.false) reported.control reported.malformed)
      | else-is_printed_ascii+else-is_lead+else-first-ge160+else-first-eq-ESCAPE branch ↦
          let reported = branch.report_lone_byte-else-first-eq-ESCAPE.ensures in
          rw branch.performer-is (advances-lone here branch.if-first-eq-ESCAPE.false
          (sym branch.is_lead.ensures ∙ branch.if-is_lead.false) reported.control reported.malformed)
    ]
