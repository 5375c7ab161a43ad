-- A printed byte is a character. What any other one does, its own function says.
use Rattle.vte_core.proofs.Common.{sym, ◌∙◌}
use Rattle.vte_core.proofs.lemmas.positions.BetweenCharacters.{advances-printed}
use Rattle.vte_core.proofs.parser.machine.Machine.read_single_byte_of_text.Goals as goal

pub returns-then-is_printed_ascii-clause-advances : goal.returns-then-is_printed_ascii-clause-advances
returns-then-is_printed_ascii-clause-advances g c =
    let may_read = c.requires.may_read in
    advances-printed
    (record {
      in_state = may_read.in_state;
      may_go_on = may_read.may_go_on;
      before_end = may_read.before_end;
      looked_at = c.byte_at-byte.ensures.value;
    })
    (sym c.is_printed_ascii.ensures ∙ c.if-is_printed_ascii.true) c.from.ensures c.print_char.ensures.value
