-- After U+FFFD the byte is read from between characters.
use Rattle.vte_core.proofs.parser.machine.Machine.read_breaking_byte.Goals as goal

pub returns-clause-advances : goal.returns-clause-advances
returns-clause-advances g c = rw (← c.print_char.ensures.value) c.read_single_byte_of_text.ensures.advances
