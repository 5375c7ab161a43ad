-- A number below 0x10000 has four hex digits, which are those of two bytes (`Fields`).
use Rattle.event_log.proofs.Common.{arith, hex_byte}
use Rattle.event_log.proofs.lemmas.Fields.{line_of-four_digits}
use Rattle.event_log.proofs.lines.LogBuffer.append_print.Goals as goal

pub returns-in-256-to-65535 : goal.returns-in-256-to-65535
unfolding hex_byte
returns-in-256-to-65535 c =
    rw (line_of-four_digits c.args.c (omega arith))
    (rw (c.hex_pair.ensures, c.hex_pair-in-256-to-65535.ensures) at c.append-in-256-to-65535.ensures)
