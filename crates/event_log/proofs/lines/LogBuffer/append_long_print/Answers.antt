-- The line has the last five of six hex digits, or all of them (`Fields`).
use Rattle.event_log.proofs.Common.{arith, hex_digits}
use Rattle.event_log.proofs.lemmas.Fields.{line_of-five_digits, line_of-six_digits}
use Rattle.event_log.proofs.lines.LogBuffer.append_long_print.Goals as goal

pub returns-in-65536-to-1048575 : goal.returns-in-65536-to-1048575
unfolding hex_digits
returns-in-65536-to-1048575 c =
    rw (line_of-five_digits c.args.number (omega arith) (omega arith)) (rw c.six_hex_digits.ensures at c.append.ensures)

pub returns-in_default : goal.returns-in_default
unfolding hex_digits
returns-in_default c =
    rw (line_of-six_digits c.args.number (omega arith)) (rw c.six_hex_digits.ensures at c.append-in_default.ensures)
