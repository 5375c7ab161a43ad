-- A number below 0x100 has two zeros, and then the hex digits of its byte (`Fields`).
use Rattle.event_log.proofs.Common.{arith, hex_byte, hex_digit, refl, ◌%◌, ◌/◌, ◌≡◌}
use Rattle.event_log.proofs.lemmas.Fields.{line_of-four_digits}
use Rattle.event_log.proofs.lines.hex.line_of_print.Goals as goal

pub returns : goal.returns
unfolding hex_byte hex_digit
returns c =
    let high_is_0 : c.args.byte / 0x100 ≡ 0 = omega arith in
    let low_is_all : c.args.byte % 0x100 ≡ c.args.byte = omega arith in
    rw (line_of-four_digits c.args.byte (omega arith), high_is_0, low_is_all, c.hex_pair.ensures) refl
