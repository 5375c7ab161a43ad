-- Six digits are those of three bytes (`Fields`).
use Rattle.event_log.proofs.Common.{hex_byte, sym}
use Rattle.event_log.proofs.lemmas.Fields.{six_digits-of_bytes}
use Rattle.event_log.proofs.lines.hex.six_hex_digits.Goals as goal

pub returns : goal.returns
unfolding hex_byte
returns c =
    rw (c.hex_pair.ensures, c.hex_pair-2.ensures, c.hex_pair-3.ensures) (sym (six_digits-of_bytes c.args.number))
