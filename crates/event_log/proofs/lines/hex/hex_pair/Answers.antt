-- The table has the two hex digits of each byte (`Fields`).
use Rattle.event_log.proofs.Common.{arith}
use Rattle.event_log.proofs.lemmas.Fields.{entry-of_byte}
use Rattle.event_log.proofs.lines.hex.hex_pair.Goals as goal

pub returns : goal.returns
returns c = rw c.from-index.ensures (entry-of_byte c.args.byte (omega arith))
