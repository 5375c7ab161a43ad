-- The bytes so far are pushed, each as two hex digits.
use Rattle.event_log.proofs.Common.{blank, ExtendsLine, flat_map, hex_byte, take, ◌++◌}
use Rattle.event_log.proofs.lines.LogBuffer.push_hex_field.Given as goal

abbrev pub invariant-loop-byte : goal.invariant-loop-byte
invariant-loop-byte l = ExtendsLine l.fn.self (blank ++ flat_map hex_byte (take l.byte-index l.bytes)) l.self
