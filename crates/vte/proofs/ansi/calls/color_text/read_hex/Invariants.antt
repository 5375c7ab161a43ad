-- The digits that are left, read after the number so far, give the number of all digits. The number so far has at
-- most 4 bits per digit.
use Rattle.vte.proofs.ansi.calls.color_text.read_hex.Given as goal
use Rattle.vte.proofs.Common.{drop, ◌<◌, ◌^◌, ◌≡◌}
use Rattle.vte_types.specs.Rgb.{hex_from, hex_number}

abbrev pub invariant-loop-byte : goal.invariant-loop-byte
invariant-loop-byte l =
    (hex_from l.number (drop l.byte-index l.digits) ≡ hex_number l.digits) × (l.number < 16 ^ l.byte-index)
