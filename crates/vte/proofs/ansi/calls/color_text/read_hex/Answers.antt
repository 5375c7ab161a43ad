-- Three digits at most give a small number, so nothing overflows.
use Rattle.vte.proofs.ansi.calls.color_text.read_hex.Goals as goal
use Rattle.vte.proofs.Common.{arith, rules}
use Rattle.vte.proofs.lemmas.calls.Colors.{few_hex_digits}

pub overflow_mul-number : goal.overflow_mul-number
overflow_mul-number c =
    let small = few_hex_digits c.loop-byte.byte-index c.loop-byte.number (search rules) c.loop-byte.invariant.1 in
    omega (arith, small)

pub overflow_add-number : goal.overflow_add-number
overflow_add-number c =
    let small = few_hex_digits c.loop-byte.byte-index c.loop-byte.number
    (search rules) c.loop-byte.invariant.1 in search rules
