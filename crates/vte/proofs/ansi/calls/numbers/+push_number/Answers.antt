-- The digits of a tenth, and then the last one, are those of the number.
use Rattle.std.proofs.lemmas.Fmt.{decimal_step}
use Rattle.vte.proofs.ansi.calls.numbers.+push_number.Goals as goal
use Rattle.vte.proofs.Common.{ap, append_assoc, arith, decimal, length, length-append, [], ◌%◌, ◌+◌, ◌/◌, ◌∙◌, ◌∷◌}

pub push-requires-else-number-lt10-clause-fits : goal.push-requires-else-number-lt10-clause-fits
push-requires-else-number-lt10-clause-fits g t c =
    let digits =
    decimal_step c.args.number c.if-number-lt10.false (let fits = c.ranges.number.fits in omega (arith, fits)) in
    let size = ap length digits ∙ length-append (decimal (c.args.number / 10)) ((0x30 + c.args.number % 10) ∷ []) in
    rw (c.push_number.ensures.pushed, c.push_number.ensures.same_capacity, length-append)
    (omega (arith, size, c.requires))

pub returns-else-number-lt10-clause-pushed : goal.returns-else-number-lt10-clause-pushed
returns-else-number-lt10-clause-pushed g t c =
    let digits =
    decimal_step c.args.number c.if-number-lt10.false (let fits = c.ranges.number.fits in omega (arith, fits)) in
    rw (
      c.push-else-number-lt10.ensures.pushed,
      c.push_number.ensures.pushed,
      c.from-else-number-lt10.ensures,
      digits,
      append_assoc,
    )
