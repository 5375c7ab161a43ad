-- At a byte that is not printed ASCII, a run goes on by a kept control or by one character, of two, three or four bytes
-- (`run-*`), or it ends. It ends (`ends-*`) if the byte is single, the bytes end too soon, or a byte does not fit: each
-- test that fails excludes the character that would be there.
use Rattle.vte_core.proofs.Common.{ap, arith, false≢true, from_to, is_in, refl, rules, sym, ◌∙◌}
use Rattle.vte_core.proofs.lemmas.bytes.NoRuns.{no_run-four, no_run-long, no_run-single, no_run-three, no_run-two}
use Rattle.vte_core.proofs.lemmas.bytes.Runs.{run-layout}
use Rattle.vte_core.proofs.lemmas.bytes.Scalars.{in_range-bounds}
use Rattle.vte_core.proofs.lemmas.dividing.Utf8Agrees.{run-four, run-three, run-two}
use Rattle.vte_core.proofs.reader.Reader.find_non_ascii_end.Goals.{else-may_begin_four-via-then-may_begin_four+in_ok-get_byte-2+then-is_continuation-2+in_ok-get_byte-3+else-is_continuation-3 as fourth-misfits}
use Rattle.vte_core.proofs.reader.Reader.find_non_ascii_end.Goals as goal

-- HT, LF or CR, if the performer keeps them: a run of one byte.
pub returns-then-is_layout-clause-run : goal.returns-then-is_layout-clause-run
returns-then-is_layout-clause-run c = search (rules, arith, run-layout)

-- A character of two bytes, whose second one continues it; after C2 it is no control.
pub returns-then-is_printed_pair-clause-run : goal.returns-then-is_printed_pair-clause-run
returns-then-is_printed_pair-clause-run c =
    let second = c.in_ok-second.ensures in
    let pair = c.if-is_printed_pair.ensures in
    let lead = in_range-bounds (from_to 0xc2 0xf4) c.args.first (sym c.is_lead.ensures ∙ c.if-not-is_lead.false) in
    run-two c.args.input.bytes.now c.args.from
    (omega (arith, second.0)) c.requires.looked_at second.1 lead.0 c.if-first-lt224.true
    (pair.0 refl).0 (pair.0 refl).1

-- A character of three bytes, each in its range, is a run.
pub returns-then-is_continuation-clause-run : goal.returns-then-is_continuation-clause-run
returns-then-is_continuation-clause-run c =
    let third = c.in_ok-get_byte.ensures in
    run-three c.args.input.bytes.now c.args.from
    (omega (arith, third.0)) c.requires.looked_at c.in_ok-second.ensures.1
    third.1 c.if-first-lt224.false c.if-first-lt240.true
    (sym c.may_begin_three.ensures ∙ c.if-may_begin_three.true) (sym c.if-is_continuation.ensures)

-- A character of four bytes, each in its range, is a run.
pub returns-then-is_continuation-3-clause-run : goal.returns-then-is_continuation-3-clause-run
returns-then-is_continuation-3-clause-run c =
    let third = c.in_ok-get_byte-2.ensures in
    let fourth = c.in_ok-get_byte-3.ensures in
    let lead = in_range-bounds (from_to 0xc2 0xf4) c.args.first (sym c.is_lead.ensures ∙ c.if-not-is_lead.false) in
    run-four c.args.input.bytes.now c.args.from
    (omega (arith, fourth.0)) c.requires.looked_at c.in_ok-second.ensures.1 third.1 fourth.1
    c.if-first-lt240.false (omega (arith, lead.1))
    (sym c.may_begin_four.ensures ∙ c.if-may_begin_four.true) (sym c.if-is_continuation-2.ensures)
    (sym c.if-is_continuation-3.ensures)

-- A byte that begins no longer character and is not kept: it is no run.
pub returns-then-not-is_lead-clause-ended : goal.returns-then-not-is_lead-clause-ended
returns-then-not-is_lead-clause-ended c no_run = search (rules, arith, no_run-single)

-- The bytes end after the first one, the second or the third: too few for the character.
pub returns-in_err-second-clause-ended : goal.returns-in_err-second-clause-ended
returns-in_err-second-clause-ended c no_run = search (rules, arith, no_run-long)

pub returns-in_err-get_byte-clause-ended : goal.returns-in_err-get_byte-clause-ended
returns-in_err-get_byte-clause-ended c no_run = search (rules, arith, no_run-three)

pub returns-in_err-get_byte-2-clause-ended : goal.returns-in_err-get_byte-2-clause-ended
returns-in_err-get_byte-2-clause-ended c no_run = search (rules, arith, no_run-four)

pub returns-in_err-get_byte-3-clause-ended : goal.returns-in_err-get_byte-3-clause-ended
returns-in_err-get_byte-3-clause-ended c no_run = search (rules, arith, no_run-four)

-- A second byte that does not continue the first one, or gives a control of C1.
pub returns-else-is_printed_pair-clause-ended : goal.returns-else-is_printed_pair-clause-ended
returns-else-is_printed_pair-clause-ended c no_run =
    let lead = in_range-bounds (from_to 0xc2 0xf4) c.args.first (sym c.is_lead.ensures ∙ c.if-not-is_lead.false) in
    let second = c.in_ok-second.ensures.1 in
    no_run-two c.args.layout _ c.args.from c.args.first c.requires.before_end c.requires.looked_at lead.0
    c.if-first-lt224.true
    (λ more continues plain.
    false≢true
    (sym c.if-is_printed_pair.false
    ∙ c.is_printed_pair.ensures.1
    (ap (is_in (from_to 0x80 0xbf)) second ∙ continues, λ first. omega (arith, second, plain first))))

-- Of three bytes, the third doesn't continue the character, or the second doesn't fit the first.
pub returns-else-may_begin_three-clause-ended : goal.returns-else-may_begin_three-clause-ended
returns-else-may_begin_three-clause-ended c no_run = search (rules, arith, no_run-three)

-- Of four bytes, the fourth or third doesn't continue the character, or the second doesn't fit the first.
pub returns-else-may_begin_four-clause-ended : goal.returns-else-may_begin_four-clause-ended
returns-else-may_begin_four-clause-ended c no_run = search (rules, arith, no_run-four, fourth-misfits)
