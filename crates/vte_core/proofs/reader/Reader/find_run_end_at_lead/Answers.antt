-- A character of two or three bytes and the run after it are one run (`run-append`).
use Rattle.std.proofs.Common.{arith, refl, sym, ◌+◌, ◌∙◌}
use Rattle.vte_core.proofs.lemmas.bytes.Runs.{run-append}
use Rattle.vte_core.proofs.lemmas.dividing.Utf8Agrees.{run-three, run-two}
use Rattle.vte_core.proofs.reader.Reader.find_run_end_at_lead.Goals as goal

-- A character of two bytes is a run.
pub returns-then-is_printed_pair-clause-run : goal.returns-then-is_printed_pair-clause-run
returns-then-is_printed_pair-clause-run g c = λ _.
    let bytes = c.args.input.bytes.now in
    let second = c.in-Some.ensures in
    let pair = c.if-is_printed_pair.ensures in
    let rest = c.find_run_end_after_non_ascii.ensures in
    run-append g.P.CountedPerform.layout bytes c.args.from (c.args.from + 2) c.find_run_end_after_non_ascii.result
    (omega arith) rest.scans.in_order
    (run-two bytes c.args.from
    (omega (arith, second.0)) c.requires.looked_at second.1 c.requires.lead c.if-first-lt224.true
    (pair.0 refl).0 (pair.0 refl).1) rest.scans.passed

-- A character of three bytes is a run.
pub returns-in-Some-2-clause-run : goal.returns-in-Some-2-clause-run
returns-in-Some-2-clause-run g c = λ _.
    let bytes = c.args.input.bytes.now in
    let second = c.in-Some.ensures in
    let third = c.in-Some-get_byte.ensures in
    let rest = c.find_run_end_after_non_ascii-in-Some-2.ensures in
    run-append g.P.CountedPerform.layout bytes c.args.from (c.args.from + 3)
    c.find_run_end_after_non_ascii-in-Some-2.result
    (omega arith) rest.scans.in_order
    (run-three bytes c.args.from
    (omega (arith, third.0)) c.requires.looked_at second.1 third.1
    (omega (arith, c.if-first-lt224.false)) c.if-first-lt240.true
    (sym c.may_begin_three.ensures ∙ c.if-may_begin_three.true)
    (sym c.is_continuation-then-first-lt240.ensures ∙ c.if-is_continuation-2.true)) rest.scans.passed
