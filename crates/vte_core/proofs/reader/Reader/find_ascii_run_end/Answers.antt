-- The first byte, the ASCII after it and what follows are one run (`run-append`).
use Rattle.vte_core.proofs.Common.{arith, IsPrintedAscii}
use Rattle.vte_core.proofs.lemmas.bytes.Each.{each-both}
use Rattle.vte_core.proofs.lemmas.bytes.Runs.{run-append, run-ascii}
use Rattle.vte_core.proofs.reader.Reader.find_ascii_run_end.Goals as goal

pub returns-clause-run : goal.returns-clause-run
returns-clause-run g c =
    let ascii = c.find_ascii_end_by_words-end.ensures in
    let rest = c.find_run_end.ensures in
    run-append g.P.CountedPerform.layout c.args.input.bytes.now c.args.from c.find_ascii_end_by_words-end.result
    c.find_run_end.result (omega (arith, ascii.scans.in_order)) rest.scans.in_order
    (run-ascii g.P.CountedPerform.layout _ _ _ (each-both IsPrintedAscii _ _ _ _ c.requires.printed ascii.scans.passed))
    (rw c.keeps_layout.ensures at rest.scans.passed)
