-- A run is written as its characters are, one after another (`run-written`).
use Rattle.vte_c.proofs.Common.{written_text_of, ◌∙◌}
use Rattle.vte_c.proofs.lemmas.Stripping.{run-written}
use Rattle.vte_c.proofs.text.TextWriterPerformText.print_text.Goals as goal

pub returns : goal.returns
returns c =
    let added = rw c.as_bytes.ensures.value at c.write_text.ensures in
    added ∙ run-written (written_text_of c.args.self.now) c.args.text.now c.utf8.text c.requires.not_empty
