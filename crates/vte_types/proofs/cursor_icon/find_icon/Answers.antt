-- The text is this row's keyword, or is looked up in the rows that follow (`entry-from_row`).
use Rattle.std.proofs.Common.{sym, ◌∙◌}
use Rattle.vte_types.proofs.cursor_icon.find_icon.Goals as goal
use Rattle.vte_types.proofs.lemmas.Words.{entry-from_row}

pub loop-keyword-preserved : goal.loop-keyword-preserved
loop-keyword-preserved c =
    sym (entry-from_row c.args.rows.now _ _ c.args.text.now _ c.loop-keyword-test.true
    (sym c.if-eq.false ∙ c.eq.ensures))
    ∙ c.loop-keyword.invariant

pub returns-then-eq : goal.returns-then-eq
returns-then-eq c =
    sym (entry-from_row c.args.rows.now _ _ c.args.text.now _ c.loop-keyword-test.true
    (sym c.if-eq.true ∙ c.eq.ensures))
    ∙ c.loop-keyword.invariant
