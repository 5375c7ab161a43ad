-- The rows that are left give what all give.
use Rattle.std.proofs.Common.{drop, ◌≡◌}
use Rattle.vte_types.proofs.cursor_icon.find_icon.Given as goal
use Rattle.vte_types.proofs.lemmas.Words.{table_of}
use Rattle.vte_types.specs.Words.{entry_of_word}

abbrev pub invariant-loop-keyword : goal.invariant-loop-keyword
invariant-loop-keyword l =
    entry_of_word (table_of (drop l.keyword-index l.rows)) l.text ≡ entry_of_word (table_of l.rows) l.text
