-- A text that is a word has the same bytes, and so the same length (`Words`).
use Rattle.vte_types.proofs.laws.words_differ_from_other_texts.Goals as goal
use Rattle.vte_types.proofs.lemmas.Words.{bytes_eq-longer, bytes_eq-other, bytes_eq-shorter}

pub returns : goal.returns
returns c = record { unequal = bytes_eq-other; shorter = bytes_eq-shorter; longer = bytes_eq-longer }
