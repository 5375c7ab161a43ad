-- Keywords are ASCII, so the text is none of them (`Words`).
use Rattle.vte_types.proofs.laws.keywords_are_text.Goals as goal
use Rattle.vte_types.proofs.lemmas.Words.{no_icon}

pub returns : goal.returns
returns c = no_icon
