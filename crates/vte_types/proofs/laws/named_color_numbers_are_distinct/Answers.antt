-- A table reads the colour back from its number (`Colors`).
use Rattle.vte_types.proofs.laws.named_color_numbers_are_distinct.Goals as goal
use Rattle.vte_types.proofs.lemmas.Colors.{number_decides}

pub returns : goal.returns
returns c = number_decides
