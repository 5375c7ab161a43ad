-- Each shade has an opposite, by cases of the colour (`Colors`).
use Rattle.vte_types.proofs.laws.shades_undo_each_other.Goals as goal
use Rattle.vte_types.proofs.lemmas.Colors.{bright_of-dim, dim_of-bright}

pub returns : goal.returns
returns c = record { dim_of_bright = dim_of-bright; bright_of_dim = bright_of-dim }
