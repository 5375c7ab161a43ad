-- Each digit that is shown is read back (`Colors`).
use Rattle.vte_types.proofs.laws.shown_colors_are_read_back.Goals as goal
use Rattle.vte_types.proofs.lemmas.Colors.{hex_color_of-shown}

pub returns : goal.returns
returns c = hex_color_of-shown
