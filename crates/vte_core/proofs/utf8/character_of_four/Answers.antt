-- The number that four bytes spell is a character's.
use Rattle.vte_core.proofs.Common.{◌∙◌}
use Rattle.vte_core.proofs.lemmas.bytes.Scalars.{spells-four, spells-same, spells-scalar}
use Rattle.vte_core.proofs.utf8.character_of_four.Goals as goal

pub from_u32_unchecked-requires : goal.from_u32_unchecked-requires
from_u32_unchecked-requires c =
    let spells =
    spells-four c.requires.lead.low c.requires.lead.high
    c.requires.second c.requires.third c.requires.fourth in
    spells-scalar _ _ (spells-same spells c.code_point_of_four.ensures)

pub returns : goal.returns
returns c =
    let spells =
    spells-four c.requires.lead.low c.requires.lead.high
    c.requires.second c.requires.third c.requires.fourth in
    c.from_u32_unchecked.ensures ∙ c.code_point_of_four.ensures ∙ spells.same
