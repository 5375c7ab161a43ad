-- The number that three bytes spell is a character's.
use Rattle.vte_core.proofs.Common.{◌∙◌}
use Rattle.vte_core.proofs.lemmas.bytes.Scalars.{spells-same, spells-scalar, spells-three}
use Rattle.vte_core.proofs.utf8.character_of_three.Goals as goal

pub from_u32_unchecked-requires : goal.from_u32_unchecked-requires
from_u32_unchecked-requires c =
    let spells =
    spells-three c.requires.lead.low c.requires.lead.high c.requires.second
    c.requires.third in
    spells-scalar _ _ (spells-same spells c.code_point_of_three.ensures)

pub returns : goal.returns
returns c =
    let spells =
    spells-three c.requires.lead.low c.requires.lead.high c.requires.second
    c.requires.third in
    c.from_u32_unchecked.ensures ∙ c.code_point_of_three.ensures ∙ spells.same
