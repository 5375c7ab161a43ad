-- The bits are those that the trait's contract gives for this table of flags, and `and` takes its sides in any order.
use Rattle.std.proofs.Common.{ap, ◌∙◌}
use Rattle.std.proofs.lemmas.Nat.{and_comm}
use Rattle.bitflags.proofs.OnLiterals.{bitflags_on_literals}
use Rattle.vte_types.proofs.keyboard.KeyboardModes.complement.Goals as goal
use Rattle.vte_types.specs.Keyboard.{modes_of_bits}

pub returns : goal.returns
unfolding bitflags_on_literals
returns c = ap modes_of_bits (c.complement.ensures tt ∙ and_comm _ _)
