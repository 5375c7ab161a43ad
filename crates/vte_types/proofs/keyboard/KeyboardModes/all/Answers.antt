-- The bits are those that the trait's contract gives for this table of flags.
use Rattle.std.proofs.Common.{ap}
use Rattle.bitflags.proofs.OnLiterals.{bitflags_on_literals}
use Rattle.vte_types.proofs.keyboard.KeyboardModes.all.Goals as goal
use Rattle.vte_types.specs.Keyboard.{modes_of_bits}

pub returns : goal.returns
unfolding bitflags_on_literals
returns c = ap modes_of_bits (c.all.ensures tt)
