-- All flags are set exactly if setting them changes nothing (`Bits`).
use Rattle.std.proofs.Common.{sym, ◌∙◌}
use Rattle.std.proofs.lemmas.Bool.Decides.{Decides-eqb}
use Rattle.bitflags.proofs.OnLiterals.{bitflags_on_literals}
use Rattle.vte_types.proofs.keyboard.KeyboardModes.is_all.Goals as goal
use Rattle.vte_types.proofs.lemmas.Bits.{all_set, set_all}
use Rattle.vte_types.specs.Keyboard.{bits_of}

pub returns : goal.returns
unfolding bitflags_on_literals
returns c =
    let bits = bits_of c.args.self.now in
    let is_said = c.is_all.ensures tt in
    let decides = Decides-eqb _ bits in
    (λ is. all_set bits (decides.0 (sym is_said ∙ is)), λ are. is_said ∙ decides.1 (set_all bits are))
