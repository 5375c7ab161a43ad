-- The code's numbers of what is open are those of the definition (`kind-code`).
use denote.Enum.Declared.{tag_of}
use Rattle.vte_c.proofs.Common.{refl, ◌≡◌}
use Rattle.vte_c.specs.OpenCode.{open_code}
use Rattle.vte_core.specs.contracts.parser.open.Open.{the_type}
use Rattle.vte_core.specs.declared.parser.open.Open.{Open}
use Rattle.vte_core.specs.declared.parser.open.Open.TheVariants.{Character, ControlSequence, DeviceControl, EscapeSequence, IgnoredString, Nothing, SystemCommand}

-- Only nothing has the number 0.
pub kind-nothing_by_code : (kind : Open) → tag_of the_type kind ≡ 0 → kind ≡ Nothing
kind-nothing_by_code Nothing code_is_0 = refl
kind-nothing_by_code _ code_is_0 = cc

-- The number that `as` gives is that of the definition.
pub kind-code : (kind : Open) → tag_of the_type kind ≡ open_code kind
kind-code Nothing = refl
kind-code Character = refl
kind-code EscapeSequence = refl
kind-code ControlSequence = refl
kind-code DeviceControl = refl
kind-code SystemCommand = refl
kind-code IgnoredString = refl
