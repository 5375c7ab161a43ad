-- The numbers of what is open, as vte.h has them.
use Rattle.std.specs.Prelude.{ℕ}
use Rattle.vte_core.specs.declared.parser.open.Open.{Open}
use Rattle.vte_core.specs.declared.parser.open.Open.TheVariants.{Character, ControlSequence, DeviceControl, EscapeSequence, IgnoredString, Nothing, SystemCommand}

-- `VTE_OPEN_NOTHING` and those after it, in order.
abbrev pub open_code : Open → ℕ
open_code Nothing = 0
open_code Character = 1
open_code EscapeSequence = 2
open_code ControlSequence = 3
open_code DeviceControl = 4
open_code SystemCommand = 5
open_code IgnoredString = 6
