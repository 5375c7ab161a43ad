-- Ignored strings: SOS, PM, APC, and a device control string after an ill-shaped head.
use Rattle.std.specs.Prelude.{List, ℕ, [], ◌∷◌}
use Rattle.vte_core.specs.Class.{class_of, is_cancel}
use Rattle.vte_core.specs.CutBefore.{from_first}
use Rattle.vte_core.specs.Event.{Execute}
use Rattle.vte_core.specs.Outcome.{IgnoredStringToClose, leaves, Outcome, report}
use Rattle.vte_core.specs.Text.{text_outcome}

-- The end is executed, and text follows. Without an end the string stays open.
abbrev pub ignored_string_rest : List ℕ → Outcome
ignored_string_rest [] = leaves IgnoredStringToClose
ignored_string_rest (end ∷ text) = report (Execute end ∷ []) (text_outcome text)

-- Everything is dropped up to the first CAN or SUB.
unfoldable pub ignored_string_outcome : List ℕ → Outcome
ignored_string_outcome bytes = ignored_string_rest (from_first (λ b. is_cancel (class_of b)) bytes)
