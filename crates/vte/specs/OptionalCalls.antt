-- Calls that are made only if there is a value to pass.
use Rattle.std.specs.Prelude.{List, None, Option, Some, [], ◌∷◌}
use Rattle.vte_handler.specs.Call.{Call}

-- One call, or none without a value.
abbrev pub call_some : {X : Type 0} → (X → Call) → Option X → List Call
call_some call_with None = []
call_some call_with (Some x) = call_with x ∷ []

-- One call, or none if either value is missing.
abbrev pub call_both : {X Y : Type 0} → (X → Y → Call) → Option X → Option Y → List Call
call_both call_with (Some x) (Some y) = call_with x y ∷ []
call_both call_with _ _ = []
