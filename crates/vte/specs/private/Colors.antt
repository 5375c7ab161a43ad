-- The components of colours, as they are read one by one.
use Rattle.std.specs.Prelude.{if◌then◌else◌, List, None, Option, Some, ℕ, [], ◌∷◌}
use Rattle.vte.specs.Colors.{is_component}

-- The first number, if it is at most 255.
abbrev pub first_component : List ℕ → Option ℕ
first_component [] = None
first_component (number ∷ numbers) = if is_component number then Some number else None
