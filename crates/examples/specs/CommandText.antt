-- How long the text of a command was.
use Rattle.std.specs.Prelude.{length, List, ℕ, [], ◌∷◌}
use Rattle.vte_core.specs.Event.{Event, OscDispatch}

-- The length of the piece after the first `;`.
abbrev pub text_length : List (List ℕ) → ℕ
text_length (number ∷ text ∷ more) = length text
text_length pieces = 0

-- The length of the last command's text, after one more event.
abbrev pub length_after : ℕ → Event → ℕ
length_after last (OscDispatch pieces bell_terminated) = text_length pieces
length_after last event = last
