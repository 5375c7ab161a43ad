-- The text that remains of events when the sequences are removed.
use Rattle.std.specs.Char.{encode_utf8}
use Rattle.std.specs.List.{flat_map}
use Rattle.std.specs.Prelude.{if◌then◌else◌, List, ℕ, [], ◌∷◌}
use Rattle.vte_core.specs.Event.{Event, Execute, Print}
use Rattle.vte_core.specs.RunText.{is_layout}

-- The UTF-8 of a character, a layout control itself, and nothing for any other event.
unfoldable pub plain_text_of : Event → List ℕ
plain_text_of (Print c) = encode_utf8 c
plain_text_of (Execute byte) = if is_layout byte then byte ∷ [] else []
plain_text_of _ = []

-- The texts of events, in order.
abbrev pub plain_text : List Event → List ℕ
plain_text events = flat_map plain_text_of events
