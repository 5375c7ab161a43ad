-- Operating system commands (ECMA-48, section 8.3.89; BEL as an end is xterm's), after ESC ].
use Rattle.std.specs.List.{concat, filter, slice_split}
use Rattle.std.specs.Prelude.{Bool, false, if◌then◌else◌, length, List, nat_le, nat_lt, None, not, Option, Some, take, true, ℕ, [], ◌+◌, ◌==◌, ◌||◌, ◌∷◌, ◌≢◌, ◌≤◌}
use Rattle.vte_core.specs.Class.{class_of, is_cancel}
use Rattle.vte_core.specs.CutBefore.{cut_before}
use Rattle.vte_core.specs.Event.{Event, Execute, OscDispatch}
use Rattle.vte_core.specs.Outcome.{CommandToClose, leaves, Outcome, report}
use Rattle.vte_core.specs.Parameters.{semicolon}
use Rattle.vte_core.specs.Text.{text_outcome}

-- BEL: it ends a command too, as xterm has it.
abbrev pub bell : ℕ
bell = 0x07

-- How many pieces of a command are kept.
abbrev pub max_pieces : ℕ
max_pieces = 16

-- ESC ends a command too, but no body contains it.
abbrev pub ends_system_command : ℕ → Bool
ends_system_command b = is_cancel (class_of b) || b == bell

-- Whether an item is data, not a separator.
abbrev pub is_data_item : ℕ → Bool
is_data_item b = not (b == semicolon)

-- The byte is an item, and data.
abbrev pub IsCommandData : ℕ → Type 0
IsCommandData b = (0x20 ≤ b) × (b ≢ semicolon)

-- There is room for another data byte after `count` of them. Without a limit there always is.
abbrev pub has_room : Option ℕ → ℕ → Bool
has_room None count = true
has_room (Some limit) count = nat_lt count limit

-- What is kept of items that follow `count` data bytes. A data byte takes room, a `;` takes none.
abbrev pub kept_after : Option ℕ → ℕ → List ℕ → List ℕ
kept_after limit count [] = []
kept_after limit count (item ∷ items) =
    if has_room limit count
    then item ∷ kept_after limit (if is_data_item item then count + 1 else count) items else []

-- An item is kept exactly if there is room after the data bytes before it, even if it is a `;`.
unfoldable pub kept_items : Option ℕ → List ℕ → List ℕ
kept_items limit items = kept_after limit 0 items

-- The items of a command are its bytes from 20 on. Plain controls are dropped.
abbrev pub items_of : List ℕ → List ℕ
items_of bytes = filter (λ b. nat_le 0x20 b) bytes

-- The first 16 pieces of the kept items, split at `;`.
unfoldable pub pieces_of : Option ℕ → List ℕ → List (List ℕ)
pieces_of limit items =
    take max_pieces (slice_split (λ b. b == semicolon) (kept_items limit items))

-- Whether data bytes among the items are in no piece: those for which there is no room, and those
-- after the 16th piece.
unfoldable pub loses_data : Option ℕ → List ℕ → Bool
loses_data limit items =
    nat_lt (length (concat (pieces_of limit items))) (length (filter is_data_item items))

-- BEL dispatches the command. CAN and SUB dispatch it and are executed.
abbrev pub system_command_end : List (List ℕ) → ℕ → List Event
system_command_end pieces end =
    if end == bell then OscDispatch pieces true ∷ []
    else OscDispatch pieces false ∷ Execute end ∷ []

-- The end, and the text that follows it. Without an end the command stays open.
abbrev pub system_command_rest : List (List ℕ) → Bool → List ℕ → Outcome
system_command_rest pieces lost [] = leaves (CommandToClose pieces lost)
system_command_rest pieces lost (end ∷ text) =
    report (system_command_end pieces end) (text_outcome text)

-- The end is the first of BEL, CAN and SUB.
unfoldable pub system_command_outcome : Option ℕ → List ℕ → Outcome
system_command_outcome limit bytes =
    let cut = cut_before ends_system_command bytes in
    let items = items_of cut.before in
    system_command_rest (pieces_of limit items) (loses_data limit items) cut.rest
