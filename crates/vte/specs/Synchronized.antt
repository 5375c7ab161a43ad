-- What begins and ends a synchronized update: events where bytes are parsed, and in a hold, whose
-- bytes aren't parsed yet, two sequences, *begin-update* and *end-update*.
use Rattle.std.specs.Option.{option_map_or, option_or}
use Rattle.std.specs.Prelude.{Bool, codes, false, if◌then◌else◌, is_some, length, List, nat_lt, None, Option, unwrap_or, ℕ, [], ◌&&◌, ◌+◌, ◌==◌, ◌∷◌}
use Rattle.vte.specs.Numbers.{first_number}
use Rattle.vte_core.specs.Event.{CsiDispatch, Event}
use Rattle.vte_handler.specs.Call.{Call, UnsetPrivateMode}
use Rattle.vte_types.specs.declared.mode.NamedPrivateMode.TheVariants.{SyncUpdate}
use Rattle.vte_types.specs.declared.mode.PrivateMode.TheVariants.{Named}
use Rattle.vte_types.specs.Words.{after_word}

-- ---- events that begin an update, and how often

-- The private mode of synchronized updates.
abbrev pub update_mode : ℕ
update_mode = 2026

-- A group whose first number is that mode.
abbrev pub is_update_group : List ℕ → Bool
is_update_group group = first_number group == update_mode

-- A sequence may name the mode more than once.
abbrev pub update_group_count : List (List ℕ) → ℕ
update_group_count [] = 0
update_group_count (group ∷ groups) =
    (if is_update_group group then 1 else 0) + update_group_count groups

-- The only intermediate is `?`.
abbrev pub is_private : List ℕ → Bool
is_private (byte ∷ []) = byte == 0x3f
is_private _ = false

-- How often an event begins an update: once per group of the mode, in a sequence `?h` that isn't
-- ignored.
abbrev pub begin_count_in_event : Event → ℕ
begin_count_in_event (CsiDispatch groups intermediates ignore final) =
    if ignore then 0
    else if final == 0x68 && is_private intermediates then update_group_count groups
    else 0
begin_count_in_event _ = 0

-- How often the events begin an update.
abbrev pub begin_count : List Event → ℕ
begin_count [] = 0
begin_count (event ∷ events) = begin_count_in_event event + begin_count events

-- ---- in a hold

-- Only exactly these eight bytes are recognised. Among the events are those of `ESC [?1;2026h` too.

-- The sequence that begins an update (BSU).
abbrev pub begin_update : List ℕ
begin_update = codes "\u{1b}[?2026h"

-- The sequence that ends an update (ESU).
abbrev pub end_update : List ℕ
end_update = codes "\u{1b}[?2026l"

-- The bytes start with the sequence.
abbrev pub is_prefix_of : List ℕ → List ℕ → Bool
is_prefix_of sequence bytes = is_some (after_word sequence bytes)

-- What follows the last end-update: of `a ESC [?2026l b`, the `b`.
abbrev pub after_last_end : List ℕ → Option (List ℕ)
after_last_end [] = None
after_last_end (byte ∷ bytes) =
    option_or (after_last_end bytes) (after_word end_update (byte ∷ bytes))

-- The bytes from the earliest begin-update on, if there is one.
abbrev pub from_begin_update : List ℕ → List ℕ
from_begin_update [] = []
from_begin_update (byte ∷ bytes) =
    if is_prefix_of begin_update (byte ∷ bytes) then byte ∷ bytes else from_begin_update bytes

-- How many begin-updates have their last byte among the last n bytes: of `ESC [?2026h b`, one
-- among the last two, and none in the last one.
abbrev pub begins_ending_in_last : ℕ → List ℕ → ℕ
begins_ending_in_last n [] = 0
begins_ending_in_last n (byte ∷ bytes) =
    option_map_or (λ rest. if nat_lt (length rest) n then 1 else 0)
    (after_word begin_update (byte ∷ bytes)) 0
    + begins_ending_in_last n bytes

-- The bytes among which begin-updates count: those after the last end-update or, without one, all.
abbrev pub part_after_last_end : List ℕ → List ℕ
part_after_last_end bytes = unwrap_or (after_last_end bytes) bytes

-- The call that reports the end of an update.
abbrev pub update_ended_call : Call
update_ended_call = UnsetPrivateMode (Named SyncUpdate)
