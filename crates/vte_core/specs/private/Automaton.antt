-- The automaton that reads text which may hold HT, LF and CR, byte by byte, and what the last three
-- bytes say of its state. No code has these states.
use Rattle.std.specs.Prelude.{Bool, false, if◌then◌else◌, List, nat_le, slice_index, ℕ, [], ◌<◌, ◌==◌, ◌∷◌, ◌≡◌, ◌≤◌}
use Rattle.vte_core.specs.declared.reader.Window.{Window}
use Rattle.vte_core.specs.private.Runs.{printed_ascii}
use Rattle.vte_core.specs.RunText.{is_layout}
use Rattle.vte_core.specs.Utf8.{from_to, is_in, Range}

-- What may come next.
pub data AutomatonState : Type 0 where
  -- A character, since none is open.
  BetweenCharacters : AutomatonState
  -- One byte 80..BF, which completes the character.
  NeedsOne : AutomatonState
  -- Two bytes 80..BF.
  NeedsTwo : AutomatonState
  -- Three bytes 80..BF.
  NeedsThree : AutomatonState
  -- A0..BF and another byte: a second byte below A0 makes an overlong form.
  AfterE0 : AutomatonState
  -- 80..9F and another byte: a second byte from A0 on makes a surrogate.
  AfterED : AutomatonState
  -- 90..BF and two other bytes: a second byte below 90 makes an overlong form.
  AfterF0 : AutomatonState
  -- 80..8F and two other bytes: a second byte from 90 on makes a number above U+10FFFF.
  AfterF4 : AutomatonState
  -- A0..BF: a second byte below A0 makes a control, which no run holds.
  AfterC2 : AutomatonState
  -- Nothing, for good: a byte fitted nowhere.
  Failed : AutomatonState

-- A byte outside the range fits nowhere.
abbrev pub next_if_in : Range → AutomatonState → ℕ → AutomatonState
next_if_in range next b = if is_in range b then next else Failed

-- The first byte of a character, which may be HT, LF or CR, but no other control.
abbrev pub next_between_characters : ℕ → AutomatonState
next_between_characters b =
    if is_layout b then BetweenCharacters
    else if is_in printed_ascii b then BetweenCharacters
    else if b == 0xc2 then AfterC2
    else if is_in (from_to 0xc3 0xdf) b then NeedsOne
    else if b == 0xe0 then AfterE0
    else if b == 0xed then AfterED
    else if is_in (from_to 0xe1 0xef) b then NeedsTwo
    else if b == 0xf0 then AfterF0
    else if is_in (from_to 0xf1 0xf3) b then NeedsThree
    else if b == 0xf4 then AfterF4
    else Failed

-- The state after one more byte of a run.
unfoldable pub next_state : AutomatonState → ℕ → AutomatonState
next_state BetweenCharacters b = next_between_characters b
next_state NeedsOne b = next_if_in (from_to 0x80 0xbf) BetweenCharacters b
next_state NeedsTwo b = next_if_in (from_to 0x80 0xbf) NeedsOne b
next_state NeedsThree b = next_if_in (from_to 0x80 0xbf) NeedsTwo b
next_state AfterE0 b = next_if_in (from_to 0xa0 0xbf) NeedsOne b
next_state AfterED b = next_if_in (from_to 0x80 0x9f) NeedsOne b
next_state AfterF0 b = next_if_in (from_to 0x90 0xbf) NeedsTwo b
next_state AfterF4 b = next_if_in (from_to 0x80 0x8f) NeedsTwo b
next_state AfterC2 b = next_if_in (from_to 0xa0 0xbf) BetweenCharacters b
next_state Failed b = Failed

-- The state after these bytes.
abbrev pub state_after : AutomatonState → List ℕ → AutomatonState
state_after state [] = state
state_after state (b ∷ bytes) = state_after (next_state state b) bytes

-- The automaton may be in the state after these three bytes. A first byte is C0 or more, E0 or more
-- if two bytes follow it, and F0 or more if three do. So between characters `one_back < 0xc0`: no
-- first byte stands there. `two_back < 0xe0` and `three_back < 0xf0`: a first byte there has all
-- its bytes. In the other states one of the three is the first byte of the open character.
abbrev pub IsAllowedAfter : AutomatonState → ℕ → ℕ → ℕ → Type 0
IsAllowedAfter BetweenCharacters three_back two_back one_back =
    (one_back < 0xc0) × (two_back < 0xe0) × (three_back < 0xf0)
IsAllowedAfter NeedsOne three_back two_back one_back =
    (one_back < 0xc0 → two_back < 0xe0 → 0xf0 ≤ three_back) × (one_back < 0xe0) × (two_back < 0xf0)
IsAllowedAfter NeedsTwo three_back two_back one_back = (one_back < 0xe0 → 0xf0 ≤ two_back)
    × (one_back < 0xf0)
IsAllowedAfter NeedsThree three_back two_back one_back = 0xf0 ≤ one_back
IsAllowedAfter AfterE0 three_back two_back one_back = one_back ≡ 0xe0
IsAllowedAfter AfterED three_back two_back one_back = one_back ≡ 0xed
IsAllowedAfter AfterF0 three_back two_back one_back = one_back ≡ 0xf0
IsAllowedAfter AfterF4 three_back two_back one_back = one_back ≡ 0xf4
IsAllowedAfter AfterC2 three_back two_back one_back = (one_back ≡ 0xc2) × (two_back < 0xf0)
IsAllowedAfter Failed three_back two_back one_back = ⊥

-- How many of three bytes are those of a character that they leave open.
abbrev pub open_count : ℕ → ℕ → ℕ → ℕ
open_count three_back two_back one_back =
    if nat_le 0xc0 one_back then 1
    else if nat_le 0xe0 two_back then 2
    else if nat_le 0xf0 three_back then 3
    else 0

-- In a run a byte may follow these three.
pub record Follows (layout : Bool) (three_back two_back one_back byte : ℕ) : Type 0 where
  pub leads : (state : AutomatonState) → IsAllowedAfter state three_back two_back one_back
      → IsAllowedAfter (next_state state byte) two_back one_back byte
  pub above : layout ≡ false → 0x20 ≤ byte

-- The k-th byte of the window may be there.
abbrev pub FollowsAt : Bool → Window → ℕ → Type 0
FollowsAt layout window k =
    Follows layout (slice_index window.three_back k) (slice_index window.two_back k)
    (slice_index window.one_back k) (slice_index window.current k)

-- A byte of ASCII in a run that may have HT, LF and CR.
abbrev pub StaysBetweenCharacters : ℕ → Type 0
StaysBetweenCharacters b = (next_between_characters b ≡ BetweenCharacters) × (b < 0x80)
