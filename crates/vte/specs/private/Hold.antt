-- The bytes of a hold.
use Rattle.std.specs.Prelude.{drop, eqb, false, length, List, None, Option, slice_index, Some, take, ℕ, ◌&&◌, ◌++◌, ◌+◌, ◌-◌, ◌<◌, ◌≡◌, ◌≤◌}
use Rattle.vte.specs.declared.ansi.updates.hold.SyncState.{SyncState}
use Rattle.vte.specs.declared.ansi.updates.release.Release.{Release}
use Rattle.vte.specs.ProcessorFacts.{held_of}
use Rattle.vte.specs.Synchronized.{after_last_end, begin_update, begins_ending_in_last, end_update, from_begin_update, is_prefix_of, part_after_last_end}

-- The bytes before the held ones, which the last turn released.
abbrev pub released_of : {A : Type 0} → SyncState A → List ℕ
released_of hold = take hold.released hold.bytes.items

-- What stays held: all bytes or, if there is an end-update, those after the last one, from the
-- earliest begin-update on.
abbrev pub kept_part : List ℕ → Option (List ℕ) → List ℕ
kept_part bytes (Some rest) = from_begin_update rest
kept_part bytes None = bytes

-- What stays held of all bytes of a hold.
abbrev pub still_held : List ℕ → List ℕ
still_held bytes = kept_part bytes (after_last_end bytes)

-- The end of a hold, from `start` on, to whose bytes others were added: these, and at most seven
-- before them.
pub record IsHeldTail (held more bytes : List ℕ) (start : ℕ) : Type 0 where
  pub start_is : start ≡ length held - 7
  pub bytes_is : bytes ≡ drop start (held ++ more)

-- The result of adding the last `new` of these bytes to the others.
pub record FindsRelease (bytes : List ℕ) (new : ℕ) (release : Release) : Type 0 where
  pub begin_count : release.begin_count ≡ begins_ending_in_last new (part_after_last_end bytes)
  pub released : release.released ≡ length bytes - length (still_held bytes)

-- Bytes were added to those that were held.
pub record AddsToHold {A : Type 0} (held more : List ℕ) (hold : SyncState A)
    (begin_count : ℕ) : Type 0 where
  pub held_is : held_of hold ≡ still_held (held ++ more)
  pub released_is : released_of hold
      ≡ take (length (held ++ more) - length (still_held (held ++ more))) (held ++ more)
  pub begin_count_is : begin_count
      ≡ begins_ending_in_last (length more) (part_after_last_end (held ++ more))

-- Neither an update begins nor one ends with the sequence at this position.
pub record HasNoSequenceAt (bytes : List ℕ) (position : ℕ) : Type 0 where
  pub no_begin : is_prefix_of begin_update (drop position bytes) ≡ false
  pub no_end : is_prefix_of end_update (drop position bytes) ≡ false

-- Neither an update begins nor one ends at a position from one on, before another.
abbrev pub HasNoSequenceBetween : List ℕ → ℕ → ℕ → Type 0
HasNoSequenceBetween bytes from before = (k : ℕ) → from ≤ k → k < before → HasNoSequenceAt bytes k

-- None of the first bytes of a block is an ESC that a `?` follows after one byte, as in what begins
-- and what ends an update.
abbrev pub HasNoPrivateSequence : List ℕ → ℕ → Type 0
HasNoPrivateSequence block count = (k : ℕ) → k < count
    → (eqb (slice_index block k) 0x1b && eqb (slice_index block (k + 2)) 0x3f) ≡ false
