-- Parts of a stream that can be read side by side: an ESC is the end of one and the start of the
-- next.
use Rattle.std.specs.List.{flat_map, position_or_len, slice_range}
use Rattle.std.specs.Prelude.{drop, length, List, max, min, Option, slice_index, suc, take, zero, ℕ, [], ⊤, ◌++◌, ◌+◌, ◌-◌, ◌<◌, ◌==◌, ◌∷◌, ◌≡◌, ◌≤◌}
use Rattle.vte_core.specs.Outcome.{events_before_escape}
use Rattle.vte_core.specs.Stream.{escape, events, outcome}

-- An ESC is at each of these positions. They are in order, from `start` on.
abbrev pub AreCuts : List ℕ → ℕ → List ℕ → Type 0
AreCuts stream start [] = ⊤
AreCuts stream start (cut ∷ cuts) =
    (start ≤ cut) × (cut < length stream) × (slice_index stream cut ≡ escape)
    × AreCuts stream cut cuts

-- The parts of the stream from `start` on. Each but the last has the ESC at its end that starts the
-- next.
abbrev pub parts_from : ℕ → List ℕ → List ℕ → List (List ℕ)
parts_from start [] stream = drop start stream ∷ []
parts_from start (cut ∷ cuts) stream =
    slice_range stream start (cut + 1) ∷ parts_from cut cuts stream

-- The parts of a stream that is cut at these positions, each of an ESC.
abbrev pub parts_at : List ℕ → List ℕ → List (List ℕ)
parts_at cuts stream = parts_from 0 cuts stream

-- Read one after another, each as a stream of its own, the parts give the events of the stream.
abbrev pub GiveEvents : Option ℕ → List (List ℕ) → List ℕ → Type 0
GiveEvents limit parts stream = flat_map (events limit) parts ≡ events limit stream

-- An ESC at the end closes what is open, and makes nothing else.
abbrev pub EndsWithEscape : Option ℕ → List ℕ → Type 0
EndsWithEscape limit part =
    events limit (part ++ escape ∷ []) ≡ events_before_escape (outcome limit part)

-- The position of the first ESC from `from` on, or the length if there is none.
abbrev pub next_escape : ℕ → List ℕ → ℕ
next_escape from stream =
    let start = min from (length stream) in
    start + position_or_len (λ b. b == escape) (drop start stream)

-- The parts after the first `skip` bytes. A part ends with the ESC at `cut`. Only the bytes before
-- this ESC are skipped then, so that the next part starts with it.
abbrev pub parts_after : ℕ → ℕ → List ℕ → List (List ℕ)
parts_after size skip [] = []
parts_after size (suc skip) (b ∷ stream) = parts_after size skip stream
parts_after size zero (b ∷ stream) =
    let cut = next_escape size (b ∷ stream) in
    take (cut + 1) (b ∷ stream) ∷ parts_after size (cut - 1) stream

-- Each part but the last has more than `size` bytes, and ends with the first ESC after these. The
-- empty stream has no parts.
abbrev pub parts_of : ℕ → List ℕ → List (List ℕ)
parts_of size stream = parts_after (max size 1) 0 stream
