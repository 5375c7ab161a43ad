-- Where a call may stop early, and what has been reported by then: at the first start where the
-- performer is terminated. Its answer changes with events alone, so if nothing was reported it
-- need not be asked again.
use Rattle.std.specs.Prelude.{Bool, drop, false, if◌then◌else◌, length, List, not, Option, take, true, ℕ, [], ◌&&◌, ◌++◌, ◌<◌, ◌∷◌, ◌≡◌, ◌≤◌, ◌⊎◌}
use Rattle.vte_core.specs.Event.{after, Event, Print, replacement}
use Rattle.vte_core.specs.RunText.{run_event}
use Rattle.vte_core.specs.Stream.{added, open_character}
use Rattle.vte_core.specs.Utf8.{is_truncated, is_well_formed}

-- The open bytes and the next one neither form a character nor begin one.
abbrev pub breaks : List ℕ → List ℕ → Bool
breaks [] unread = false
breaks (a ∷ bytes) [] = false
breaks (a ∷ bytes) (b ∷ unread) =
    not (is_truncated (a ∷ bytes ++ b ∷ [])) && not (is_well_formed (a ∷ bytes ++ b ∷ []))

-- After i bytes a character is open, and the next byte breaks it.
unfoldable pub breaks_at : List ℕ → List ℕ → ℕ → Bool
breaks_at stream bytes i = breaks (open_character (stream ++ take i bytes)) (drop i bytes)

-- A start is a position before one of the bytes where no character is open, or where that byte
-- breaks the open one.
pub record IsStart (stream bytes : List ℕ) (i : ℕ) : Type 0 where
  pub before_end : i < length bytes
  pub starts : (open_character (stream ++ take i bytes) ≡ []) ⊎ (breaks_at stream bytes i ≡ true)

-- The events reported before position i: those that the first i bytes add, and U+FFFD if the next
-- byte breaks a character.
unfoldable pub reported_before : Option ℕ → List ℕ → List ℕ → ℕ → List Event
reported_before limit stream bytes i =
    added limit stream (take i bytes)
    ++ (if breaks_at stream bytes i then Print replacement ∷ [] else [])

-- The stream from which the parser continues after a stop at n: the empty one if the next byte
-- breaks a character, because U+FFFD was reported for that character already.
unfoldable pub resumed_stream : List ℕ → List ℕ → ℕ → List ℕ
resumed_stream stream bytes n = if breaks_at stream bytes n then [] else stream ++ take n bytes

-- Of a call: what an event does to the performer's value and when that is terminated, the value
-- before the call, the limit of commands, the stream that was read, and the bytes of the call.
module _ {V : Type 0} (step : V → Event → V) (is_terminated : V → Bool) (old : V)
    (limit : Option ℕ) (stream bytes : List ℕ) where
  -- The performer was terminated at no start before i.
  abbrev pub NeverStopsBefore : ℕ → Type 0
  NeverStopsBefore i = (start : ℕ) → start < i → IsStart stream bytes start
      → is_terminated (after step old (reported_before limit stream bytes start)) ≡ false

  -- The performer has received the events of the first i bytes, and was terminated at no start
  -- before i.
  pub record HasPassedBytes (value : V) (i : ℕ) : Type 0 where
    pub performed : value ≡ after step old (added limit stream (take i bytes))
    pub earlier : NeverStopsBefore i

  -- The call came to position n: the performer received what is reported before it, and was
  -- terminated at no start before it.
  pub record ComesTo (new : V) (n : ℕ) : Type 0 where
    pub within : n ≤ length bytes
    pub performed : new ≡ after step old (reported_before limit stream bytes n)
    pub earlier : NeverStopsBefore n
    pub starts : n < length bytes → IsStart stream bytes n
    -- The bytes from there on in a further call leave the performer as one call with all bytes
    -- would.
    pub rest_completes : after step new (added limit (resumed_stream stream bytes n) (drop n bytes))
        ≡ after step old (added limit stream bytes)

  -- The call stopped at n: at the first start where the performer was terminated or, if there was
  -- none, after all bytes.
  pub record StopsExactly (new : V) (n : ℕ) : Type 0 where
    pub comes : ComesTo new n
    pub stops : n < length bytes → is_terminated new ≡ true
    -- What `comes` says of the end of the bytes, for callers that need no more.
    pub all : n ≡ length bytes → new ≡ after step old (added limit stream bytes)

-- No character of a run terminates a performer.
abbrev pub NoCharacterStops : {V : Type 0} → Bool → (V → Event → V) → (V → Bool) → Type 0
NoCharacterStops {V = V} layout step is_terminated =
    (value : V) (c : ℕ) → is_terminated value ≡ false
    → is_terminated (step value (run_event layout c)) ≡ false
