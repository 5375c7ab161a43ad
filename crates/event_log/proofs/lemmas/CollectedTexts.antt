-- What a collector holds after texts, and from call to call. It holds the texts of all events if there is room at each
-- start: from one start to the next (`passed-at`).
use Rattle.event_log.proofs.Common.{added, AddsUpTo, after, ap, append-nil, append_assoc, AreBrief, arith, BeginsLine, Bool, capacity, cases_Bool, collected_text_of, CollectedText, default_limit, EndsLine, Event, ExtendsLine, false, flat_map, flat_map-append, has_room_after, HasKept, HasRead, HasReadStream, inl, inr, is_to_be_written, IsStart, le-leb, length, length-append, List, LogBuffer, nat_tests, Parser, refl, reported_before, ReportsUnits, sym, take-append_seam, with_event, with_text, ℕ, [], ◌++◌, ◌+◌, ◌<◌, ◌∙◌, ◌∷◌, ◌≡◌, ◌≤◌}
use Rattle.vte_core.proofs.lemmas.streams.After.{after_events-append}
use Rattle.vte_core.proofs.lemmas.streams.EarlyStops.{passed-at}

-- ---- one text

-- What is collected has bytes, and a flag that says whether a text was lost.
abbrev pub collected_bytes : List ℕ → Bool → CollectedText
collected_bytes bytes lost = record { bytes = bytes; lost = lost }

collected_bytes-same : {bytes next_bytes : List ℕ} {lost next_lost : Bool} → bytes ≡ next_bytes → lost ≡ next_lost
    → collected_bytes bytes lost ≡ collected_bytes next_bytes next_lost
collected_bytes-same same_bytes same_lost = cc

-- A text is taken if there is room for it.
text-taken : (collected : CollectedText) (text : List ℕ) → length collected.bytes + length text ≤ capacity
    → with_text collected text ≡ collected_bytes (collected.bytes ++ text) collected.lost
unfolding with_text
text-taken collected text fits = rw (le-leb _ _ fits) refl

-- A line that begins, is written and ends is taken if there is room for it.
pub line-taken : {old begun written ended : LogBuffer} {line : List ℕ} → BeginsLine old begun
    → ExtendsLine begun line written → EndsLine written ended
    → collected_text_of ended ≡ with_text (collected_text_of old) line
unfolding with_text
line-taken {old} {begun} {written} {ended} {line} begins extends ends =
    let fitting : written.fits ≡ has_room_after old.bytes.items line =
    rw (extends.fits, begins.fits, begins.bytes) refl in
    elim (cases_Bool written.fits) [
      | inl fits ↦
          let bytes = rw fits at ends.bytes in
          let lost = rw fits at ends.lost in
          let appended = extends.appended fits in
          rw (sym fitting ∙ fits) cc
      | inr too_long ↦
          let bytes =
          rw (too_long, extends.start, begins.start, extends.kept.1, begins.bytes, take-append_seam) at ends.bytes in
          rw (sym fitting ∙ too_long) (collected_bytes-same bytes (rw too_long at ends.lost))
    ]

-- ---- the texts of events

-- If all texts have room, they are all taken.
pub texts-taken : (text_of : Event → List ℕ) (bytes : List ℕ) (lost : Bool) (events : List Event)
    → length bytes + length (flat_map text_of events) ≤ capacity
    → after (with_event text_of) (collected_bytes bytes lost) events
    ≡ collected_bytes (bytes ++ flat_map text_of events) lost
texts-taken text_of bytes lost [] fits = collected_bytes-same (sym (append-nil bytes)) refl
texts-taken text_of bytes lost (event ∷ later) fits =
    let text = text_of event in
    let sizes = length-append text (flat_map text_of later) in
    ap (λ (collected : CollectedText). after (with_event text_of) collected later)
    (text-taken (collected_bytes bytes lost) text (omega (arith, sizes)))
    ∙ texts-taken text_of (bytes ++ text) lost later (omega (arith, sizes, length-append bytes text))
    ∙ collected_bytes-same (append_assoc bytes text (flat_map text_of later)) refl

-- A text is taken as the texts of events are, one after another, if there is room for it.
pub text-taken_as_events : (text_of : Event → List ℕ) (collected : CollectedText) (text : List ℕ) (events : List Event)
    → text ≡ flat_map text_of events
    → length collected.bytes + length text ≤ capacity
    → with_text collected text ≡ after (with_event text_of) collected events
text-taken_as_events text_of collected text events spelt fits =
    text-taken collected text (omega arith)
    ∙ collected_bytes-same (ap (λ (text : List ℕ). collected.bytes ++ text) spelt) refl
    ∙ sym (texts-taken text_of collected.bytes collected.lost events (rw (← spelt) fits))

-- ---- a collector that has room at each start

-- No line has more bytes (`length-line`). That of a command has at most 2,093: `osc`, 6 bytes of the flag, 3 of the
-- count, 2 for each of 16 pieces and for each of their 1,024 bytes, and LF. This is rounded up.
abbrev pub max_of_line : ℕ
max_of_line = 2200

-- The line of a character: `print `, at most six digits and LF.
abbrev pub max_of_character_line : ℕ
max_of_character_line = 13

-- The texts of what is reported from one start to the next have at most the bytes of a line and of a character's line.
abbrev max_of_unit : ℕ
max_of_unit = max_of_line + max_of_character_line

-- This holds of lines, and it is all that a collector needs to know of its texts.
abbrev pub UnitsFit : (Event → List ℕ) → Type 0
UnitsFit text_of = (events : List Event) → AreBrief default_limit events
    → length (flat_map text_of events) ≤ max_of_unit

-- There is room for what is reported up to the next start. That takes 2,213 bytes, and half of the capacity is 4,096.
abbrev HasRoomForUnit : CollectedText → Type 0
HasRoomForUnit collected = length collected.bytes + max_of_unit ≤ capacity

-- A collector is to be written once it is more than half full, so before that a unit fits.
pub room-for_unit : (collected : CollectedText) → is_to_be_written collected ≡ false → HasRoomForUnit collected
room-for_unit collected not_to_be_written = grind (arith, nat_tests)

module _ (text_of : Event → List ℕ) (small : UnitsFit text_of) (units : ReportsUnits default_limit)
    (stream bytes : List ℕ)
    (old : CollectedText) (nothing_lost : old.lost ≡ false)
    (room : HasRoomForUnit old) where
  -- Of these events the whole text is collected, and none is lost.
  abbrev Takes : List Event → Type 0
  Takes events =
      after (with_event text_of) old events ≡ collected_bytes (old.bytes ++ flat_map text_of events) false

  unit-taken : (events unit : List Event) → Takes events → HasRoomForUnit (after (with_event text_of) old events)
      → AreBrief default_limit unit
      → Takes (events ++ unit)
  unit-taken events unit taken has_room_after brief =
      after_events-append (with_event text_of) old events unit
      ∙ ap (λ (collected : CollectedText). after (with_event text_of) collected unit) taken
      ∙ texts-taken text_of (old.bytes ++ flat_map text_of events) false unit
      (omega (arith, small unit brief, ap (λ (collected : CollectedText). length collected.bytes) taken))
      ∙ collected_bytes-same (simp (append_assoc, flat_map-append)) refl

  -- If there was room at each start before a position, all texts were taken.
  pub reported-taken : (i : ℕ) → i ≤ length bytes
      → ((j : ℕ) → j < i → IsStart stream bytes j
      → HasRoomForUnit (after (with_event text_of) old (reported_before default_limit stream bytes j)))
      → after (with_event text_of) old (reported_before default_limit stream bytes i)
      ≡ collected_bytes (old.bytes ++ flat_map text_of (reported_before default_limit stream bytes i)) false
  reported-taken =
      passed-at Takes (λ events. HasRoomForUnit (after (with_event text_of) old events)) stream bytes units
      (collected_bytes-same (sym (append-nil old.bytes)) nothing_lost) room unit-taken

-- ---- what a collector holds

-- From call to call, what is collected and the text of what is unread add up to the total text: the events that a call
-- reported are taken, and the parser goes on from another stream.

-- Before a call nothing is collected, and the total is the text of what the unread bytes and more add.
pub adds_up-at_first : {text_of : Event → List ℕ} {parser : Parser 1024} (has_read : HasReadStream parser)
    (unread : List ℕ)
    → AddsUpTo text_of (λ more. flat_map text_of (added default_limit has_read.already_read
    (unread ++ more))) [] parser unread
adds_up-at_first has_read unread = record {
  already_read = has_read.already_read;
  parsed = has_read.parsed;
  total_is = λ more. refl;
}

-- A call reported events, whose texts were all taken, and the parser goes on from another stream.
pub kept-by_call : {text_of : Event → List ℕ} {total_text : List ℕ → List ℕ} {unread next_unread : List ℕ}
    {parser next_parser : Parser 1024} {collected next_collected : CollectedText}
    (events : List Event) (already_read : List ℕ) → (has_kept : HasKept text_of total_text collected parser unread)
    → ((more : List ℕ)
    → added default_limit has_kept.adds_up.already_read (unread ++ more)
    ≡ events ++ added default_limit already_read (next_unread ++ more))
    → HasRead next_parser already_read
    → next_collected ≡ collected_bytes (collected.bytes ++ flat_map text_of events) false
    → HasKept text_of total_text next_collected next_parser next_unread
kept-by_call {text_of} {next_unread} {collected} events already_read has_kept added_parts parsed holds = record {
  adds_up = record {
    already_read = already_read;
    parsed = parsed;
    total_is = λ more.
        let later = flat_map text_of (added default_limit already_read (next_unread ++ more)) in
        ap (λ (collected : CollectedText). collected.bytes ++ later) holds
        ∙ append_assoc collected.bytes (flat_map text_of events) later
        ∙ ap (λ (text : List ℕ). collected.bytes ++ text)
        (sym (flat_map-append text_of events _) ∙ ap (flat_map text_of) (sym (added_parts more)))
        ∙ has_kept.adds_up.total_is more;
  };
  nothing_lost = ap (λ (collected : CollectedText). collected.lost) holds;
}
