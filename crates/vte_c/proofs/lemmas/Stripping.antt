-- Calls of the parser write the text of what they read: a run is written as its characters are, and a chunk that is
-- short enough has room for its text.
use Rattle.event_log.proofs.lemmas.KeptTexts.{text_of-run}
use Rattle.vte_c.proofs.Common.{add-zero, add_assoc, added, after, ap, append-nil, append_assoc, arith, cases_Bool, chars, default_limit, encodes-chars, Event, false, flat_map-append, HasRead, inl, inr, IsUtf8, le-leb, length, length-append, List, map, max_piece_bytes, nat_le, nat_tests, Parser, plain_text, plain_text_of, refl, sym, take, text_with, text_with_event, true, WrittenText, ℕ, [], ◌&&◌, ◌*◌, ◌++◌, ◌+◌, ◌<◌, ◌∙◌, ◌∷◌, ◌≡◌, ◌≤◌}
use Rattle.vte_core.proofs.lemmas.streams.After.{added-nothing}
use Rattle.vte_core.proofs.lemmas.streams.EarlyStops.{added-append}
use Rattle.vte_core.specs.RunText.{run_event}

-- ---- texts that have room

-- The buffer after all of a text was written into it.
abbrev with_all : WrittenText → List ℕ → WrittenText
with_all buffer text = record buffer { text = buffer.text ++ text; used = buffer.used + length text }

with_all-append : (buffer : WrittenText) (front back : List ℕ)
    → with_all (with_all buffer front) back ≡ with_all buffer (front ++ back)
with_all-append buffer front back = rw (append_assoc buffer.text, add_assoc buffer.used, length-append front back) refl

events-written_in_full : (buffer : WrittenText) (events : List Event) → buffer.fits ≡ true
    → buffer.used + length (plain_text events) ≤ buffer.capacity
    → after text_with_event buffer events ≡ with_all buffer (plain_text events)
unfolding text_with
events-written_in_full buffer [] has_fitted fits = simp (append-nil, add-zero)
events-written_in_full buffer (event ∷ events) has_fitted fits =
    let all = length-append (plain_text_of event) (plain_text events) in
    let first : (buffer.fits && nat_le (buffer.used + length (plain_text_of event)) buffer.capacity) ≡ true =
    rw has_fitted (le-leb _ _ (omega arith)) in
    rw first
    (events-written_in_full (with_all buffer (plain_text_of event)) events has_fitted (omega arith)
    ∙ with_all-append buffer (plain_text_of event) (plain_text events))

-- ---- a run

text_with-append : (buffer : WrittenText) (front back : List ℕ)
    → text_with (text_with buffer front) back ≡ text_with buffer (front ++ back)
unfolding text_with
text_with-append buffer front back =
    elim (cases_Bool (buffer.fits && nat_le (buffer.used + length front) buffer.capacity)) [
      | inl has_room ↦ rw (has_room, append_assoc buffer.text, add_assoc buffer.used, length-append front back) refl
      | inr full ↦
          let both_full : (buffer.fits && nat_le (buffer.used + length (front ++ back)) buffer.capacity) ≡ false =
          grind (arith, nat_tests, length-append) in
          rw (full, both_full) refl
    ]

events-written_as_text : (buffer : WrittenText) (event : Event) (events : List Event)
    → after text_with_event buffer (event ∷ events) ≡ text_with buffer (plain_text (event ∷ events))
events-written_as_text buffer event [] = rw (append-nil (plain_text_of event)) refl
events-written_as_text buffer event (next ∷ events) =
    events-written_as_text (text_with_event buffer event) next events
    ∙ text_with-append buffer (plain_text_of event) (plain_text (next ∷ events))

-- A run is written as its characters are, one after another.
pub run-written : (buffer : WrittenText) (text : List ℕ) → IsUtf8 text → 0 < length text
    → text_with buffer text ≡ after text_with_event buffer (map (run_event true) (chars text))
run-written buffer text utf8 not_empty =
    let spelt : plain_text (map (run_event true) (chars text)) ≡ text =
    text_of-run (chars text) ∙ encodes-chars text utf8 in
    rw spelt at (written (chars text) (rw spelt not_empty))
  where
    written : (cs : List ℕ) → 0 < length (plain_text (map (run_event true) cs))
        → text_with buffer (plain_text (map (run_event true) cs))
        ≡ after text_with_event buffer (map (run_event true) cs)
    written [] not_empty = absurd (omega arith)
    written (c ∷ cs) not_empty = sym (events-written_as_text buffer (run_event true c) (map (run_event true) cs))

-- ---- chunks

-- The first n bytes were read, and the buffer has all of their text.
pub record HasTextOf (old new : WrittenText) (stream bytes : List ℕ) (n : ℕ) (parser : Parser max_piece_bytes)
    : Type 0 where
  pub parsed : HasRead parser (stream ++ take n bytes)
  pub holds : new ≡ with_all old (plain_text (added default_limit stream (take n bytes)))

-- The buffer has the text that it had until a byte is read.
pub has_text-nothing : {stream : List ℕ} {parser : Parser max_piece_bytes} (buffer : WrittenText) (bytes : List ℕ)
    → HasRead parser stream
    → HasTextOf buffer buffer stream bytes 0 parser
has_text-nothing {stream} buffer bytes parsed =
    record {
      parsed = rw (append-nil stream) parsed;
      holds = rw (added-nothing default_limit stream) (simp (append-nil, add-zero));
    }

-- A chunk for whose text there is room adds this text.
pub has_text-more : {old new later : WrittenText} {stream bytes : List ℕ} {n : ℕ}
    {parser parser_later : Parser max_piece_bytes}
    (chunk : List ℕ) → old.fits ≡ true
    → length (plain_text (added default_limit (stream ++ take n bytes) chunk)) ≤ 8 * length chunk
    → HasTextOf old new stream bytes n parser
    → take (n + length chunk) bytes ≡ take n bytes ++ chunk → new.used + 8 * length chunk ≤ new.capacity
    → later ≡ after text_with_event new (added default_limit (stream ++ take n bytes) chunk)
    → HasRead parser_later ((stream ++ take n bytes) ++ chunk)
    → HasTextOf old later stream bytes (n + length chunk) parser_later
has_text-more {old} {new} {stream} {bytes} {n} chunk has_fitted slow has_text parts fits performed parsed =
    let before = added default_limit stream (take n bytes) in
    let more = added default_limit (stream ++ take n bytes) chunk in
    record {
      parsed = rw (parts, ← append_assoc) parsed;
      holds =
          rw (parts, added-append default_limit stream (take n bytes) chunk, flat_map-append plain_text_of before more)
          (performed
          ∙ events-written_in_full new more (ap (λ (written : WrittenText). written.fits) has_text.holds ∙ has_fitted)
          (omega (arith, fits, slow))
          ∙ ap (λ (written : WrittenText). with_all written (plain_text more)) has_text.holds
          ∙ with_all-append old (plain_text before) (plain_text more));
    }
