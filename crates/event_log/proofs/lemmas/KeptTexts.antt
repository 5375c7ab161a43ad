-- No text is lost. A recorder is asked at each start, and the lines up to the next one fit (`lines-kept`). The text of
-- a chunk fits whatever its bytes are (`text-kept`), and a run of it is taken at once (`run-taken`).
use Rattle.std.proofs.Math.Utf8.{encodes}
use Rattle.std.specs.Char.{encode_utf8}
use Rattle.event_log.proofs.Common.{added, AddsUpTo, after, ap, append_assoc, arith, Bool, breaks_at, capacity, chars, CollectedText, default_limit, drop, empty_text, encode_ascii, encodes-chars, Event, false, flat_map, GoesOnFromPositions, HasKept, HasRead, hex_character, hex_digit, hex_digits, hex_length, if◌then◌else◌, is_layout, is_to_be_written, IsUtf8, length, line_of, List, map, Parser, plain_text_of, Print, refl, replacement, reported_before, ReportsUnits, resumed_stream, run_event, StopsExactly, suc, sym, true, with_event, with_text, zero, ℕ, [], ◌*◌, ◌++◌, ◌+◌, ◌<◌, ◌∙◌, ◌∷◌, ◌≡◌, ◌≤◌}
use Rattle.event_log.proofs.lemmas.CollectedTexts.{collected_bytes, kept-by_call, reported-taken, room-for_unit, text-taken_as_events, texts-taken}
use Rattle.event_log.proofs.lemmas.Lengths.{BytesAreBrief, line_units_fit, text_grows_slowly}
use Rattle.vte_core.proofs.lemmas.bytes.Runs.{layout-is_ascii}
use Rattle.vte_core.proofs.lemmas.streams.After.{added-nothing}
use Rattle.vte_core.proofs.lemmas.streams.EarlyStops.{added-append}

-- ---- a recorder that is asked at each start loses no line

-- Unless it is terminated, at most half of its capacity is in use, and the lines up to the next start fit into the
-- rest.

-- Before the first byte at most a replacement character is reported, and its line is short.
not_to_be_written-at_first : (broken : Bool)
    → is_to_be_written (after (with_event line_of) empty_text (if broken then Print replacement ∷ [] else [])) ≡ false
unfolding line_of hex_character hex_length hex_digits hex_digit with_text
not_to_be_written-at_first true = refl
not_to_be_written-at_first false = refl

-- A call reads a byte: an empty recorder doesn't stop it at once.
pub call-reads_some : {old new : CollectedText} {stream bytes : List ℕ} {n : ℕ} → old ≡ empty_text
    → StopsExactly (with_event line_of) is_to_be_written old default_limit stream bytes new n → 0 < length bytes
    → 0 < n
unfolding reported_before
call-reads_some {stream} {bytes} {n = zero} empty stops_exactly not_empty =
    let performed = rw (added-nothing, empty) at stops_exactly.comes.performed in
    let not_stopped = not_to_be_written-at_first (breaks_at stream bytes 0) in
    absurd (cc (stops_exactly.stops not_empty))
call-reads_some {n = suc n} empty stops_exactly not_empty = omega arith

-- At a start where the recorder isn't terminated, at most half of the capacity is in use.
pub lines-kept : {total_text : List ℕ → List ℕ} {n : ℕ} {parser next_parser : Parser 1024} {old new : CollectedText}
    (unread : List ℕ)
    → GoesOnFromPositions default_limit → ReportsUnits default_limit → old ≡ empty_text
    → (before : AddsUpTo line_of total_text [] parser unread)
    → StopsExactly (with_event line_of) is_to_be_written old default_limit before.already_read unread new n
    → HasRead next_parser (resumed_stream before.already_read unread n)
    → HasKept line_of total_text new next_parser (drop n unread)
lines-kept {total_text} {n} {parser} {old} unread goes_on units empty before stops_exactly parsed =
    let already_read = before.already_read in
    let has_kept : HasKept line_of total_text old parser unread = record {
      adds_up = record {
        already_read = already_read;
        parsed = before.parsed;
        total_is =
            λ more. rw empty (before.total_is more);
      };
      nothing_lost = ap (λ (collected : CollectedText). collected.lost) empty;
    } in
    kept-by_call (reported_before default_limit already_read unread n) (resumed_stream already_read unread n) has_kept
    (λ more. goes_on already_read unread more n)
    parsed
    (stops_exactly.comes.performed
    ∙ reported-taken line_of line_units_fit units already_read unread old has_kept.nothing_lost
    (room-for_unit old (ap is_to_be_written empty)) n stops_exactly.comes.within
    (λ j earlier start.
    room-for_unit (after (with_event line_of) old (reported_before default_limit already_read unread j))
    (stops_exactly.comes.earlier j earlier start)))

-- ---- the text of a run is its bytes

-- So a run is taken as its characters are, one after another. A chunk is so short that all of its text fits.

-- A character of a run adds its bytes, whether it is printed or executed.
pub text_of-character : (c : ℕ) → plain_text_of (run_event true c) ≡ encode_utf8 c
unfolding plain_text_of
text_of-character c = by_layout (is_layout c) refl
  where
    by_layout : (layout : Bool) → is_layout c ≡ layout → plain_text_of (run_event true c) ≡ encode_utf8 c
    by_layout true decided = rw (decided, decided) (sym (encode_ascii c (layout-is_ascii c decided)))
    by_layout false decided = rw decided refl

-- All characters of a run add its bytes.
pub text_of-run : (cs : List ℕ) → flat_map plain_text_of (map (run_event true) cs) ≡ encodes cs
text_of-run [] = refl
text_of-run (c ∷ cs) =
    ap (λ (text : List ℕ). text ++ flat_map plain_text_of (map (run_event true) cs)) (text_of-character c)
    ∙ ap (λ (text : List ℕ). encode_utf8 c ++ text) (text_of-run cs)

-- One more character of a run takes one more step.
pub after-more : {V : Type 0} (step : V → Event → V) (event_of : ℕ → Event) (cs : List ℕ) (c : ℕ) (old new : V)
    → new ≡ after step old (map event_of cs) → step new (event_of c) ≡ after step old (map event_of (cs ++ c ∷ []))
after-more step event_of [] c old new performed = ap (λ v. step v (event_of c)) performed
after-more step event_of (first ∷ cs) c old new performed =
    after-more step event_of cs c (step old (event_of first)) new performed

-- If a run has room, it is taken as its characters are, one after another.
pub run-taken : (collected : CollectedText) (text : List ℕ) → IsUtf8 text
    → length collected.bytes + length text ≤ capacity
    → with_text collected text ≡ after (with_event plain_text_of) collected (map (run_event true) (chars text))
run-taken collected text utf8 fits =
    text-taken_as_events plain_text_of collected text (map (run_event true) (chars text))
    (sym (text_of-run (chars text) ∙ encodes-chars text utf8)) fits

-- If all bytes of a chunk were read, its text is taken.
pub text-kept : {total_text : List ℕ → List ℕ} {unread : List ℕ} {parser next_parser : Parser 1024}
    {collected next_collected : CollectedText} (chunk rest : List ℕ)
    → BytesAreBrief → (has_kept : HasKept plain_text_of total_text collected parser unread) → chunk ++ rest ≡ unread
    → length collected.bytes + 8 * length chunk ≤ capacity
    → next_collected
    ≡ after (with_event plain_text_of) collected (added default_limit has_kept.adds_up.already_read chunk)
    → HasRead next_parser (has_kept.adds_up.already_read ++ chunk)
    → HasKept plain_text_of total_text next_collected next_parser rest
text-kept {collected} chunk rest brief has_kept parts fits performed parsed =
    let already_read = has_kept.adds_up.already_read in
    let reported = added default_limit already_read chunk in
    let taken =
    texts-taken plain_text_of collected.bytes collected.lost reported
    (omega (arith, fits, text_grows_slowly brief already_read chunk)) in
    kept-by_call reported (already_read ++ chunk) has_kept
    (λ more. rw (← parts, append_assoc chunk rest more) (added-append default_limit already_read chunk (rest ++ more)))
    parsed
    (performed ∙ taken
    ∙ ap (collected_bytes (collected.bytes ++ flat_map plain_text_of reported)) has_kept.nothing_lost)
