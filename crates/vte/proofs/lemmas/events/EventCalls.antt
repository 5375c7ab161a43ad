-- From events to calls: what a performer makes of a handler and a timeout. All events together make the calls of their
-- rows, and set the timeout once per begin of an update; a run of text makes those of its characters.
use Rattle.std.proofs.lemmas.List.{nil_from_length}
use Rattle.std.proofs.lemmas.Str.{chars-append, chars-nil, chars_past_char, IsUtf8-drop, IsUtf8-take}
use Rattle.std.proofs.Math.Utf8.{encode}
use Rattle.std.specs.Bool.{if◌then◌else◌}
use Rattle.std.specs.Str.Iter.{chars_rest, chars_steps_back}
use Rattle.vte.proofs.Common.{add-zero, added, added-append, added-nothing, added_calls, after, ap, append-nil, append_assoc, arith, Bool, Call, calls, calls_after, calls_from, chars, drop-append_seam, Event, events, events_grow, first_number, get_or, get_or-append-add, Input, IsCharBoundary, IsUtf8, last_printed, last_printed_after, last_printed_from, length, length-append, List, map, nat_lt, nat_tests, None, Option, option_or, or-false, performer_with_event, PerformerValue, Print, refl, rules, Some, suc, suc-add, sym, take-append_seam, timeout_set_times, TimeoutMeaning, update_nanos, with_private_mode, with_private_modes, zero, zero-add, ℕ, [], ◌++◌, ◌+◌, ◌||◌, ◌∙◌, ◌∷◌, ◌≡◌, ◌≤◌}
use Rattle.vte_core.specs.Event.{after as performed}

-- ---- the calls of events that follow one another

-- Those of the whole are those of the parts joined, also of what more bytes add. By induction over the events, with the
-- last printed character carried along.

-- A handler that receives calls in two lists ends up as with both lists in one.
pub after_calls-append : {V : Type 0} (step : V → Call → V) (value : V) (front back : List Call)
    → after step value (front ++ back) ≡ after step (after step value front) back
after_calls-append step value [] back = refl
after_calls-append step value (call ∷ front) back = after_calls-append step (step value call) front back

pub ruleset appended = (after_calls-append)

calls-append : (last : Option ℕ) (front back : List Event)
    → calls_from last (front ++ back) ≡ calls_from last front ++ calls_from (last_printed_from last front) back
calls-append last [] back = refl
calls-append last (event ∷ front) back =
    rw (calls-append (last_printed_after last event) front back, append_assoc)

-- The last printed character carries over to the events that follow.
pub last_printed-append : (last : Option ℕ) (front back : List Event)
    → last_printed_from last (front ++ back) ≡ last_printed_from (last_printed_from last front) back
last_printed-append last [] back = refl
last_printed-append last (event ∷ front) back = last_printed-append (last_printed_after last event) front back

calls_after-append : (before later : List Event)
    → calls_after before (before ++ later) ≡ calls_from (last_printed before) later
calls_after-append before later = rw (calls-append None before later) (drop-append_seam (calls before) _)

-- Bytes add the calls of the events that they add, from the last printed character on.
pub added_calls-events : (limit : Option ℕ) (stream bytes : List ℕ)
    → added_calls limit stream bytes ≡ calls_from (last_printed (events limit stream)) (added limit stream bytes)
added_calls-events limit stream bytes =
    ap (calls_after (events limit stream)) (events_grow limit stream bytes)
    ∙ calls_after-append (events limit stream) (added limit stream bytes)

-- No bytes add no calls.
pub added_calls-nothing : (limit : Option ℕ) (stream : List ℕ) → added_calls limit stream [] ≡ []
added_calls-nothing limit stream = rw (added_calls-events limit stream [], added-nothing limit stream)

-- Bytes in two pieces add what each of them adds, so a call may parse slices.
pub added_calls-append : (limit : Option ℕ) (stream front bytes : List ℕ)
    → added_calls limit stream (front ++ bytes)
    ≡ added_calls limit stream front ++ added_calls limit (stream ++ front) bytes
added_calls-append limit stream front bytes =
    search (rules, arith, events_grow, last_printed-append, added_calls-events, added-append, calls-append)

-- The calls of a stream begin with those of its prefix.
pub calls_whole : (limit : Option ℕ) (stream bytes : List ℕ)
    → calls (events limit (stream ++ bytes)) ≡ calls (events limit stream) ++ added_calls limit stream bytes
calls_whole limit stream bytes =
    ap calls (events_grow limit stream bytes)
    ∙ rw (added_calls-events limit stream bytes) (calls-append None (events limit stream) (added limit stream bytes))

-- To set a timeout n + k times is to set it n times, then k times.
pub timeout_set_times-add : {W : Type 0} (meaning : TimeoutMeaning W) (value : W) (n k : ℕ)
    → timeout_set_times meaning (n + k) value ≡ timeout_set_times meaning k (timeout_set_times meaning n value)
timeout_set_times-add meaning value zero k = rw zero-add
timeout_set_times-add meaning value (suc n) k =
    rw suc-add (timeout_set_times-add meaning (meaning.set value update_nanos) n k)

terminated-more : (terminated begins : Bool) (n : ℕ)
    → ((terminated || begins) || nat_lt 0 n) ≡ (terminated || nat_lt 0 ((if begins then 1 else 0) + n))
terminated-more terminated begins n = grind (arith, nat_tests)

-- To set the first private mode and then the others is to set them all.
pub modes-more : {V W : Type 0} (step : V → Call → V) (timeout : TimeoutMeaning W) (performer : PerformerValue V W)
    (group : List ℕ) (groups : List (List ℕ))
    → with_private_modes step timeout (with_private_mode step timeout performer (first_number group)) groups
    ≡ with_private_modes step timeout performer (group ∷ groups)
modes-more step timeout performer group groups = search (rules, arith, terminated-more, timeout_set_times-add)

-- ---- a run of text

-- The calls of its characters, and its last character. By induction over the characters; the last one is found from
-- the end, because no character begins with a byte that continues one.

-- A run calls `input` for each character, and neither sets the timeout nor terminates.
pub performed_run : {V W : Type 0} (step : V → Call → V) (timeout : TimeoutMeaning W) (performer : PerformerValue V W)
    (characters : List ℕ)
    → performed (performer_with_event step timeout) performer (map Print characters)
    ≡ record performer {
      handler = after step performer.handler (map Input characters);
      last = last_printed_from performer.last (map Print characters);
    }
performed_run step timeout performer [] = refl
performed_run step timeout performer (c ∷ characters) =
    performed_run step timeout (performer_with_event step timeout performer (Print c)) characters ∙ rw or-false

-- A character at the end of a run is its last.
last_printed-added : (last : Option ℕ) (characters : List ℕ) (c : ℕ)
    → last_printed_from last (map Print (characters ++ c ∷ [])) ≡ Some c
last_printed-added last [] c = refl
last_printed-added last (other ∷ characters) c = last_printed-added (Some other) characters c

-- No character begins with a byte that continues one.
encode-lead : (c : ℕ) → 128 ≤ get_or (encode c) 0 0 → 192 ≤ get_or (encode c) 0 0
unfolding encode
encode-lead c = grind (arith, nat_tests)

boundary-seam : (prefix : List ℕ) (c : ℕ) → IsCharBoundary (prefix ++ encode c) (length prefix)
boundary-seam prefix c =
    let first = rw add-zero at (get_or-append-add prefix (encode c) 0 0) in
    (omega (arith, length-append prefix (encode c)), λ _ high. rw first (encode-lead c (rw first at high)))

-- The last character of a text comes off its end.
chars-last : (prefix : List ℕ) (c : ℕ) → IsUtf8 (prefix ++ encode c)
    → chars (prefix ++ encode c) ≡ chars prefix ++ c ∷ []
chars-last prefix c utf8 =
    let prefix_utf8 : IsUtf8 prefix =
    rw take-append_seam at (IsUtf8-take (prefix ++ encode c) (length prefix) utf8 (boundary-seam prefix c)) in
    let last_utf8 : IsUtf8 (encode c) =
    rw drop-append_seam at (IsUtf8-drop (prefix ++ encode c) (length prefix) utf8 (boundary-seam prefix c)) in
    chars-append prefix (encode c) prefix_utf8
    ∙ rw (chars_past_char (encode c) [] c last_utf8 (sym (append-nil (encode c))), chars-nil)

-- What comes off the end of a text is its last character, and nothing comes off an empty one.
pub last_of_text : (text : List ℕ) (iterator next : _) (taken last : Option ℕ) → IsUtf8 text
    → chars_rest iterator ≡ text
    → chars_steps_back iterator taken next
    → option_or taken last ≡ last_printed_from last (map Print (chars text))
last_of_text text iterator next taken last utf8 rest_is steps_back =
    search (rules, arith, nil_from_length, chars-nil, encode, chars-last, last_printed-added)
