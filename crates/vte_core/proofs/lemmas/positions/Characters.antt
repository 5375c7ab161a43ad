-- A call inside a character, over any number of its bytes: it reports nothing while the character goes on (`GoesOn`),
-- and then completes it (`completes-all`, `completes-well_formed`, `completes-malformed`), a byte at a time.
use Rattle.std.proofs.lemmas.List.{drop-drop}
use Rattle.vte_core.proofs.Common.{added, All-cons, All-nil, ap, append-nil, append_assoc, arith, bytes_of, character_event, ChunkCall, drop, drop_more, Empty, Event, Extends, from_to, HasReadWithLimit, inl, inr, InText, is_in, is_truncated, is_well_formed, IsAtPlace, IsAtPosition, IsInsidePosition, IsOutsideRuns, IsPlaceOfState, length, List, Machine, may_continue, One, open_character, OpenCharacter, Option, Place, Print, ProgressInside, refl, replacement, rules, scalar_of, second_range, slice_index, subst, sym, take, take-add, Text, Three, true, Two, ℕ, [], ◌++◌, ◌+◌, ◌<◌, ◌∙◌, ◌∷◌, ◌≡◌, ◌≢◌, ◌≤◌}
use Rattle.vte_core.proofs.lemmas.bytes.Scalars.{second-open, third-open}
use Rattle.vte_core.proofs.lemmas.fields.PlaceOfState.{is_at-by, is_at-in, is_at-place, may_continue-truncated}
use Rattle.vte_core.proofs.lemmas.places.BytesInStream.{bytes_lead-byte}
use Rattle.vte_core.proofs.lemmas.places.PlaceLeads.{text-open, text-well_formed}
use Rattle.vte_core.proofs.lemmas.positions.AddedEvents.{added-inside, keeping, recorded-inside, reported-at}
use Rattle.vte_core.proofs.lemmas.positions.CallEnds.{inside-all, inside-moved}
use Rattle.vte_core.proofs.lemmas.positions.Progress.{progress-broken, progress-extended, progress-settled}
use Rattle.vte_core.proofs.lemmas.shapes.BrokenCharacters.{breaks-broken, breaks-open, breaks-well_formed}
use Rattle.vte_core.proofs.lemmas.streams.After.{after-open_character, extending_is_no_escape}
use Rattle.vte_core.proofs.lemmas.streams.StreamSteps.{length-longer}
use Rattle.vte_core.specs.declared.utf8.Extension.TheVariants.{Malformed, Truncated, WellFormed}
use Rattle.vte_core.specs.private.Progress.{Completes}

-- ---- a byte

-- The character goes on with a byte, is whole, or is broken before it (`extended-truncated`, `extended-well_formed`,
-- `extended-malformed`).
-- The place is a text with these bytes open, so `places/PlaceLeads` and `shapes` say what the byte reports.

is_at-in_text : {B : Type 0} {limit : Option ℕ} {parser : Machine B} {longer : OpenCharacter} {opened : List ℕ}
    → parser.state ≡ Text longer → bytes_of longer ≡ opened
    → may_continue opened ≡ true → IsAtPlace limit parser (InText opened)
is_at-in_text in_state same continues = is_at-by in_state (same, continues)

-- The parser, inside a character of these bytes.
abbrev pub in_text : {B : Type 0} → Machine B → OpenCharacter → Machine B
in_text parser opened = record { state = Text opened; collected = parser.collected; command = parser.command }

-- The place is in a text, inside a character of these bytes if there are any.
record AtText (opened : OpenCharacter) (place : Place) : Type 0 where
  same : place ≡ InText (bytes_of opened)
  continues : may_continue (bytes_of opened) ≡ true

at_text-by_fields : {B : Type 0} (limit : Option ℕ) (parser : Machine B) {opened : OpenCharacter} {place : Place}
    → IsPlaceOfState limit (Text opened) parser place → AtText opened place
at_text-by_fields limit parser fields = search (rules, arith)

-- An open character isn't empty.
pub opened-some : (first : ℕ) (rest : List ℕ) → first ∷ rest ≢ []
opened-some first rest empty = cc

truncated-some : (opened : List ℕ) → is_truncated opened ≡ true → opened ≢ []
unfolding is_truncated
truncated-some [] truncated empty = cc
truncated-some (b ∷ opened) truncated empty = cc

module _ {V B : Type 0} {call : ChunkCall V} {old mid : V} {stream : List ℕ} where
  inside-open : {i : ℕ} {opened : OpenCharacter} {parser : Machine B} → parser.state ≡ Text opened
      → IsInsidePosition call old mid stream i parser → may_continue (bytes_of opened) ≡ true
  inside-open {opened} {parser} in_state inside =
      (at_text-by_fields call.limit parser (is_at-in in_state inside.is_at)).continues

  -- A byte that continues a character leads to the next position inside it.
  extended-truncated : {i b : ℕ} {opened longer : OpenCharacter} {parser next : Machine B}
      → parser.state ≡ Text opened
      → is_truncated (bytes_of opened) ≡ true → Extends (bytes_of opened) b (Truncated longer)
      → next.state ≡ Text longer
      → IsInsidePosition call old mid stream i parser → i < length call.bytes → b ≡ slice_index call.bytes i
      → IsInsidePosition call old mid stream (i + 1) next
  extended-truncated {i} {b} {opened} {longer} {parser} {next} in_state truncated extends state inside before_end
      byte_is =
      let at_text = at_text-by_fields call.limit parser (is_at-in in_state inside.is_at) in
      let truncated_after : is_truncated (bytes_of opened ++ b ∷ []) ≡ true =
      subst (λ bytes. is_truncated bytes ≡ true) extends.0 extends.1 in
      record {
        place = InText (bytes_of opened ++ b ∷ []);
        is_at =
            is_at-in_text state extends.0
            (may_continue-truncated (bytes_of opened ++ b ∷ []) truncated_after);
        progress =
            progress-extended {reported = []} at_text.continues before_end byte_is
            (truncated-some (bytes_of opened) truncated)
            (breaks-open (bytes_of opened) b truncated_after)
            (bytes_lead-byte
            (extending_is_no_escape (bytes_of opened) b truncated (inr truncated_after))
            text-open) refl (may_continue-truncated (bytes_of opened ++ b ∷ []) truncated_after)
            (subst (ProgressInside call old mid stream i) at_text.same inside.progress);
      }

  -- A byte that ends a character leads to the position after it.
  extended-well_formed : {new : V} {i j b scalar : ℕ} {opened : OpenCharacter} {parser next : Machine B}
      → parser.state ≡ Text opened
      → is_truncated (bytes_of opened) ≡ true → Extends (bytes_of opened) b (WellFormed scalar)
      → next.state ≡ Text Empty
      → new ≡ call.step mid (character_event scalar) → IsInsidePosition call old mid stream i parser
      → i < length call.bytes
      → b ≡ slice_index call.bytes i → j ≡ i + 1 → IsAtPosition call old new stream j next
  extended-well_formed {new} {i} {b} {opened} {parser}
      {next} in_state truncated extends state performed inside before_end byte_is later =
      let at_text = at_text-by_fields call.limit parser (is_at-in in_state inside.is_at) in
      let come =
      progress-extended {new = new} {next = InText []}
      {reported = character_event (scalar_of (bytes_of opened ++ b ∷ [])) ∷ []} at_text.continues before_end byte_is
      (truncated-some (bytes_of opened) truncated)
      (breaks-well_formed (bytes_of opened) b extends.0)
      (bytes_lead-byte
      (extending_is_no_escape (bytes_of opened) b truncated (inl extends.0)) (text-well_formed extends.0))
      (performed ∙ ap (λ n. call.step mid (character_event n)) extends.1) refl
      (subst (ProgressInside call old mid stream i) at_text.same inside.progress) in
      subst (λ n. IsAtPosition call old new stream n next) (sym later)
      (record {
        place = InText [];
        is_at = is_at-in_text state refl refl;
        settled = λ _. refl;
        progress = progress-settled refl refl come;
      })

  -- A byte that breaks a character is still to be read.
  extended-malformed : {new : V} {i b : ℕ} {opened : OpenCharacter} {parser next : Machine B}
      → parser.state ≡ Text opened
      → is_truncated (bytes_of opened) ≡ true → Extends (bytes_of opened) b Malformed
      → next.state ≡ Text Empty
      → new ≡ call.step mid (Print replacement) → IsInsidePosition call old mid stream i parser → i < length call.bytes
      → b ≡ slice_index call.bytes i → IsAtPosition call old new stream i next
  extended-malformed {i} {b} {opened} {parser} {next} in_state truncated extends state performed inside before_end
      byte_is =
      let at_text = at_text-by_fields call.limit parser (is_at-in in_state inside.is_at) in
      record {
        place = InText [];
        is_at = is_at-in_text state refl refl;
        settled = λ _. refl;
        progress =
            progress-broken at_text.continues before_end byte_is
            (breaks-broken (bytes_of opened) b truncated extends.0 extends.1) performed
            (subst (ProgressInside call old mid stream i) at_text.same inside.progress);
      }

-- In a text with an open character, the stream leaves it open.
pub open-in_text : {B : Type 0} {limit : Option ℕ} {stream : List ℕ} {opened : OpenCharacter} (parser : Machine B)
    → parser.state ≡ Text opened → bytes_of opened ≢ [] → HasReadWithLimit limit parser stream
    → open_character stream ≡ [] → ⊥
open-in_text {limit} {stream} {opened} parser in_state some_open has_read closed =
    search (rules, arith, at_text-by_fields, is_at-in, after-open_character, is_at-place)

-- ---- any number of bytes

-- The next m bytes extend the bytes of a character.
character-bytes : (bytes : List ℕ) (i j n m : ℕ) (before : List ℕ) {opened : List ℕ} → j ≡ i + n
    → opened ≡ before ++ take n (drop i bytes)
    → opened ++ take m (drop j bytes) ≡ before ++ take (n + m) (drop i bytes)
character-bytes bytes i j n m before far bytes_are = search (rules, arith, append_assoc, drop-drop, take-add)

character-byte : (bytes : List ℕ) (i n : ℕ) (before : List ℕ) {j b : ℕ} {opened : List ℕ} → j < length bytes → j ≡ i + n
    → b ≡ slice_index bytes j → opened ≡ before ++ take n (drop i bytes)
    → opened ++ b ∷ [] ≡ before ++ take (n + 1) (drop i bytes)
character-byte bytes i n before {j} {opened} before_end far byte_is bytes_are =
    ap (λ (xs : List ℕ). opened ++ xs) (ap (λ (b : ℕ). b ∷ []) byte_is
    ∙ sym (ap (take 1) (drop_more bytes j 0 before_end)))
    ∙ character-bytes bytes i j n 1 before far bytes_are

-- From position i, inside a character of the bytes `opened`, a call has come to position j, inside a character of the
-- bytes `still_open`, and reported nothing.
pub record GoesOn {V B : Type 0} (call : ChunkCall V) (value : V) (i j : ℕ) (opened still_open : OpenCharacter)
    (next : Machine B) : Type 0 where
  pub inside : (old : V) (stream : List ℕ) (parser : Machine B) → parser.state ≡ Text opened
      → IsInsidePosition call old value stream i parser
      → IsInsidePosition call old value stream j (in_text next still_open)
  -- The same holds for a performer that keeps all events.
  pub kept : (stream : List ℕ) (parser : Machine B) → parser.state ≡ Text opened
      → IsInsidePosition (keeping call.limit call.bytes) []
      (added call.limit stream (take i call.bytes)) stream i parser
      → IsInsidePosition (keeping call.limit call.bytes) [] (added call.limit stream (take i call.bytes)) stream j
      (in_text next still_open)
  pub truncated : may_continue (bytes_of opened) ≡ true → is_truncated (bytes_of still_open) ≡ true
  pub n : ℕ
  pub position_is : j ≡ i + n
  pub bytes_are : may_continue (bytes_of opened) ≡ true
      → bytes_of still_open ≡ bytes_of opened ++ take n (drop i call.bytes)

module _ {V B : Type 0} {call : ChunkCall V} {value : V} {i : ℕ} {opened : OpenCharacter} where
  -- Before any byte is read, the character is as it was.
  pub goes_on-nowhere : (next : Machine B) → bytes_of opened ≢ [] → GoesOn call value i i opened opened next
  goes_on-nowhere next some_open = search (rules, arith)

  -- A byte after which the character is still open is read with those before it.
  pub goes_on-more : {j b : ℕ} {still_open longer : OpenCharacter} {parser next : Machine B}
      → GoesOn call value i j opened still_open parser
      → (is_truncated (bytes_of still_open) ≡ true → Extends (bytes_of still_open) b (Truncated longer))
      → j < length call.bytes
      → b ≡ slice_index call.bytes j → GoesOn call value i (j + 1) opened longer next
  goes_on-more goes extends before_end byte_is = record {
    inside = λ old stream parser in_state inside. let truncated = goes.truncated (inside-open in_state inside) in
        extended-truncated refl truncated (extends truncated) refl (goes.inside old stream parser in_state inside)
        before_end byte_is;
    kept = λ stream parser in_state inside. let truncated = goes.truncated (inside-open in_state inside) in
        extended-truncated refl truncated (extends truncated) refl (goes.kept stream parser in_state inside)
        before_end byte_is;
    truncated = λ continues. (extends (goes.truncated continues)).1;
    n = goes.n + 1;
    position_is = omega (arith, goes.position_is);
    bytes_are =
        λ continues. (extends (goes.truncated continues)).0
        ∙ character-byte call.bytes i goes.n (bytes_of opened) before_end goes.position_is byte_is
        (goes.bytes_are continues);
  }

  -- If all bytes are read, the character stays open.
  pub completes-all : {j k : ℕ} {still_open : OpenCharacter} {next : Machine B}
      → GoesOn call value i j opened still_open next → j ≡ k
      → length call.bytes ≤ k → Completes call value value i k opened (in_text next still_open)
  completes-all goes end all = record {
    is_at_position =
        λ old stream parser in_state inside. inside-all
        (inside-moved end (goes.inside old stream parser in_state inside)) all;
    in_text = λ before_end. absurd (omega arith);
    adds = λ old stream parser in_state inside. record {
      events = [];
      parts =
          sym (reported-at
          (inside-all (inside-moved end (goes.kept stream parser in_state (recorded-inside inside))) all))
          ∙ sym (append-nil (added call.limit stream (take i call.bytes)));
      events_are = inl (All-nil IsOutsideRuns);
    };
  }

  -- A byte that ends the character completes it.
  pub completes-well_formed : {new : V} {j k b scalar : ℕ} {still_open : OpenCharacter} {parser next : Machine B}
      → GoesOn call value i j opened still_open parser
      → (is_truncated (bytes_of still_open) ≡ true → Extends (bytes_of still_open) b (WellFormed scalar))
      → next.state ≡ Text Empty → new ≡ call.step value (character_event scalar) → j < length call.bytes
      → b ≡ slice_index call.bytes j → k ≡ j + 1 → Completes call value new i k opened next
  completes-well_formed {scalar} {still_open} {next} goes extends state performed before_end byte_is later = record {
    is_at_position = λ old stream parser in_state inside.
        let truncated = goes.truncated (inside-open in_state inside) in
        extended-well_formed refl truncated (extends truncated) state performed
        (goes.inside old stream parser in_state inside) before_end byte_is later;
    in_text = λ _. state;
    adds = λ old stream parser in_state inside.
        let continues = inside-open in_state inside in
        let truncated = goes.truncated continues in
        let whole = extends truncated in
        let same =
        character-byte call.bytes i goes.n (bytes_of opened) before_end goes.position_is byte_is
        (goes.bytes_are continues) in
        record {
          events = character_event scalar ∷ [];
          parts =
              sym (reported-at
              (extended-well_formed {next = next} refl truncated whole state refl
              (goes.kept stream parser in_state (recorded-inside inside)) before_end byte_is later));
          events_are = inr (record {
            n = goes.n + 1;
            within = omega (arith, goes.position_is, before_end);
            well_formed = subst (λ (bytes : List ℕ). is_well_formed bytes ≡ true) same whole.0;
            several_bytes =
                subst (λ (bytes : List ℕ). 1 < length bytes) same
                (length-longer _ _ (truncated-some (bytes_of still_open) truncated));
            event_is = ap (λ n. character_event n ∷ []) (whole.1 ∙ ap scalar_of same);
          });
        };
  }

  -- A byte that breaks the character completes it too, and is still to be read.
  pub completes-malformed : {new : V} {j b : ℕ} {still_open : OpenCharacter} {parser next : Machine B}
      → GoesOn call value i j opened still_open parser
      → (is_truncated (bytes_of still_open) ≡ true → Extends (bytes_of still_open) b Malformed)
      → next.state ≡ Text Empty → new ≡ call.step value (Print replacement) → j < length call.bytes
      → b ≡ slice_index call.bytes j → Completes call value new i j opened next
  completes-malformed {next} goes extends state performed before_end byte_is = record {
    is_at_position = λ old stream parser in_state inside.
        let truncated = goes.truncated (inside-open in_state inside) in
        extended-malformed refl truncated (extends truncated) state performed
        (goes.inside old stream parser in_state inside) before_end byte_is;
    in_text = λ _. state;
    adds = λ old stream parser in_state inside.
        let truncated = goes.truncated (inside-open in_state inside) in
        record {
          events = Print replacement ∷ [];
          parts =
              sym (reported-at
              (extended-malformed {next = next} refl truncated (extends truncated) state refl
              (goes.kept stream parser in_state (recorded-inside inside)) before_end byte_is));
          events_are = inl (All-cons IsOutsideRuns (Print replacement) [] refl (All-nil IsOutsideRuns));
        };
  }

  -- Another function can complete the character that this one goes on with.
  pub completes-then : {new : V} {j k : ℕ} {still_open : OpenCharacter} {parser next : Machine B}
      → GoesOn call value i j opened still_open parser → Completes call value new j k still_open next
      → Completes call value new i k opened next
  completes-then {j} {still_open} {parser} goes completes = record {
    is_at_position =
        λ old stream earlier in_state inside. completes.is_at_position old stream (in_text parser still_open) refl
        (goes.inside old stream earlier in_state inside);
    in_text = completes.in_text;
    adds = λ old stream earlier in_state inside.
        let continues = inside-open in_state inside in
        let reported =
        completes.adds old stream (in_text parser still_open) refl
        (goes.inside old stream earlier in_state inside) in
        let silent = added-inside (goes.kept stream earlier in_state (recorded-inside inside)) in
        record {
          events = reported.events;
          parts = reported.parts ∙ ap (λ (events : List Event). events ++ reported.events) (sym silent);
          events_are = elim reported.events_are [
            | inl others ↦ inl others
            | inr whole ↦
                let same : bytes_of still_open ++ take whole.n (drop j call.bytes)
                ≡ bytes_of opened ++ take (goes.n + whole.n) (drop i call.bytes) =
                character-bytes call.bytes i j goes.n whole.n (bytes_of opened) goes.position_is
                (goes.bytes_are continues) in
                inr (record {
                  n = goes.n + whole.n;
                  within = omega (arith, goes.position_is, whole.within);
                  well_formed = subst (λ (bytes : List ℕ). is_well_formed bytes ≡ true) same whole.well_formed;
                  several_bytes = subst (λ (bytes : List ℕ). 1 < length bytes) same whole.several_bytes;
                  event_is = whole.event_is ∙ ap (λ (bytes : List ℕ). character_event (scalar_of bytes) ∷ []) same;
                })
          ];
        };
  }

module _ {V B : Type 0} {call : ChunkCall V} {value : V} {i first second : ℕ} where
  -- A character of three or four bytes goes on with its second byte.
  pub goes_on-second : (next : Machine B) → 0xe0 ≤ first → is_in (second_range first) second ≡ true
      → i < length call.bytes
      → second ≡ slice_index call.bytes i → GoesOn call value i (i + 1) (One first) (Two first second) next
  goes_on-second next low fits before_end second_is =
      goes_on-more (goes_on-nowhere next (opened-some first []))
      (λ truncated. second-open first second truncated fits low) before_end second_is

  -- A character of four bytes goes on with its second and its third byte.
  pub goes_on-third : {third : ℕ} (next : Machine B) → 0xf0 ≤ first → is_in (second_range first) second ≡ true
      → is_in (from_to 0x80 0xbf) third ≡ true → i + 2 < length call.bytes → second ≡ slice_index call.bytes i
      → third ≡ slice_index call.bytes (i + 1)
      → GoesOn call value i (i + 2) (One first) (Three first second third) next
  goes_on-third {third} next low second_fits third_fits before_end second_is third_is =
      let goes =
      goes_on-more {next = next} (goes_on-second next (omega arith) second_fits (omega arith) second_is)
      (λ truncated. third-open first second third truncated third_fits low) (omega arith) third_is in
      record {
        inside =
            λ old stream parser in_state inside. inside-moved (omega arith)
            (goes.inside old stream parser in_state inside);
        kept = λ stream parser in_state inside. inside-moved (omega arith) (goes.kept stream parser in_state inside);
        truncated = goes.truncated;
        n = goes.n;
        position_is = omega (arith, goes.position_is);
        bytes_are = goes.bytes_are;
      }
