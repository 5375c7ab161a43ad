-- A byte between characters: it is one (`advances-printed`), a control or malformed (`advances-lone`), or the first of
-- one (`advances-first`). What the code does is what `places/PlaceLeads` says of the byte, and the parser is at the
-- next place. A control or malformed byte reports nothing that a run would, after a stretch (`advances-single`).
use Rattle.vte_core.proofs.Common.{AddsOutsideRuns, Advances, All, AnyEvents, ap, arith, BytesLead, caller_looks, cases_lt, character_event, ChunkCall, drop, drop_more, Empty, escape, Event, Extends, false, false≢true, from_to, HasNoRunAt, inl, inr, InText, is_in, is_truncated, IsAfter, IsAtPlace, IsOutsideRuns, IsSettledPlace, Leads, length, List, lookahead, Machine, malformed_event, MayGoOn, nat_tests, One, OpenCharacter, Option, per_byte, Place, Print, printed_ascii, refl, resumed_stream, rules, slice_index, SpendsWithin, subst, suc, sym, take, TakesBytes, Text, true, ℕ, [], ◌+◌, ◌<◌, ◌∙◌, ◌∷◌, ◌≡◌, ◌≢◌, ◌≤◌}
use Rattle.vte_core.proofs.lemmas.bytes.Scalars.{begins_none, first_truncated}
use Rattle.vte_core.proofs.lemmas.bytes.Utf8.{ascii-alone}
use Rattle.vte_core.proofs.lemmas.fields.PlaceOfState.{is_at-by}
use Rattle.vte_core.proofs.lemmas.places.BytesInStream.{bytes_lead-byte}
use Rattle.vte_core.proofs.lemmas.places.PlaceLeads.{text-lone, text-open, text-well_formed}
use Rattle.vte_core.proofs.lemmas.positions.AddedEvents.{added-inside, adds-character, adds-leads, keep, keeping, recorded-at}
use Rattle.vte_core.proofs.lemmas.positions.Characters.{in_text}
use Rattle.vte_core.proofs.lemmas.positions.SettledStates.{place-settled_text, settled-same_state}
use Rattle.vte_core.proofs.lemmas.positions.Stretches.{advances-byte, advances-reporting, advances-then, advances-without_promise, reads-byte_at}
use Rattle.vte_core.proofs.lemmas.positions.TakenBytes.{not_escape, takes-byte, takes_bytes-between}
use Rattle.vte_core.proofs.lemmas.streams.StreamSteps.{outside_runs-control}
use Rattle.vte_core.specs.declared.reader.Reader.{Reader}
use Rattle.vte_core.specs.declared.utf8.Extension.TheVariants.{Truncated}
use Rattle.vte_core.specs.private.Prelude.{Completes, MayReadByte}

character_event-printed : (b : ℕ) → is_in printed_ascii b ≡ true → character_event b ≡ Print b
unfolding character_event
character_event-printed b printed = grind (arith, nat_tests)

module _ {V B : Type 0} {call : ChunkCall V} {old new : V} {i b : ℕ} {parser : Machine B}
    (may_read : MayReadByte call old (Text Empty) parser i b) where
  -- After a byte with this event, the parser is between characters again.
  advances-event : {event : Event} → b ≢ escape → Leads call.limit (InText []) b (event ∷ []) (InText [])
      → new ≡ call.step old event → Advances AnyEvents call old new i (i + 1) parser parser
  advances-event is_no_escape leads performed =
      advances-without_promise (advances-byte may_read.before_end may_read.looked_at may_read.may_go_on
      (takes_bytes-between may_read.in_state is_no_escape (λ is_at. takes-byte performed is_at leads))
      (settled-same_state may_read.in_state tt))

  -- A character of ASCII that is printed is reported by `Print`.
  pub advances-printed : {scalar : ℕ} → is_in printed_ascii b ≡ true → scalar ≡ b
      → new ≡ call.step old (Print scalar) → Advances AnyEvents call old new i (i + 1) parser parser
  advances-printed printed same reported =
      let low : 0x20 ≤ b = grind (arith, nat_tests) in
      let high : b < 0x80 = grind (arith, nat_tests) in
      advances-event (λ escape. omega (arith, escape, low)) (text-well_formed (ascii-alone b high).is_whole)
      (reported ∙ ap (λ scalar. call.step old (Print scalar)) same
      ∙ ap (call.step old) (sym (character_event-printed b printed)))

  -- A byte that is neither printed nor begins a longer character is a control or malformed.
  pub advances-lone : b ≢ escape → is_in (from_to 0xc2 0xf4) b ≡ false
      → (b < 0x80 → new ≡ call.step old (character_event b))
      → (0x80 ≤ b → new ≡ call.step old (malformed_event (b ∷ [])))
      → Advances AnyEvents call old new i (i + 1) parser parser
  advances-lone is_no_escape no_lead control malformed = elim (cases_lt b 0x80) [
    | inl low ↦ advances-event is_no_escape (text-well_formed (ascii-alone b low).is_whole) (control low)
    | inr high ↦
        let lone = begins_none b high no_lead in
        advances-event is_no_escape (text-lone lone.is_whole lone.is_open) (malformed high)
  ]

-- A byte that begins a longer character reports nothing, and opens it.
takes_bytes-opened : {V B : Type 0} {step : V → Event → V} {value : V} {limit : Option ℕ} {b : ℕ}
    {longer : OpenCharacter} {parser next : Machine B} → parser.state ≡ Text Empty
    → b ≢ escape → Extends [] b (Truncated longer) → next.state ≡ Text longer → (place : Place)
    → IsAtPlace limit parser place
    → IsSettledPlace place
    → TakesBytes step value value limit place (b ∷ []) next
takes_bytes-opened {limit} {b} {longer} {next} in_state is_no_escape extends state =
    let more : is_truncated (b ∷ []) ≡ true = rw extends.0 at extends.1 in
    takes_bytes-between in_state is_no_escape
    (λ s. record {
      reported = [];
      next = InText (b ∷ []);
      performed = refl;
      is_at = is_at-by state (extends.0, more);
      leads = text-open;
    })

-- ---- a loop over a text

-- From one position the call has come to another, where it may go on, between characters if bytes are left.
pub record ReadsOn {V B : Type 0} (call : ChunkCall V) (first value : V) (from position : ℕ) (before parser : Machine B)
    (old_reader new_reader : Reader) : Type 0 where
  pub advances : Advances AnyEvents call first value from position before parser
  pub may_go_on : MayGoOn call value
  pub settled : position < length call.bytes → parser.state ≡ Text Empty
  pub spends : SpendsWithin (per_byte 5) (caller_looks 0) (lookahead 0) call.bytes from position before parser
      old_reader
      new_reader

-- ---- what a byte reports that is neither printed nor begins a longer one

-- A control or a malformed byte, by whether it is ASCII. Neither event is one of a run.

-- What such a byte reports, if no character is open.
record Single (limit : Option ℕ) (b : ℕ) : Type 0 where
  reported : List Event
  leads : BytesLead limit (InText []) (b ∷ []) reported (InText [])
  events_are : All IsOutsideRuns reported

outside_runs-malformed : (b : ℕ) → All IsOutsideRuns (malformed_event (b ∷ []) ∷ [])
unfolding malformed_event
outside_runs-malformed b = search (rules, arith)

byte-single : (limit : Option ℕ) (b : ℕ) → b ≢ escape → is_in printed_ascii b ≡ false
    → is_in (from_to 0xc2 0xf4) b ≡ false
    → Single limit b
byte-single limit b is_no_escape other no_lead = elim (cases_lt b 0x80) [
  | inl low ↦ record {
    reported = character_event b ∷ [];
    leads =
        bytes_lead-byte (not_escape b is_no_escape)
        (text-well_formed (ascii-alone b low).is_whole);
    events_are = outside_runs-control b (grind (arith, nat_tests));
  }
  | inr high ↦
      let lone = begins_none b high no_lead in
      record {
        reported = malformed_event (b ∷ []) ∷ [];
        leads =
            bytes_lead-byte (not_escape b is_no_escape)
            (text-lone lone.is_whole lone.is_open);
        events_are = outside_runs-malformed b;
      }
]

adds-single : {B : Type 0} {limit : Option ℕ} {stream bytes : List ℕ} {i b : ℕ} {place : Place} (parser : Machine B)
    → parser.state ≡ Text Empty → b ≢ escape
    → is_in printed_ascii b ≡ false → is_in (from_to 0xc2 0xf4) b ≡ false → i < length bytes
    → b ≡ slice_index bytes i
    → IsAtPlace limit parser place
    → IsAfter limit (resumed_stream stream bytes i) place → AddsOutsideRuns limit stream bytes i (i + 1)
adds-single {limit} {stream} {bytes} {i} {b} {place}
    parser in_state is_no_escape other no_lead before_end byte_is is_at after =
    let one = byte-single limit b is_no_escape other no_lead in
    adds-leads before_end byte_is
    (subst (IsAfter limit (resumed_stream stream bytes i)) (place-settled_text in_state is_at) after)
    one.leads refl one.events_are

pub advances-single : {outside V B : Type 0} {call : ChunkCall V} {old mid new : V} {i j b : ℕ}
    {parser next : Machine B} → Advances outside call old mid i j parser next
    → MayReadByte call mid (Text Empty) next j b → b ≢ escape → is_in printed_ascii b ≡ false
    → is_in (from_to 0xc2 0xf4) b ≡ false → (b < 0x80 → new ≡ call.step mid (character_event b))
    → (0x80 ≤ b → new ≡ call.step mid (malformed_event (b ∷ [])))
    → Advances outside call old new i (j + 1) parser next
advances-single before may_read is_no_escape other no_lead control malformed =
    advances-then before (advances-reporting (advances-lone may_read is_no_escape no_lead control malformed)
    (λ stream place is_at. adds-single _ may_read.in_state is_no_escape other no_lead may_read.before_end
    may_read.looked_at is_at))

-- ---- what a character reports that a lead byte begins

-- A call that completes it from the second byte on (`Completes`) does from the first what any call does (`Advances`).
-- What it reports is no printed character where no run could begin.

-- A call that reads the first byte of a character advances by what completes the character.
pub advances-first : {V B given : Type 0} {call : ChunkCall V} {old new : V} {i j first : ℕ} {parser next : Machine B}
    → MayReadByte call old (Text Empty) parser i first → 0xc2 ≤ first → first < 0xf5
    → Completes call old new (i + 1) j (One first) next
    → Advances (given × HasNoRunAt false call.bytes i) call old new i j parser next
advances-first {call} {i} {first} {parser} may_read lead fits completes = record {
  -- The first byte opens the character, and `completes` goes on from inside it.
  is_at_position = λ value stream position.
      completes.is_at_position value stream (in_text parser (One first)) refl
      (reads-byte_at may_read.before_end may_read.looked_at may_read.may_go_on
      (takes_bytes-opened may_read.in_state (λ is_escape. omega (arith, is_escape, lead))
      (refl, first_truncated first lead fits) refl) position);
  -- If bytes are left, the parser is between characters again.
  settled = λ before_end. settled-same_state (completes.in_text before_end) tt;
  -- It remains to show that what the whole character reports is outside runs.
  outside_runs = λ given value stream position.
      -- After the first byte, the call is inside the character.
      let inside =
      reads-byte_at may_read.before_end may_read.looked_at may_read.may_go_on
      (takes_bytes-opened may_read.in_state (λ is_escape. omega (arith, is_escape, lead))
      (refl, first_truncated first lead fits) refl) position in
      -- For a performer that keeps all events (`recorded-at`), the same says that the first byte reported nothing.
      let silent = reads-byte_at {call = keeping call.limit call.bytes} may_read.before_end may_read.looked_at
      (λ asks. absurd (false≢true asks))
      (takes_bytes-opened {step = keep} may_read.in_state (λ is_escape. omega (arith, is_escape, lead))
      (refl, first_truncated first lead fits) refl)
      (recorded-at position) in
      -- So what the character reports is what `completes` adds.
      let reported = completes.adds value stream (in_text parser (One first)) refl inside in
      -- Either this is outside runs by itself, or it is a whole character.
      adds-character reported (added-inside {parser = in_text parser (One first)} silent) (elim reported.events_are [
        | inl others ↦ others
        | inr whole ↦
            let cut : take (whole.n + 1) (drop i call.bytes) ≡ first ∷ take whole.n (drop (i + 1) call.bytes) =
            ap (λ n. take n (drop i call.bytes)) (let same : whole.n + 1 ≡ suc whole.n = omega arith in same)
            ∙ ap (take (suc whole.n)) (drop_more call.bytes i 0 may_read.before_end)
            ∙ ap (λ byte. byte ∷ take whole.n (drop (i + 1) call.bytes)) (sym may_read.looked_at) in
            -- As no run begins here, a well-formed sequence that begins here spells a control.
            let control =
            rw cut at (given.1 (whole.n + 1) (omega (arith, whole.within)) (rw cut whole.well_formed)) in
            subst (All IsOutsideRuns) (sym whole.event_is) (outside_runs-control _ control)
      ]);
}
