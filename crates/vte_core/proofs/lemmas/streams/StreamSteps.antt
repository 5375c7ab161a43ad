-- A stream of any bytes, from its prefix: each byte leads from a place to a place (`arrives`), so what a stream gives
-- stays as it is whatever follows, and it begins again when all places lead to the same.
use Rattle.std.proofs.lemmas.Str.{length-encode}
use Rattle.vte_core.proofs.Common.{added, All, All-append, All-nil, ap, append_assoc, AreBrief, arith, AtEscape, BytesLead, Cancel, cases_lt, character_event, class_of, CommandToClose, CountsData, drop, escape, Event, events, events_from, inl, inr, InSystemCommand, InText, is_control_character, is_well_formed, IsAfter, IsBounded, IsOutsideRuns, length, length-append, List, nat_tests, None, open_at, open_character, open_data_count, Option, Place, PrintsNoAscii, refl, rules, scalar_of, Some, sym, to_close_at, ToClose, true, ℕ, [], ◌++◌, ◌+◌, ◌<◌, ◌∙◌, ◌∷◌, ◌≡◌, ◌≢◌, ◌≤◌}
use Rattle.vte_core.proofs.lemmas.dividing.Utf8Agrees.{well_formed_is_encoded}
use Rattle.vte_core.proofs.lemmas.fields.Pieces.{pieces_fit}
use Rattle.vte_core.proofs.lemmas.fields.PlaceOfState.{IsReachable}
use Rattle.vte_core.proofs.lemmas.places.BytesInStream.{bytes_lead-append, bytes_lead-byte, bytes_lead-escape, bytes_lead-nothing, cancel_is_no_escape, events-after_nothing, outcome_from-escape}
use Rattle.vte_core.proofs.lemmas.places.PlaceSteps.{steps}
use Rattle.vte_core.proofs.lemmas.places.Steps.{OpenPiecesFit, Steps}
use Rattle.vte_core.proofs.lemmas.places.TextSteps.{byte-cancels}
use Rattle.vte_core.proofs.lemmas.streams.After.{added-after, added-leads, after-events, after-leads, after-nothing, after-open_character, after-to_close, events-empty}
use Rattle.vte_core.specs.Laws.{Grows, OpensSilently, Resyncs, ResyncsAfter}

to_close-fits : (limit : Option ℕ) (place : Place) → OpenPiecesFit limit (to_close_at limit place)
to_close-fits limit (InText []) = tt
to_close-fits limit (InText (a ∷ opened)) = tt
to_close-fits limit (InSystemCommand items) = pieces_fit limit items
to_close-fits limit _ = tt

-- How many data bytes are open at a place.
abbrev size_at : Option ℕ → Place → ℕ
size_at limit place = open_data_count (to_close_at limit place)

-- The bytes report events of a bounded size after the place, and lead to a next place.
pub record Arrives (limit size : Option ℕ) (place : Place) (bytes : List ℕ) : Type 0 where
  pub reported : List Event
  pub next : Place
  pub is_reachable : IsReachable next
  pub leads : BytesLead limit place bytes reported next
  pub bounded : All (IsBounded size) reported
  pub grows : limit ≡ None → size_at limit next ≤ size_at limit place + length bytes

brief_bounded : (limit : Option ℕ) (reported : List Event) → AreBrief limit reported
    → All (IsBounded limit) reported
brief_bounded limit reported brief = search (rules, arith)

-- The bytes arrive at a place, if the pieces that are left fit into the size at each place on the way.
arrives : (limit size : Option ℕ) (place : Place) (bytes : List ℕ) → IsReachable place
    → ((on_way : Place) → (limit ≡ None → size_at limit on_way ≤ size_at limit place + length bytes)
    → OpenPiecesFit size (to_close_at limit on_way)) → Arrives limit size place bytes
arrives limit size place [] is_reachable fits =
    record {
      reported = [];
      next = place;
      is_reachable = is_reachable;
      leads = bytes_lead-nothing;
      bounded = All-nil (IsBounded size);
      grows = λ _. omega arith;
    }
arrives limit size place (b ∷ bytes) is_reachable fits =
    let first = steps is_reachable in
    let rest = arrives limit size first.next bytes first.is_reachable
    (λ on_way at_most. fits on_way (λ no_limit. omega (arith, at_most no_limit, first.grows no_limit))) in
    record {
      reported = first.reported ++ rest.reported;
      next = rest.next;
      is_reachable = rest.is_reachable;
      leads = bytes_lead-append first.leads rest.leads;
      bounded =
          All-append (IsBounded size) first.reported rest.reported
          (brief_bounded size first.reported (first.brief size (fits place (λ _. omega arith)))) rest.bounded;
      grows = λ no_limit. omega (arith, first.grows no_limit, rest.grows no_limit);
    }

-- ---- the events of a stream from the events that it reports

-- What the bytes of a stream report on their way from its start is all that it reports.
pub reported_by_stream : {limit : Option ℕ} {next : Place} {stream : List ℕ} {reported : List Event} → IsReachable next
    → BytesLead limit (InText []) stream reported next → events limit stream ≡ reported
reported_by_stream {limit} {stream} is_reachable leads =
    ap (λ es. drop (length es) (events limit stream)) (sym (events-empty limit))
    ∙ added-leads after-nothing leads is_reachable

-- The stream leads to a place, with events of bounded size.
pub record LeadsTo (limit : Option ℕ) (stream : List ℕ) : Type 0 where
  pub place : Place
  pub is_reachable : IsReachable place
  pub is_after : IsAfter limit stream place
  pub bounded : All (IsBounded limit) (events limit stream)

-- Every stream does.
pub leads_to : {limit : Option ℕ} {stream : List ℕ} → LeadsTo limit stream
leads_to {limit} {stream} =
    let arrives_there : Arrives limit limit (InText []) stream =
    arrives limit limit (InText []) stream refl (λ place _. to_close-fits limit place) in
    record {
      place = arrives_there.next;
      is_reachable = arrives_there.is_reachable;
      is_after = after-leads after-nothing arrives_there.leads arrives_there.is_reachable;
      bounded = rw (reported_by_stream arrives_there.is_reachable arrives_there.leads) arrives_there.bounded;
    }

-- ---- the laws: events only grow, and a stream begins again at ESC and after CAN and SUB

pub events_grow : (limit : Option ℕ) → Grows limit
events_grow limit stream more =
    let leads = leads_to in
    after-events more leads.is_after
    ∙ ap (λ es. events limit stream ++ es) (sym (added-after more leads.is_after))

grows_after : {limit : Option ℕ} (stream : List ℕ) {bytes : List ℕ} (more : List ℕ)
    (leads : LeadsTo limit stream) {next : Place}
    {reported : List Event} → IsReachable next
    → BytesLead limit leads.place bytes reported next
    → events limit (stream ++ (bytes ++ more)) ≡ events limit (stream ++ bytes) ++ events_from limit next more
grows_after {limit} stream {bytes} more leads is_reachable reads =
    search (rules, arith, append_assoc, after-events, after-leads)

-- After CAN or SUB, what follows is read as a new stream.
resyncs_after : (limit : Option ℕ) (end : ℕ) → class_of end ≡ Cancel → ResyncsAfter limit end
resyncs_after limit end is_class stream more =
    let leads = leads_to in
    let last =
    bytes_lead-byte (cancel_is_no_escape end is_class)
    (byte-cancels leads.is_reachable is_class) in
    grows_after stream more leads refl last
    ∙ ap (λ es. events limit (stream ++ end ∷ []) ++ es) (sym (events-after_nothing limit more))

escape_at_first : (limit : Option ℕ) (more : List ℕ) → events limit (escape ∷ more) ≡ events_from limit AtEscape more
escape_at_first limit more =
    events-after_nothing limit (escape ∷ more)
    ∙ ap (λ outcome. outcome.reported) (outcome_from-escape limit (InText []) more refl)

pub resynchronises : (limit : Option ℕ) → Resyncs limit
unfolding class_of
resynchronises limit = record {
  cancel = resyncs_after limit 0x18 refl;
  substitute = resyncs_after limit 0x1a refl;
  escape = λ stream more.
      let leads = leads_to in
      grows_after stream more leads tt (bytes_lead-escape leads.is_reachable)
      ∙ ap (λ es. events limit (stream ++ escape ∷ []) ++ es) (sym (escape_at_first limit more));
}

-- ---- what one byte adds

-- A byte adds what it reports after the place of the stream, and leaves open what the next place does.
pub record AddedByByte (limit : Option ℕ) (stream : List ℕ) (b : ℕ) : Type 0 where
  pub place : Place
  pub begins : open_character stream ≡ open_at place
  pub step : Steps limit place b
  pub ends : open_character (stream ++ b ∷ []) ≡ open_at step.next
  pub reported : added limit stream (b ∷ []) ≡ step.reported

pub added-byte : (limit : Option ℕ) (stream : List ℕ) (b : ℕ) → AddedByByte limit stream b
added-byte limit stream b =
    let leads = leads_to in
    let step = steps leads.is_reachable in
    let later = after-leads leads.is_after step.leads step.is_reachable in
    record {
      place = leads.place;
      begins = after-open_character leads.is_after leads.is_reachable;
      step = step;
      ends = after-open_character later step.is_reachable;
      reported = added-leads leads.is_after step.leads step.is_reachable;
    }

pub bytes_are_brief : (limit : Option ℕ) (stream : List ℕ) (b : ℕ) → AreBrief limit (added limit stream (b ∷ []))
bytes_are_brief limit stream b =
    let adds = added-byte limit stream b in rw adds.reported (adds.step.brief limit (to_close-fits limit adds.place))

pub opens_silently : (limit : Option ℕ) → OpensSilently limit
opens_silently limit stream b =
    let adds = added-byte limit stream b in
    elim adds.step.leaves [
      | inl none_open ↦ inl (adds.ends ∙ none_open)
      | inr little ↦
          elim little [ inl nothing ↦ inr (inl (adds.reported ∙ nothing)) | inr one ↦ inr (inr (adds.reported ∙ one)) ]
    ]

-- ---- what all bytes report

pub events_are_bounded : (limit : Option ℕ) (stream : List ℕ) → All (IsBounded limit) (events limit stream)
events_are_bounded limit stream = leads_to.bounded

-- ---- how much data a command has that bytes dispatch or leave open, without a limit

OpenPiecesFit-by : (n : ℕ) (to_close : ToClose) → open_data_count to_close ≤ n
    → OpenPiecesFit (Some n) to_close
OpenPiecesFit-by n (CommandToClose pieces lost) fits = fits
OpenPiecesFit-by n _ fits = tt

pub counts_data : (stream bytes : List ℕ) → CountsData stream bytes
counts_data stream bytes =
    let leads = leads_to {limit = None} {stream = stream} in
    let c = arrives None (Some (size_at None leads.place + length bytes)) leads.place bytes leads.is_reachable
    (λ place at_most. OpenPiecesFit-by _ (to_close_at None place) (at_most refl)) in
    let before = ap open_data_count (after-to_close leads.is_after leads.is_reachable) in
    let later =
    ap open_data_count (after-to_close (after-leads leads.is_after c.leads c.is_reachable) c.is_reachable) in
    record {
      reported = rw (before, added-leads leads.is_after c.leads c.is_reachable) c.bounded;
      left = omega (arith, before, later, c.grows refl);
    }

-- ---- events that no run reports

-- No run reports a control, nor a longer character whose event is no printed one. Such a character is never ASCII.

-- A sequence of two bytes or more is no character of ASCII.
pub prints_no_ascii : (bytes : List ℕ) → is_well_formed bytes ≡ true → 1 < length bytes → 0x80 ≤ scalar_of bytes
prints_no_ascii bytes well_formed long = elim (cases_lt (scalar_of bytes) 0x80) [
  | inl low ↦
      let size = sym (length-encode (scalar_of bytes)) ∙ ap length (well_formed_is_encoded bytes well_formed) in
      absurd (grind (arith, nat_tests))
  | inr high ↦ omega (arith, high)
]

pub length-longer : (bytes : List ℕ) (b : ℕ) → bytes ≢ [] → 1 < length (bytes ++ b ∷ [])
length-longer [] b some_bytes = absurd (some_bytes refl)
length-longer (a ∷ bytes) b some_bytes = omega (arith, length-append bytes (b ∷ []))

pub prints_no_ascii-character : (scalar : ℕ) → 0x80 ≤ scalar → All PrintsNoAscii (character_event scalar ∷ [])
unfolding character_event
prints_no_ascii-character scalar high = search (rules, arith)

pub outside_runs-control : (scalar : ℕ) → is_control_character scalar ≡ true
    → All IsOutsideRuns (character_event scalar ∷ [])
unfolding character_event
outside_runs-control scalar is_control = search (rules, arith)

-- U+FFFD, the only character among events outside runs, is no ASCII.
pub prints_no_ascii-all : (events : List Event) → All IsOutsideRuns events → All PrintsNoAscii events
prints_no_ascii-all events are_outside_runs = search (rules, arith)
