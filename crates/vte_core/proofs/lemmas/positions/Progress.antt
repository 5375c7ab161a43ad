-- How a call comes from one position to the next, as places say it. A stretch of bytes that leads to a place adds its
-- events to those reported so far. A call that may stop does so only at the start of a character or sequence.
--
-- `progress-nothing`: the start of a call
-- `progress-byte`: past a byte before which the call may stop; `progress-extended`: past one inside a character
-- `progress-further`: past any stretch of bytes; `progress-items`: past data bytes of a command
-- `progress-settled`, `progress-all`, `progress-broken`: where something may start, because no character is open, no
-- byte is left, or the next byte breaks the open one; `progress-command`: back from there
-- `progress-starts`: there something starts
-- `progress-comes`, `progress-all_read`: the public clauses of a call that stops, and of one that reads all
use Rattle.vte_core.proofs.Common.{added, after, ap, append-nil, append_assoc, arith, breaks, breaks_at, BytesLead, cases_Bool, cases_lt, ChunkCall, ComesTo, drop, drop_more, Event, false, inl, inr, InSystemCommand, InText, IsAfter, IsSettledPlace, IsStart, length, List, MayGoOn, open_at, open_character, Option, Place, Print, ProgressAt, ProgressInside, refl, replacement, reported_before, resumed_stream, rules, slice_index, subst, suc, sym, take, take-add, true, zero, ℕ, [], ◌++◌, ◌+◌, ◌-◌, ◌<◌, ◌∙◌, ◌∷◌, ◌≡◌, ◌≤◌}
use Rattle.vte_core.proofs.lemmas.bytes.Each.{one_byte}
use Rattle.vte_core.proofs.lemmas.fields.PlaceOfState.{IsReachable, open_at-settled}
use Rattle.vte_core.proofs.lemmas.places.BytesInStream.{bytes_lead-item}
use Rattle.vte_core.proofs.lemmas.shapes.BrokenCharacters.{breaks_at-all, breaks_at-byte, breaks_at-settled, no_start, reported-all, reported-broken, reported-settled, resumed_stream-broken, resumed_stream-settled, starts-broken, starts-settled}
use Rattle.vte_core.proofs.lemmas.streams.After.{added-leads, added-nothing, after-leads, after-nothing, after-open_character, after-to_close, after_events-append}
use Rattle.vte_core.proofs.lemmas.streams.EarlyStops.{added_from, after_from, breaks_there, goes_on_from}

-- ---- the bytes of a call from one position to the next

-- `progress-X`: of places, not parsers. A stretch adds its events (`stretch-added`), also if it breaks a character.

stretch-ends : (bytes : List ℕ) (i j : ℕ) → i < j → take j bytes ≡ take i bytes ++ take (j - i) (drop i bytes)
stretch-ends bytes i j in_order =
    let end_is : j ≡ i + (j - i) = omega (arith, in_order) in ap (λ n. take n bytes) end_is ∙ take-add i (j - i) bytes

-- If unread bytes break a character, so does each of their prefixes that isn't empty.
breaks-prefix : (opened unread : List ℕ) (n : ℕ) → 0 < n → breaks opened unread ≡ true
    → breaks opened (take n unread) ≡ true
breaks-prefix opened unread n nonempty broken = search (rules, arith)

module _ (limit : Option ℕ) (stream bytes : List ℕ) (i j : ℕ) (in_order : i < j) where
  -- The stream to position i.
  abbrev here : List ℕ
  here = stream ++ take i bytes

  -- The bytes from i to j.
  abbrev stretch : List ℕ
  stretch = take (j - i) (drop i bytes)

  stretch-breaks : breaks_at stream bytes i ≡ true → breaks (open_character here) stretch ≡ true
  stretch-breaks broken =
      breaks-prefix (open_character here) (drop i bytes) (j - i) (omega (arith, in_order))
      (breaks_there stream bytes i broken)

  stretch-after : (next : Place) → IsAfter limit (resumed_stream stream bytes i ++ stretch) next
      → IsAfter limit (stream ++ take j bytes) next
  unfolding resumed_stream
  stretch-after next is_after =
      let all : here ++ stretch ≡ stream ++ take j bytes =
      append_assoc stream (take i bytes) stretch
      ∙ ap (λ rest. stream ++ rest) (sym (stretch-ends bytes i j in_order)) in
      subst (λ s. IsAfter limit s next) all
      (after_from here stretch (breaks_at stream bytes i) stretch-breaks is_after)

  pub stretch-added : added limit stream (take j bytes)
      ≡ reported_before limit stream bytes i ++ added limit (resumed_stream stream bytes i) stretch
  unfolding reported_before resumed_stream
  stretch-added =
      ap (added limit stream) (stretch-ends bytes i j in_order)
      ∙ added_from limit stream (take i bytes) stretch (breaks_at stream bytes i) stretch-breaks

module _ {V : Type 0} {call : ChunkCall V} {old : V} {stream : List ℕ} where
  -- ---- from inside to a place

  -- If no character is broken here, nothing more is reported.
  progress-unbroken : {value : V} {i : ℕ} {place : Place} → breaks_at stream call.bytes i ≡ false
      → ProgressInside call old value stream i place → ProgressAt call old value stream i place
  progress-unbroken {i} unbroken progress =
      rw (reported-settled call.limit stream call.bytes i unbroken, resumed_stream-settled stream call.bytes i unbroken)
      progress

  pub progress-settled : {value : V} {i : ℕ} {place : Place} → IsReachable place → IsSettledPlace place
      → ProgressInside call old value stream i place → ProgressAt call old value stream i place
  progress-settled {i} {place} is_reachable settled progress =
      progress-unbroken
      (breaks_at-settled stream call.bytes i
      (after-open_character progress.is_after is_reachable
      ∙ open_at-settled place settled)) progress

  pub progress-all : {value : V} {i : ℕ} {place : Place} → length call.bytes ≤ i
      → ProgressInside call old value stream i place → ProgressAt call old value stream i place
  progress-all {i} all progress = progress-unbroken (breaks_at-all stream call.bytes i all) progress

  -- U+FFFD is reported for a character that the next byte breaks, and the parser is as it was at first.
  pub progress-broken : {value new : V} {i b : ℕ} {place : Place} → IsReachable place → i < length call.bytes
      → b ≡ slice_index call.bytes i → breaks (open_at place) (b ∷ []) ≡ true
      → new ≡ call.step value (Print replacement) → ProgressInside call old value stream i place
      → ProgressAt call old new stream i (InText [])
  progress-broken {i} {b} {place} is_reachable before_end byte_is broken performed progress =
      search (
        rules,
        arith,
        breaks_at-byte,
        after-open_character,
        after_events-append,
        reported-broken,
        resumed_stream-broken,
        after-nothing,
      )

  -- ---- some bytes more

  -- Bytes that lead to a place make progress, if the performer may go on at each start among them.
  pub progress-further : {value new : V} {i j : ℕ} {place next : Place} {reported : List Event} → i < j
      → j ≤ length call.bytes
      → (call.may_stop ≡ true → IsStart stream call.bytes i → call.is_terminated value ≡ false)
      → (call.may_stop ≡ true → (k : ℕ) → i < k → k < j
      → call.is_terminated (after call.step old (reported_before call.limit stream call.bytes k)) ≡ false)
      → BytesLead call.limit place (take (j - i) (drop i call.bytes)) reported next
      → new ≡ after call.step value reported
      → IsReachable next → ProgressAt call old value stream i place → ProgressInside call old new stream j next
  progress-further {value} {i} {j} {place} {next}
      {reported} in_order within may_go_on may_go_on_inside reads performed is_reachable progress = record {
        performed =
            performed ∙ ap (λ v. after call.step v reported) progress.performed
            ∙ sym (after_events-append call.step old (reported_before call.limit stream call.bytes i) reported)
            ∙ ap (after call.step old) (sym (stretch-added call.limit stream call.bytes i j in_order
            ∙ ap (λ (events : List Event). reported_before call.limit stream call.bytes i ++ events)
            (added-leads progress.is_after reads is_reachable)));
        is_after =
            stretch-after call.limit stream call.bytes i j in_order next
            (after-leads progress.is_after reads is_reachable);
        earlier = λ asks k below start. elim (cases_lt k i) [
          | inl prefix ↦ progress.earlier asks k prefix start
          | inr from ↦ elim (cases_lt i k) [
            | inl past ↦ may_go_on_inside asks k past below
            | inr same ↦
                let same : k ≡ i = omega (arith, from, same) in
                subst (λ n. IsStart stream call.bytes n
                → call.is_terminated (after call.step old (reported_before call.limit stream call.bytes n)) ≡ false)
                (sym same) (λ s. ap call.is_terminated (sym progress.performed) ∙ may_go_on asks s) start
          ]
        ];
      }

  progress-one : {value new : V} {i b : ℕ} {place next : Place} {reported : List Event} → i < length call.bytes
      → b ≡ slice_index call.bytes i
      → (call.may_stop ≡ true → IsStart stream call.bytes i → call.is_terminated value ≡ false)
      → BytesLead call.limit place (b ∷ []) reported next → new ≡ after call.step value reported → IsReachable next
      → ProgressAt call old value stream i place → ProgressInside call old new stream (i + 1) next
  progress-one {i} {b} {place} {next} {reported} before_end byte_is may_go_on leads =
      let one = one_byte call.bytes i b before_end byte_is in
      progress-further (omega arith) (omega (arith, before_end)) may_go_on
      (λ asks k past below. absurd (omega (arith, past, below)))
      (subst (λ bytes. BytesLead call.limit place bytes reported next) (sym one) leads)

  -- If the performer may go on, a byte makes progress whatever it starts, even if it breaks a character.
  pub progress-byte : {value new : V} {i b : ℕ} {place next : Place} {reported : List Event} → i < length call.bytes
      → b ≡ slice_index call.bytes i → MayGoOn call value → BytesLead call.limit place (b ∷ []) reported next
      → new ≡ after call.step value reported → IsReachable next → ProgressAt call old value stream i place
      → ProgressInside call old new stream (i + 1) next
  progress-byte before_end byte_is may_go_on leads performed is_reachable progress =
      progress-one before_end byte_is (λ asks _. may_go_on asks) leads performed is_reachable progress

  -- A byte of an open character makes progress inside it.
  pub progress-extended : {value new : V} {i b : ℕ} {place next : Place} {reported : List Event} → IsReachable place
      → i < length call.bytes → b ≡ slice_index call.bytes i → (open_at place ≡ [] → ⊥)
      → breaks (open_at place) (b ∷ []) ≡ false → BytesLead call.limit place (b ∷ []) reported next
      → new ≡ after call.step value reported → IsReachable next → ProgressInside call old value stream i place
      → ProgressInside call old new stream (i + 1) next
  progress-extended {i} {b} {place} is_here before_end byte_is some_open unbroken leads performed is_reachable
      progress =
      let ends : open_character (stream ++ take i call.bytes) ≡ open_at place =
      after-open_character progress.is_after is_here in
      progress-one before_end byte_is
      (λ _ start. absurd (no_start before_end byte_is ends some_open unbroken start)) leads
      performed is_reachable
      (progress-unbroken (breaks_at-byte stream call.bytes i before_end byte_is ends ∙ unbroken) progress)

  -- Data bytes of a command make progress if the performer may go on before the first.
  pub progress-items : {value : V} {i : ℕ} (n : ℕ) (items : List ℕ) → i + n ≤ length call.bytes
      → ((k : ℕ) → i ≤ k → k < i + n → 0x20 ≤ slice_index call.bytes k) → MayGoOn call value
      → ProgressAt call old value stream i (InSystemCommand items)
      → ProgressAt call old value stream (i + n) (InSystemCommand (items ++ take n (drop i call.bytes)))
  progress-items {i} zero items within low may_go_on progress =
      let same : i + 0 ≡ i = omega arith in rw (append-nil items, same) progress
  progress-items {i} (suc n) items within low may_go_on progress =
      let here : i < length call.bytes = omega (arith, within) in
      let b : ℕ = slice_index call.bytes i in
      let is_item : 0x20 ≤ b = low i (omega arith) (omega arith) in
      let one = progress-settled tt tt (progress-byte here refl may_go_on (bytes_lead-item is_item) refl tt progress) in
      let rest =
      progress-items {i = i + 1} n (items ++ b ∷ []) (omega (arith, within))
      (λ k from to. low k (omega (arith, from)) (omega (arith, to))) may_go_on one in
      let far : i + suc n ≡ i + 1 + n = omega arith in
      rw (far, drop_more call.bytes i 0 here)
      (rw (append_assoc items (b ∷ []) (take n (drop (i + 1) call.bytes))) at rest)

  -- ---- the start of a call

  pub progress-nothing : {place : Place} → IsAfter call.limit stream place → ProgressInside call old old stream 0 place
  progress-nothing {place} is_after = search (rules, arith, added-nothing, append-nil)

  progress-back : {value : V} {i : ℕ} {place : Place} → breaks_at stream call.bytes i ≡ false
      → ProgressAt call old value stream i place → ProgressInside call old value stream i place
  progress-back {i} unbroken progress =
      rw
      (reported-settled call.limit stream call.bytes i unbroken, resumed_stream-settled stream call.bytes i unbroken) at
      progress

  -- In a command, no character was broken.
  pub progress-command : {value : V} {i : ℕ} {items : List ℕ}
      → ProgressAt call old value stream i (InSystemCommand items)
      → ProgressInside call old value stream i (InSystemCommand items)
  progress-command {value} {i} {items} progress = elim (cases_Bool (breaks_at stream call.bytes i)) [
    | inl broken ↦
        let is_after : IsAfter call.limit [] (InSystemCommand items) =
        subst (λ s. IsAfter call.limit s (InSystemCommand items)) (resumed_stream-broken stream call.bytes i broken)
        progress.is_after in
        let nothing_left =
        sym (after-to_close after-nothing refl)
        ∙ after-to_close is_after tt in
        let never : ⊥ = cc in absurd never
    | inr unbroken ↦ progress-back unbroken progress
  ]

  -- ---- where something starts

  pub progress-starts : {value : V} {i : ℕ} {place : Place} → IsReachable place → IsSettledPlace place
      → i < length call.bytes
      → ProgressAt call old value stream i place → IsStart stream call.bytes i
  progress-starts {i} {place} is_reachable settled before_end progress =
      search (
        rules,
        arith,
        starts-broken,
        starts-settled,
        resumed_stream-settled,
        after-open_character,
        open_at-settled,
      )

  -- ---- the end of a call

  -- A call that may stop ensures its public clauses: `starts` comes from the loop's exit.
  pub progress-comes : {value : V} {n : ℕ} {place : Place} → call.may_stop ≡ true → n ≤ length call.bytes
      → (n < length call.bytes → IsStart stream call.bytes n) → ProgressAt call old value stream n place
      → ComesTo call.step call.is_terminated old call.limit stream call.bytes value n
  progress-comes {n} may_stop within starts progress =
      let unread : List ℕ = drop n call.bytes in
      record {
        within = within;
        performed = progress.performed;
        earlier = progress.earlier may_stop;
        starts = starts;
        rest_completes =
            ap (λ v. after call.step v
            (added call.limit (resumed_stream stream call.bytes n) unread)) progress.performed
            ∙ sym (after_events-append call.step old (reported_before call.limit stream call.bytes n)
            (added call.limit (resumed_stream stream call.bytes n) unread))
            ∙ ap (after call.step old)
            (ap (λ bytes. reported_before call.limit stream call.bytes n
            ++ added call.limit (resumed_stream stream call.bytes n) bytes)
            (sym (append-nil unread)) ∙ sym (goes_on_from call.limit stream call.bytes [] n)
            ∙ ap (added call.limit stream) (append-nil call.bytes));
      }

  -- A call that has read all bytes has reported all their events.
  pub progress-all_read : {value : V} {n : ℕ} {place : Place} → n ≡ length call.bytes
      → ProgressAt call old value stream n place → value ≡ after call.step old (added call.limit stream call.bytes)
  progress-all_read {n} all progress =
      progress.performed ∙ ap (after call.step old) (reported-all call.limit stream call.bytes n all)
