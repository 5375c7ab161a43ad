-- What the last three bytes say of the automaton's state (`IsAllowedAfter`). Bytes that pass the tests of a block
-- keep it (`allowed-after`, `leads-window`), so three bytes say where the last character ends (`run-before-open`).
use Rattle.vte_core.proofs.Common.{ap, arith, Bool, cases_Bool, cases_lt, drop, false, from_to, get_or-drop, inl, inr, is_in, is_layout, IsUtf8Run, length, length-drop, List, nat_tests, Range, refl, rules, slice_index, subst, suc, sym, take, take-add, true, zero, ℕ, [], ◌+◌, ◌-◌, ◌<◌, ◌∙◌, ◌∷◌, ◌≡◌, ◌≢◌, ◌≤◌}
use Rattle.vte_core.proofs.lemmas.automaton_states.Scanned.{next_state-failed, phase, phase-between, phase-failed, phase-waiting, so_far-all, state_after-append, state_after-next}
use Rattle.vte_core.proofs.lemmas.bytes.Each.{block-byte, each-both}
use Rattle.vte_core.specs.declared.reader.Window.{Window}
use Rattle.vte_core.specs.private.Automaton.{AfterC2, AfterE0, AfterED, AfterF0, AfterF4, AutomatonState, BetweenCharacters, Failed, Follows, FollowsAt, IsAllowedAfter, NeedsOne, NeedsThree, NeedsTwo, next_between_characters, next_if_in, next_state, open_count, state_after, StaysBetweenCharacters}
use Rattle.vte_core.specs.private.Runs.{Each}
use Rattle.vte_core.specs.private.Scans.{IsWindow}

-- The tests of a byte after three others. A byte begins a character only outside of one, and continues one only inside.
pub record Fits (three_back two_back one_back byte : ℕ) : Type 0 where
  pub begins_outside : is_in (from_to 0x80 0xbf) byte ≡ false
      → (one_back < 0xc0) × (two_back < 0xe0) × (three_back < 0xf0)
  pub continues_inside : is_in (from_to 0x80 0xbf) byte ≡ true → one_back < 0xc0 → two_back < 0xe0 → 0xf0 ≤ three_back
  pub control_is_layout : byte < 0x20 → is_layout byte ≡ true
  pub lead_is_used : 0xc0 ≤ byte → (0xc2 ≤ byte) × (byte < 0xf5)
  pub from_a0_after_e0 : one_back ≡ 0xe0 → 0xa0 ≤ byte
  pub below_a0_after_ed : one_back ≡ 0xed → byte < 0xa0
  pub from_90_after_f0 : one_back ≡ 0xf0 → 0x90 ≤ byte
  pub below_90_after_f4 : one_back ≡ 0xf4 → byte < 0x90
  pub from_a0_after_c2 : one_back ≡ 0xc2 → 0xa0 ≤ byte

module _ (three_back two_back one_back b : ℕ) (fit : Fits three_back two_back one_back b) where
  allowed-in_range : (range : Range) (next : AutomatonState) → is_in range b ≡ true
      → IsAllowedAfter next two_back one_back b
      → IsAllowedAfter (next_if_in range next b) two_back one_back b
  allowed-in_range range next fits trails = rw fits trails

  byte-after_lead : 0xc0 ≤ one_back → is_in (from_to 0x80 0xbf) b ≡ true
  byte-after_lead high = search (rules, arith)

  -- A byte that fits continues a character unless none is open.
  byte-continues : ((one_back < 0xc0) × (two_back < 0xe0) × (three_back < 0xf0) → ⊥)
      → is_in (from_to 0x80 0xbf) b ≡ true
  byte-continues is_open = elim (cases_Bool (is_in (from_to 0x80 0xbf) b)) [
    | inl continues ↦ continues
    | inr begins ↦ absurd (is_open (fit.begins_outside begins))
  ]

  allowed-after_between : IsAllowedAfter BetweenCharacters three_back two_back one_back
      → IsAllowedAfter (next_between_characters b) two_back one_back b
  allowed-after_between old = search (rules, arith)

  -- In each state, a byte that fits is in the range that the state wants, so it leads on.
  pub allowed-after : (state : AutomatonState) → IsAllowedAfter state three_back two_back one_back
      → IsAllowedAfter (next_state state b) two_back one_back b
  unfolding next_state
  allowed-after BetweenCharacters old = allowed-after_between old
  allowed-after NeedsOne old =
      let continues = byte-continues (λ closed. omega (arith, old.0 closed.0 closed.1, closed.2)) in
      allowed-in_range (from_to 0x80 0xbf) BetweenCharacters continues
      (grind (arith, nat_tests, continues), old.1, old.2)
  allowed-after NeedsTwo old =
      let continues = byte-continues (λ closed. omega (arith, old.0 (omega (arith, closed.0)), closed.1)) in
      allowed-in_range (from_to 0x80 0xbf) NeedsOne continues
      ((λ _ low. old.0 low), grind (arith, nat_tests, continues), old.1)
  allowed-after NeedsThree old =
      let continues = byte-after_lead (omega (arith, old)) in
      allowed-in_range (from_to 0x80 0xbf) NeedsTwo continues ((λ _. old), grind (arith, nat_tests, continues))
  allowed-after AfterE0 old =
      let continues = byte-after_lead (omega (arith, old)) in
      let low = fit.from_a0_after_e0 old in
      allowed-in_range (from_to 0xa0 0xbf) NeedsOne (grind (arith, nat_tests, continues, low))
      ((λ _ below. absurd (omega (arith, old, below))), grind (arith, nat_tests, continues), omega (arith, old))
  allowed-after AfterED old =
      let continues = byte-after_lead (omega (arith, old)) in
      let high = fit.below_a0_after_ed old in
      allowed-in_range (from_to 0x80 0x9f) NeedsOne (grind (arith, nat_tests, continues, high))
      ((λ _ below. absurd (omega (arith, old, below))), grind (arith, nat_tests, continues), omega (arith, old))
  allowed-after AfterF0 old =
      let continues = byte-after_lead (omega (arith, old)) in
      let low = fit.from_90_after_f0 old in
      allowed-in_range (from_to 0x90 0xbf) NeedsTwo (grind (arith, nat_tests, continues, low))
      ((λ _. omega (arith, old)), grind (arith, nat_tests, continues))
  allowed-after AfterF4 old =
      let continues = byte-after_lead (omega (arith, old)) in
      let high = fit.below_90_after_f4 old in
      allowed-in_range (from_to 0x80 0x8f) NeedsTwo (grind (arith, nat_tests, continues, high))
      ((λ _. omega (arith, old)), grind (arith, nat_tests, continues))
  allowed-after AfterC2 old =
      let continues = byte-after_lead (omega (arith, old.0)) in
      let low = fit.from_a0_after_c2 old.0 in
      allowed-in_range (from_to 0xa0 0xbf) BetweenCharacters (grind (arith, nat_tests, continues, low))
      (grind (arith, nat_tests, continues), omega (arith, old.0), old.1)
  allowed-after Failed old = absurd old

-- ---- positions

-- The bytes from one position up to another led to a state that the last three of them say.
abbrev pub IsAllowedAt : List ℕ → ℕ → ℕ → Type 0
IsAllowedAt bytes from i =
    IsAllowedAfter (state_after BetweenCharacters (take (i - from) (drop from bytes))) (slice_index bytes (i - 3))
    (slice_index bytes (i - 2)) (slice_index bytes (i - 1))

state-next : (bytes : List ℕ) (from i : ℕ) → from ≤ i → i < length bytes
    → state_after BetweenCharacters (take (i + 1 - from) (drop from bytes))
    ≡ next_state (state_after BetweenCharacters (take (i - from) (drop from bytes))) (slice_index bytes i)
state-next bytes from i low before_end = search (rules, arith, get_or-drop, state_after-next, length-drop)

allowed-next : (layout : Bool) (bytes : List ℕ) (from i : ℕ) → from ≤ i → i < length bytes → IsAllowedAt bytes from i
    → Follows layout (slice_index bytes (i - 3)) (slice_index bytes (i - 2)) (slice_index bytes (i - 1))
    (slice_index bytes i)
    → IsAllowedAt bytes from (i + 1)
allowed-next layout bytes from i low before_end old fit = search (rules, arith, state-next)

module _ {layout : Bool} {bytes : List ℕ} {window : Window} {from i : ℕ} (early : 3 ≤ from) (low : from ≤ i)
    (is_window : IsWindow bytes (i - 3) window) (fit : (k : ℕ) → k < 16 → FollowsAt layout window k) where
  byte-of_block : (block : List ℕ) (start k m : ℕ) → block ≡ take 16 (drop start bytes) → k < 16 → start + k ≡ m
      → slice_index block k ≡ slice_index bytes m
  byte-of_block block start k m block_is below position_is =
      block-byte bytes block start 16 k block_is below ∙ ap (slice_index bytes) position_is

  follows-here : (k : ℕ) → k < 16
      → Follows layout (slice_index bytes (i + k - 3)) (slice_index bytes (i + k - 2))
      (slice_index bytes (i + k - 1)) (slice_index bytes (i + k))
  follows-here k below =
      let three_back =
      byte-of_block window.three_back (i - 3) k (i + k - 3) is_window.three_back below (omega (arith, early, low)) in
      let two_back =
      byte-of_block window.two_back (i - 3 + 1) k (i + k - 2) is_window.two_back below (omega (arith, early, low)) in
      let one_back =
      byte-of_block window.one_back (i - 3 + 2) k (i + k - 1) is_window.one_back below (omega (arith, early, low)) in
      let byte =
      byte-of_block window.current (i - 3 + 3) k (i + k) is_window.current below (omega (arith, early, low)) in
      rw (sym three_back, sym two_back, sym one_back, sym byte) (fit k below)

  leads-byte : IsAllowedAt bytes from i → (n : ℕ) → n ≤ 16 → IsAllowedAt bytes from (i + n)
  leads-byte old zero at_most = subst (IsAllowedAt bytes from) (let same : i ≡ i + 0 = omega arith in same) old
  leads-byte old (suc n) at_most =
      subst (IsAllowedAt bytes from) (let same : i + n + 1 ≡ i + suc n = omega arith in same)
      (allowed-next layout bytes from (i + n) (omega (arith, low))
      (omega (arith, is_window.within, early, low, at_most))
      (leads-byte old n (omega (arith, at_most))) (follows-here n (omega (arith, at_most))))

  -- Its bytes lead from a state that the three before them say to such a state.
  pub leads-window : IsAllowedAt bytes from i → IsAllowedAt bytes from (i + 16)
  leads-window old = leads-byte old 16 (omega arith)

  pub above-window : layout ≡ false → Each (λ byte. 0x20 ≤ byte) bytes from i
      → Each (λ byte. 0x20 ≤ byte) bytes from (i + 16)
  above-window no_layout old =
      each-both (λ byte. 0x20 ≤ byte) bytes from i (i + 16) old
      (λ k past before.
      let below : k - i < 16 = omega (arith, past, before) in
      let position_is : i + (k - i) ≡ k = omega (arith, past) in
      subst (λ n. 0x20 ≤ slice_index bytes n) position_is ((follows-here (k - i) below).above no_layout))

-- ---- ASCII

-- No character is open at the position.
record IsClosed (bytes : List ℕ) (from i : ℕ) : Type 0 where
  between : state_after BetweenCharacters (take (i - from) (drop from bytes)) ≡ BetweenCharacters
  one_back : slice_index bytes (i - 1) < 0xc0
  two_back : slice_index bytes (i - 2) < 0xe0
  three_back : slice_index bytes (i - 3) < 0xf0

closed-allowed : (bytes : List ℕ) (from i : ℕ) → IsClosed bytes from i → IsAllowedAt bytes from i
closed-allowed bytes from i closed = search (rules, arith)

closed-next : (bytes : List ℕ) (from i : ℕ) → from ≤ i → i < length bytes
    → IsClosed bytes from i → StaysBetweenCharacters (slice_index bytes i) → IsClosed bytes from (i + 1)
unfolding next_state
closed-next bytes from i low before_end old plain = search (rules, arith, state-next)

closed-further : (bytes : List ℕ) (from i to : ℕ) → from ≤ i → to ≤ length bytes
    → Each StaysBetweenCharacters bytes i to → IsClosed bytes from i → (n : ℕ) → i + n ≤ to
    → IsClosed bytes from (i + n)
closed-further bytes from i to low within plain old zero at_most =
    subst (IsClosed bytes from) (let same : i ≡ i + 0 = omega arith in same) old
closed-further bytes from i to low within plain old (suc n) at_most =
    subst (IsClosed bytes from) (let same : i + n + 1 ≡ i + suc n = omega arith in same)
    (closed-next bytes from (i + n) (omega (arith, low)) (omega (arith, within, at_most))
    (closed-further bytes from i to low within plain old n (omega (arith, at_most)))
    (plain (i + n) (omega arith) (omega (arith, at_most))))

-- ---- where the last character ends

-- An automaton that has not failed was between characters before each lead byte, so all before such a byte is a run.

failed-for_good : (bytes : List ℕ) → state_after Failed bytes ≡ Failed
unfolding next_state
failed-for_good [] = refl
failed-for_good (b ∷ bytes) = failed-for_good bytes

not_yet_failed : (text : List ℕ) (m n : ℕ) → m ≤ n → state_after BetweenCharacters (take n text) ≢ Failed
    → state_after BetweenCharacters (take m text) ≢ Failed
not_yet_failed text m n low going failed =
    let size : n ≡ m + (n - m) = omega (arith, low) in
    going
    (ap (λ k. state_after BetweenCharacters (take k text)) size
    ∙ ap (state_after BetweenCharacters) (take-add m (n - m) text)
    ∙ state_after-append BetweenCharacters (take m text) (take (n - m) (drop m text))
    ∙ ap (λ s. state_after s (take (n - m) (drop m text))) failed
    ∙ failed-for_good (take (n - m) (drop m text)))

-- A byte from C0 on is accepted only between characters.
only-between : (s : AutomatonState) (b : ℕ) → 0xc0 ≤ b → next_state s b ≢ Failed → s ≡ BetweenCharacters
only-between s b high going = elim (phase s) [
  | phase-between same ↦ same
  | phase-failed same ↦ absurd (going (ap (λ v. next_state v b) same ∙ next_state-failed b))
  | phase-waiting t range _ last _ steps ↦
      let out : is_in range b ≡ false = grind (arith, nat_tests, last, high) in
      absurd (going (steps b ∙ rw out refl))
]

between-before : (text : List ℕ) (m n : ℕ) → m < n → n ≤ length text
    → state_after BetweenCharacters (take n text) ≢ Failed
    → 0xc0 ≤ slice_index text m → state_after BetweenCharacters (take m text) ≡ BetweenCharacters
between-before text m n low within going high =
    only-between (state_after BetweenCharacters (take m text)) (slice_index text m) high
    (λ failed.
    not_yet_failed text (m + 1) n (omega (arith, low)) going
    (state_after-next text m (omega (arith, low, within)) ∙ failed))

allowed-going : (s : AutomatonState) (three_back two_back one_back : ℕ) → IsAllowedAfter s three_back two_back one_back
    → s ≢ Failed
allowed-going Failed three_back two_back one_back trails failed = trails
allowed-going _ three_back two_back one_back trails failed = cc

allowed-between : (s : AutomatonState) (three_back two_back one_back : ℕ)
    → IsAllowedAfter s three_back two_back one_back
    → one_back < 0xc0 → two_back < 0xe0 → three_back < 0xf0 → s ≡ BetweenCharacters
allowed-between s three_back two_back one_back trails one_low two_low three_low = search (rules, arith)

-- Bytes of ASCII that no character is open before lead on.
pub allowed-ascii : (bytes : List ℕ) (from i to : ℕ) → from ≤ i → i ≤ to → to ≤ length bytes
    → IsAllowedAt bytes from i
    → (i < to → open_count (slice_index bytes (i - 3)) (slice_index bytes (i - 2)) (slice_index bytes (i - 1)) ≡ 0)
    → Each StaysBetweenCharacters bytes i to → IsAllowedAt bytes from to
allowed-ascii bytes from i to low more within old closed plain = elim (cases_lt i to) [
  | inr at_end ↦ subst (IsAllowedAt bytes from) (let same : i ≡ to = omega (arith, more, at_end) in same) old
  | inl before_end ↦
      let none_open = closed before_end in
      let one_back : slice_index bytes (i - 1) < 0xc0 = grind (arith, nat_tests, none_open) in
      let two_back : slice_index bytes (i - 2) < 0xe0 = grind (arith, nat_tests, none_open, one_back) in
      let three_back : slice_index bytes (i - 3) < 0xf0 = grind (arith, nat_tests, none_open, one_back, two_back) in
      let here : IsClosed bytes from i = record {
        between = allowed-between _ _ _ _ old one_back two_back three_back;
        one_back = one_back;
        two_back = two_back;
        three_back = three_back;
      } in
      subst (IsAllowedAt bytes from) (let same : i + (to - i) ≡ to = omega (arith, more) in same)
      (closed-allowed bytes from (i + (to - i))
      (closed-further bytes from i to low within plain here (to - i) (omega (arith, more))))
]

module _ (bytes : List ℕ) (from i : ℕ) (far : from + 3 ≤ i) (within : i ≤ length bytes)
    (leads : IsAllowedAt bytes from i) where
  -- The bytes from the start of the run on.
  abbrev text : List ℕ
  text = drop from bytes

  run-at : (end : ℕ) → from ≤ end → end ≤ i → state_after BetweenCharacters (take (end - from) text) ≡ BetweenCharacters
      → IsUtf8Run true (take (end - from) text)
  run-at end low high between =
      let read =
      so_far-all text (end - from) (omega (arith, length-drop from bytes, low, high, within))
      (subst (λ state. state ≢ Failed) (sym between) (λ failed. cc)) in
      subst (λ n. IsUtf8Run true (take n text)) (read.settled between) read.utf8_run

  run-before-lead : (end : ℕ) → from ≤ end → end < i → 0xc0 ≤ slice_index bytes end
      → IsUtf8Run true (take (end - from) text)
  run-before-lead end low below high =
      let place : from + (end - from) ≡ end = omega (arith, low) in
      let byte : slice_index text (end - from) ≡ slice_index bytes end =
      get_or-drop from bytes (end - from) 0 ∙ ap (slice_index bytes) place in
      run-at end low (omega (arith, below))
      (between-before text (end - from) (i - from) (omega (arith, low, below))
      (omega (arith, length-drop from bytes, within))
      (allowed-going _ _ _ _ leads) (omega (arith, byte, high)))

  pub run-before-open : (count : ℕ)
      → count ≡ open_count (slice_index bytes (i - 3)) (slice_index bytes (i - 2)) (slice_index bytes (i - 1))
      → (count ≤ 3) × IsUtf8Run true (take (i - count - from) text)
  run-before-open count count_is = elim (cases_lt (slice_index bytes (i - 1)) 0xc0) [
    | inr lead ↦
        let one : count ≡ 1 = count_is ∙ grind (arith, nat_tests, lead) in
        rw one (omega arith, run-before-lead (i - 1) (omega (arith, far)) (omega (arith, far)) lead)
    | inl one_low ↦ elim (cases_lt (slice_index bytes (i - 2)) 0xe0) [
      | inr lead ↦
          let two : count ≡ 2 = count_is ∙ grind (arith, nat_tests, one_low, lead) in
          rw two
          (omega arith, run-before-lead (i - 2) (omega (arith, far)) (omega (arith, far)) (omega (arith, lead)))
      | inl two_low ↦ elim (cases_lt (slice_index bytes (i - 3)) 0xf0) [
        | inr lead ↦
            let three : count ≡ 3 = count_is ∙ grind (arith, nat_tests, one_low, two_low, lead) in
            rw three
            (omega arith, run-before-lead (i - 3) (omega (arith, far)) (omega (arith, far)) (omega (arith, lead)))
        | inl three_low ↦
            let none_open : count ≡ 0 = count_is ∙ grind (arith, nat_tests, one_low, two_low, three_low) in
            let here : i ≡ i - count = omega (arith, none_open) in (
              omega (arith, none_open),
              subst (λ end. IsUtf8Run true (take (end - from) text)) here
                  (run-at i (omega (arith, far)) (omega arith)
                  (allowed-between _ _ _ _ leads one_low two_low three_low)),
            )
      ]
    ]
  ]
