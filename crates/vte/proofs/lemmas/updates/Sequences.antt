-- The two sequences of updates in a text, and the parts after them. Both have eight bytes and one ESC, so they never
-- overlap; without an end-update in the older bytes, their last seven decide as all of them would.
use Rattle.std.specs.Prelude.{is_some, nat_lt}
use Rattle.vte.proofs.Common.{after_last_end, after_word, ap, arith, begin_update, begins_ending_in_last, cases_Bool, cases_lt, drop, drop-drop, end_update, false, from_begin_update, inl, inr, is_prefix_of, length, length-append, length-drop, List, nat_tests, None, Option, refl, rules, Some, still_held, suc, sym, true, zero, zero-add, ℕ, [], ◌++◌, ◌+◌, ◌-◌, ◌<◌, ◌∷◌, ◌≡◌, ◌≤◌, ◌⊎◌}

-- An `Option` by cases, for `elim`.
pub cases_Option : {A : Type 0} (option : Option A) → (option ≡ None) ⊎ ((x : A) × (option ≡ Some x))
cases_Option None = inl refl
cases_Option (Some x) = inr (x, refl)

pub none_from_is_some : {A : Type 0} (option : Option A) → is_some option ≡ false → option ≡ None
none_from_is_some None is_not_some = refl
none_from_is_some (Some x) is_not_some = cc

-- ---- a sequence at the front

-- After a sequence at the front comes the text without its bytes.
pub after_word-whole : (sequence text : List ℕ) → is_prefix_of sequence text ≡ true
    → after_word sequence text ≡ Some (drop (length sequence) text)
after_word-whole [] text begins = refl
after_word-whole (a ∷ sequence) [] begins = cc
after_word-whole (a ∷ sequence) (b ∷ text) begins = grind (arith, after_word-whole sequence text)

-- A sequence isn't at the front if what follows its first byte doesn't follow that of the text.
pub is_prefix_of-further : (first b : ℕ) (sequence text : List ℕ) → is_prefix_of sequence text ≡ false
    → is_prefix_of (first ∷ sequence) (b ∷ text) ≡ false
is_prefix_of-further first b sequence text differs = grind (arith, differs)

-- A text that begins with a sequence is the sequence and what follows it.
pub is_prefix_of-is : (sequence text : List ℕ) → is_prefix_of sequence text ≡ true
    → text ≡ sequence ++ drop (length sequence) text
is_prefix_of-is [] text begins = refl
is_prefix_of-is (a ∷ sequence) [] begins = cc
is_prefix_of-is (a ∷ sequence) (b ∷ text) begins = grind (arith, nat_tests, is_prefix_of-is sequence text)

-- A text has at least the bytes of a sequence at its front.
pub is_prefix_of-length : (sequence text : List ℕ) → is_prefix_of sequence text ≡ true → length sequence ≤ length text
is_prefix_of-length [] text begins = omega arith
is_prefix_of-length (a ∷ sequence) [] begins = cc
is_prefix_of-length (a ∷ sequence) (b ∷ text) begins = grind (arith, nat_tests, is_prefix_of-length sequence text)

-- More bytes don't matter if there are enough.
is_prefix_of-more : (sequence text more : List ℕ) → length sequence ≤ length text
    → is_prefix_of sequence (text ++ more) ≡ is_prefix_of sequence text
is_prefix_of-more [] text more long = refl
is_prefix_of-more (a ∷ sequence) [] more long = absurd (omega arith)
is_prefix_of-more (a ∷ sequence) (b ∷ text) more long = grind (arith, is_prefix_of-more sequence text more)

-- A sequence at the front stays there, whatever follows the text.
pub is_prefix_of-append : (sequence text more : List ℕ) → is_prefix_of sequence text ≡ true
    → is_prefix_of sequence (text ++ more) ≡ true
is_prefix_of-append sequence text more begins =
    grind (arith, is_prefix_of-length sequence text, is_prefix_of-more sequence text more)

-- No update begins inside an end-update.
pub from_begin-end_skipped : (n b : ℕ) (text : List ℕ) → is_prefix_of end_update (b ∷ text) ≡ true
    → (from_begin_update text ≡ from_begin_update (drop 7 text))
    × (begins_ending_in_last n text ≡ begins_ending_in_last n (drop 7 text))
from_begin-end_skipped n b text begins = search (rules, arith)

-- ---- what follows the last end-update, and what stays held, is the end of the text

-- The part is the text without its first bytes.
pub record IsSuffix (part text : List ℕ) : Type 0 where
  pub prefix : ℕ
  pub within : prefix ≤ length text
  pub part_is : part ≡ drop prefix text

suffix-all : {text : List ℕ} → IsSuffix text text
suffix-all = record { prefix = 0; within = omega arith; part_is = refl }

-- A suffix and what precedes it are the text.
pub suffix-length : {part text : List ℕ} → (suffix : IsSuffix part text) → suffix.prefix + length part ≡ length text
suffix-length {part} {text} suffix =
    omega (arith, suffix.within, ap length suffix.part_is, length-drop suffix.prefix text)

suffix-trans : {part middle text : List ℕ} → IsSuffix part middle → IsSuffix middle text → IsSuffix part text
suffix-trans {text} suffix further = record {
  prefix = further.prefix + suffix.prefix;
  within = omega (arith, suffix.within, suffix-length further);
  part_is = cc (suffix.part_is, further.part_is, drop-drop suffix.prefix further.prefix text);
}

suffix-more : {part text : List ℕ} (b : ℕ) → IsSuffix part text → IsSuffix part (b ∷ text)
suffix-more b suffix =
    record { prefix = suc suffix.prefix; within = omega (arith, suffix.within); part_is = suffix.part_is }

-- Without an end-update in a text there is none in its parts.
after_last_end-drop : (n : ℕ) (text : List ℕ) → after_last_end text ≡ None → after_last_end (drop n text) ≡ None
after_last_end-drop zero text no_end = no_end
after_last_end-drop (suc n) [] no_end = no_end
after_last_end-drop (suc n) (b ∷ text) no_end = grind (arith, after_last_end-drop n text)

-- What is after the last end-update has none.
pub record FollowsLastEnd (rest text : List ℕ) : Type 0 where
  pub suffix : IsSuffix rest text
  pub no_end : after_last_end rest ≡ None

follows_last_end : (text rest : List ℕ) → after_last_end text ≡ Some rest → FollowsLastEnd rest text
follows_last_end [] rest is_last = cc
follows_last_end (b ∷ text) rest is_last = elim (cases_Option (after_last_end text)) [
  | inl no_later_end ↦
      let end_here : after_word end_update (b ∷ text) ≡ Some rest = rw no_later_end at is_last in
      let begins : is_prefix_of end_update (b ∷ text) ≡ true = rw end_here refl in
      let rest_is : rest ≡ drop 7 text = cc (end_here, after_word-whole end_update (b ∷ text) begins) in
      record {
        suffix = record { prefix = 8; within = is_prefix_of-length end_update (b ∷ text) begins; part_is = rest_is };
        no_end = rw rest_is (after_last_end-drop 7 text no_later_end);
      }
  | inr later ↦
      let follows = follows_last_end text rest (grind arith) in
      record { suffix = suffix-more b follows.suffix; no_end = follows.no_end }
]

-- What is found from the earliest begin-update on starts with it.
pub record StartsAtBegin (kept text : List ℕ) : Type 0 where
  pub suffix : IsSuffix kept text
  pub begins : 0 < length kept → is_prefix_of begin_update kept ≡ true

starts_at_begin : (text : List ℕ) → StartsAtBegin (from_begin_update text) text
starts_at_begin [] = record { suffix = suffix-all; begins = λ some_kept. absurd (omega arith) }
starts_at_begin (b ∷ text) = elim (cases_Bool (is_prefix_of begin_update (b ∷ text))) [
  | inl here ↦ rw here (record { suffix = suffix-all; begins = λ some_kept. here })
  | inr later ↦
      let start = starts_at_begin text in
      rw later (record { suffix = suffix-more b start.suffix; begins = start.begins })
]

-- What stays held is all of it, or what starts with a begin-update.
pub record StaysHeld (held kept : List ℕ) : Type 0 where
  pub suffix : IsSuffix kept held
  pub no_end : after_last_end kept ≡ None
  pub begins : (kept ≡ held) ⊎ (0 < length kept → is_prefix_of begin_update kept ≡ true)

-- By whether there is an end-update.
pub stays_held : (held : List ℕ) → StaysHeld held (still_held held)
stays_held held = elim (cases_Option (after_last_end held)) [
  | inl no_end ↦ rw no_end (record { suffix = suffix-all; no_end = no_end; begins = inl refl })
  | inr last_end ↦
      let follows = follows_last_end held last_end.0 last_end.1 in
      let starts = starts_at_begin last_end.0 in
      rw last_end.1 (record {
        suffix = suffix-trans starts.suffix follows.suffix;
        no_end = rw starts.suffix.part_is (after_last_end-drop starts.suffix.prefix _ follows.no_end);
        begins = inr starts.begins;
      })
]

-- So the length of what stays held tells what it is.
pub stays-is : (held : List ℕ) → drop (length held - length (still_held held)) held ≡ still_held held
stays-is held =
    let suffix = (stays_held held).suffix in
    let prefix : length held - length (still_held held) ≡ suffix.prefix = omega (arith, suffix-length suffix) in
    rw prefix (sym suffix.part_is)

-- ---- the last seven of the older bytes suffice, if no end-update is in them

-- An end-update that begins eight bytes before the end of the older ones would be in them.
is_prefix_of-no_end : (b : ℕ) (old more : List ℕ) → 7 ≤ length old → after_last_end (b ∷ old) ≡ None
    → is_prefix_of end_update (b ∷ (old ++ more)) ≡ false
is_prefix_of-no_end b old more long no_end = grind (arith, is_prefix_of-more end_update (b ∷ old) more (omega arith))

-- The last end-update, if any, begins among the last seven of the older bytes or the new ones.
pub after_last_end-tail : (old more : List ℕ) → after_last_end old ≡ None
    → after_last_end (old ++ more) ≡ after_last_end (drop (length old - 7) (old ++ more))
after_last_end-tail [] more no_end = refl
after_last_end-tail (b ∷ old) more no_end = elim (cases_lt (length old) 7) [
  | inl at_most ↦ let same : suc (length old) - 7 ≡ 0 = omega arith in rw same
  | inr many ↦
      let same : suc (length old) - 7 ≡ suc (length old - 7) = omega arith in
      let none_here = none_from_is_some _ (is_prefix_of-no_end b old more many no_end) in
      rw same (grind (arith, none_here, after_last_end-tail old more))
]

-- A begin-update ends among the last n bytes only if it begins among these and the seven before
-- them.
pub begins_ending_in_last-tail : {n : ℕ} (old more : List ℕ) → length more ≡ n
    → begins_ending_in_last n (old ++ more) ≡ begins_ending_in_last n (drop (length old - 7) (old ++ more))
begins_ending_in_last-tail [] more count_is = refl
begins_ending_in_last-tail {n} (b ∷ old) more count_is = elim (cases_lt (length old) 7) [
  | inl at_most ↦ let same : suc (length old) - 7 ≡ 0 = omega arith in rw same
  | inr many ↦
      let same : suc (length old) - 7 ≡ suc (length old - 7) = omega arith in
      let far : nat_lt (length (drop 7 (old ++ more))) n ≡ false =
      rw (length-drop, length-append) (grind (arith, nat_tests)) in
      let tail = begins_ending_in_last-tail old more count_is in
      rw same (elim (cases_Bool (is_prefix_of begin_update (b ∷ (old ++ more)))) [
        | inl here ↦ rw (after_word-whole begin_update (b ∷ (old ++ more)) here, far, zero-add) tail
        | inr differs ↦ rw (none_from_is_some _ differs, zero-add) tail
      ])
]
