-- How stored lengths cut numbers into groups (`stored_groups`), also with one more number (`IsPushed`). By induction
-- over the lengths. Where none are stored, the lengths are all 1.
use Rattle.std.proofs.lemmas.List.{length-replicate, length-take-le, replicate_more}
use Rattle.std.proofs.lemmas.List.Elements.{All-replicate}
use Rattle.std.proofs.lemmas.List.Folds.{sum_by-replicate}
use Rattle.std.specs.Option.{unwrap_or}
use Rattle.std.specs.Prelude.{option_to_list, replicate}
use Rattle.vte_core.proofs.Common.{All, All-cons, All-drop, All-head, All-nil, All-pop, All-push, All-tail, All-take, AllFitU16, ap, append-nil, append_assoc, AreGroups, arith, Bool, count_of, drop, drop-append-le, drop_all, false, FitsU16, get_or, IsNonEmpty, length, length-append, length-drop, List, max_numbers, None, Number, numbers, Option, refl, rules, Some, subst, suc, sum, sum_by-cons, sum_by-take-le, sum_by_push, sym, take, take-append-drop, take-append-le, take_all, take_more, true, with_number, ℕ, [], ◌++◌, ◌+◌, ◌<◌, ◌∙◌, ◌∷◌, ◌≡◌, ◌≤◌}
use Rattle.vte_core.specs.private.FlatGroups.{AreFlatGroups, AreLengths, AreStoredLengths, cut_by_lengths, lengths_of, stored_groups}

-- ---- groups cut by lengths

-- A number, and whether it joins the group before it.
abbrev pub numbered : Bool → ℕ → Number
numbered joined value = record { joined = joined; value = value }

-- There are at most as many lengths as their sum, as none is 0.
length-at_most_sum : (lengths : List ℕ) → All (λ n. 0 < n) lengths → length lengths ≤ sum lengths
length-at_most_sum [] filled = omega arith
length-at_most_sum (n ∷ lengths) filled =
    let more = length-at_most_sum lengths (All-tail (λ m. 0 < m) n lengths filled) in
    omega (arith, more, All-head (λ m. 0 < m) n lengths filled, sum_by-cons (λ (m : ℕ). m) n lengths)

-- The first length takes its part, and the others take up the rest.
sum_rest : (n : ℕ) (lengths numbers : List ℕ) → sum (n ∷ lengths) ≡ length numbers
    → (n ≤ length numbers) × (sum lengths ≡ length (drop n numbers))
sum_rest n lengths numbers sum_is =
    let apart : sum (n ∷ lengths) ≡ n + sum lengths = sum_by-cons (λ (m : ℕ). m) n lengths in
    (omega arith, omega (arith, length-drop n numbers))

-- The lengths after the first are those of the numbers after its own.
AreLengths-rest : {n : ℕ} {lengths numbers : List ℕ} → AreLengths (n ∷ lengths) numbers
    → AreLengths lengths (drop n numbers)
AreLengths-rest {n} {lengths} {numbers} are_lengths = record {
  sum_is = (sum_rest n lengths numbers are_lengths.sum_is).1;
  filled = All-tail (λ m. 0 < m) n lengths are_lengths.filled;
}

-- Each length gives one group.
length-cut_by_lengths : (lengths numbers : List ℕ) → length (cut_by_lengths lengths numbers) ≡ length lengths
length-cut_by_lengths [] numbers = refl
length-cut_by_lengths (n ∷ lengths) numbers = ap suc (length-cut_by_lengths lengths (drop n numbers))

-- Lengths that cover the numbers lose none of them.
pub count_of-cut_by_lengths : {lengths numbers : List ℕ} → AreLengths lengths numbers
    → count_of (cut_by_lengths lengths numbers) ≡ length numbers
count_of-cut_by_lengths {lengths = []} are_lengths = are_lengths.sum_is
count_of-cut_by_lengths {lengths = n ∷ lengths} {numbers} are_lengths =
    let rest = sum_rest n lengths numbers are_lengths.sum_is in
    let more = count_of-cut_by_lengths (AreLengths-rest are_lengths) in
    omega (
      arith,
      rest,
      more,
      length-take-le n numbers rest.0,
      length-drop n numbers,
      sum_by-cons length (take n numbers)
          (cut_by_lengths lengths (drop n numbers)),
    )

filled-cut_by_lengths : {lengths numbers : List ℕ} → AreLengths lengths numbers
    → All IsNonEmpty (cut_by_lengths lengths numbers)
filled-cut_by_lengths {lengths = []} are_lengths = All-nil IsNonEmpty
filled-cut_by_lengths {lengths = n ∷ lengths} {numbers} are_lengths =
    let rest = sum_rest n lengths numbers are_lengths.sum_is in
    All-cons IsNonEmpty (take n numbers) (cut_by_lengths lengths (drop n numbers))
    (omega (arith, All-head (λ m. 0 < m) n lengths are_lengths.filled, length-take-le n numbers rest.0))
    (filled-cut_by_lengths (AreLengths-rest are_lengths))

small-cut_by_lengths : (lengths numbers : List ℕ) → AllFitU16 numbers → All AllFitU16 (cut_by_lengths lengths numbers)
small-cut_by_lengths [] numbers small = All-nil AllFitU16
small-cut_by_lengths (n ∷ lengths) numbers small =
    All-cons AllFitU16 (take n numbers) (cut_by_lengths lengths (drop n numbers))
    (All-take FitsU16 n numbers small)
    (small-cut_by_lengths lengths (drop n numbers) (All-drop FitsU16 n numbers small))

-- What `Params` may store are groups of a sequence.
pub AreGroups-stored_groups : (lengths numbers : List ℕ) → AreFlatGroups lengths numbers
    → length numbers ≤ max_numbers
    → AreGroups (stored_groups lengths numbers)
AreGroups-stored_groups lengths numbers are_flat at_most =
    search (rules, arith, count_of-cut_by_lengths, small-cut_by_lengths, filled-cut_by_lengths)

-- ---- a number more

-- A number begins a group, or joins the last one, whose length grows; the groups before it stay.

pub with_number-begins : (groups : List (List ℕ)) (value : ℕ)
    → with_number groups (numbered false value) ≡ groups ++ (value ∷ []) ∷ []
with_number-begins [] value = refl
with_number-begins (group ∷ []) value = refl
with_number-begins (group ∷ next ∷ groups) value =
    ap (λ (gs : List (List ℕ)). group ∷ gs) (with_number-begins (next ∷ groups) value)

pub with_number-joins : (groups : List (List ℕ)) (group : List ℕ) (value : ℕ)
    → with_number (groups ++ group ∷ []) (numbered true value) ≡ groups ++ (group ++ value ∷ []) ∷ []
with_number-joins [] group value = refl
with_number-joins (first ∷ []) group value = refl
with_number-joins (first ∷ next ∷ groups) group value =
    ap (λ (gs : List (List ℕ)). first ∷ gs) (with_number-joins (next ∷ groups) group value)

-- One more length cuts off one more group.
cut_by_lengths-push : (lengths numbers : List ℕ) (n : ℕ) (more : List ℕ) → sum lengths ≡ length numbers
    → length more ≡ n
    → cut_by_lengths (lengths ++ n ∷ []) (numbers ++ more) ≡ cut_by_lengths lengths numbers ++ more ∷ []
cut_by_lengths-push [] [] n more sum_is size = ap (λ (group : List ℕ). group ∷ []) (take_all n more (omega arith))
cut_by_lengths-push [] (x ∷ numbers) n more sum_is size = absurd (omega arith)
cut_by_lengths-push (m ∷ lengths) numbers n more sum_is size =
    let rest = sum_rest m lengths numbers sum_is in
    rw (
      take-append-le m numbers more rest.0,
      drop-append-le m numbers more rest.0,
      cut_by_lengths-push lengths (drop m numbers) n more rest.1 size,
    )

sum_push : (lengths : List ℕ) (n : ℕ) → sum (lengths ++ n ∷ []) ≡ sum lengths + n
sum_push lengths n = sum_by_push (λ (m : ℕ). m) lengths n

-- The last group has what the lengths before its own leave, and the further numbers.
cut_by_lengths-last : (rest numbers more : List ℕ) (n m : ℕ) → sum rest + n ≡ length numbers → m ≡ n + length more
    → cut_by_lengths (rest ++ m ∷ []) (numbers ++ more)
    ≡ cut_by_lengths rest (take (sum rest) numbers) ++ (drop (sum rest) numbers ++ more) ∷ []
cut_by_lengths-last rest numbers more n m sum_is size =
    let start = sum rest in
    ap (λ v. cut_by_lengths (rest ++ m ∷ []) (v ++ more)) (sym (take-append-drop start numbers))
    ∙ ap (cut_by_lengths (rest ++ m ∷ [])) (append_assoc (take start numbers) (drop start numbers) more)
    ∙ cut_by_lengths-push rest (take start numbers) m (drop start numbers ++ more)
    (sym (length-take-le start numbers (omega arith)))
    (omega (arith, length-append (drop start numbers) more, length-drop start numbers))

-- What holds once a number is pushed.
pub record IsPushed (joined : Bool) (lengths rest numbers : List ℕ) (last : Option ℕ) (value : ℕ) : Type 0 where
  pub room : unwrap_or last 0 + length rest ≤ length numbers
  pub groups : cut_by_lengths (rest ++ (unwrap_or last 0 + 1) ∷ []) (numbers ++ value ∷ [])
      ≡ with_number (cut_by_lengths lengths numbers) (numbered joined value)
  pub lengths_fit : AreLengths (rest ++ (unwrap_or last 0 + 1) ∷ []) (numbers ++ value ∷ [])

cut_by_lengths-more : {joined : Bool} {lengths rest numbers : List ℕ} {last : Option ℕ} {value : ℕ}
    → sum rest + unwrap_or last 0 ≡ length numbers → All (λ n. 0 < n) rest
    → cut_by_lengths rest (take (sum rest) numbers) ++ (drop (sum rest) numbers ++ value ∷ []) ∷ []
    ≡ with_number (cut_by_lengths lengths numbers) (numbered joined value)
    → IsPushed joined lengths rest numbers last value
cut_by_lengths-more {rest} {numbers} {last} {value} sum_is filled same = record {
  room = omega (arith, length-at_most_sum rest filled);
  groups = cut_by_lengths-last rest numbers (value ∷ []) (unwrap_or last 0) (unwrap_or last 0 + 1) sum_is refl ∙ same;
  lengths_fit = record {
    sum_is = omega (arith, sum_push rest (unwrap_or last 0 + 1), length-append numbers (value ∷ []));
    filled = All-push (λ m. 0 < m) rest (unwrap_or last 0 + 1) filled (omega arith);
  };
}

pushed-alone : {joined : Bool} {lengths rest numbers : List ℕ} {value : ℕ} → AreLengths lengths numbers
    → lengths ≡ rest ++ []
    → with_number (cut_by_lengths lengths numbers) (numbered false value)
    ≡ with_number (cut_by_lengths lengths numbers) (numbered joined value)
    → IsPushed joined lengths rest numbers None value
pushed-alone {joined} {lengths} {rest} {numbers} {value} are_lengths parts same =
    subst (λ rest. IsPushed joined lengths rest numbers None value) (parts ∙ append-nil rest)
    (cut_by_lengths-more (omega (arith, are_lengths.sum_is)) are_lengths.filled
    (rw (
      take_all (sum lengths) numbers (omega (arith, are_lengths.sum_is)),
      drop_all (sum lengths) numbers
          (omega (arith, are_lengths.sum_is)),
    )
    (sym (with_number-begins (cut_by_lengths lengths numbers) value) ∙ same)))

-- A number that begins a group has a length of its own.
pub pushed-begins : (lengths numbers : List ℕ) (value : ℕ) → AreLengths lengths numbers
    → IsPushed false lengths lengths numbers None value
pushed-begins lengths numbers value are_lengths = pushed-alone are_lengths (sym (append-nil lengths)) refl

-- A number that joins a group is one more in the last length.
pub pushed-joins : (lengths rest numbers : List ℕ) (last : Option ℕ) (value : ℕ) → AreLengths lengths numbers
    → lengths ≡ rest ++ option_to_list last → (last ≡ None → length lengths ≡ 0)
    → IsPushed true lengths rest numbers last value
pushed-joins lengths rest numbers (Some n) value are_lengths parts found =
    let sum_is : sum rest + n ≡ length numbers =
    sym (sum_push rest n) ∙ ap sum (sym parts) ∙ are_lengths.sum_is in
    let old = simp append-nil at (cut_by_lengths-last rest numbers [] n n sum_is (omega arith)) in
    cut_by_lengths-more sum_is
    (All-pop (λ m. 0 < m) lengths rest (Some n) parts are_lengths.filled).0
    (sym (with_number-joins (cut_by_lengths rest (take (sum rest) numbers)) (drop (sum rest) numbers) value)
    ∙ ap (λ groups. with_number groups (numbered true value))
    (sym old ∙ ap (λ those. cut_by_lengths those numbers) (sym parts)))
pushed-joins [] rest numbers None value are_lengths parts found = pushed-alone are_lengths parts refl
pushed-joins (n ∷ lengths) rest numbers None value are_lengths parts found = absurd (omega (arith, found refl))

-- ---- lengths that aren't stored

-- If none are stored, the lengths are all 1.
pub are_stored_lengths_alone : (lengths numbers : List ℕ) → length lengths ≡ 0 → AreStoredLengths lengths numbers
are_stored_lengths_alone [] numbers none = record {
  fit = record {
    sum_is = omega (arith, sum_by-replicate (λ (m : ℕ). m) (length numbers) 1);
    filled = All-replicate (λ m. 0 < m) (length numbers) 1 (omega arith);
  };
}
are_stored_lengths_alone (n ∷ lengths) numbers none = absurd (omega (arith, none))

-- Then there are as many groups as numbers.
pub length_stored_groups_alone : (lengths numbers : List ℕ) → length lengths ≡ 0
    → length (stored_groups lengths numbers) ≡ length numbers
length_stored_groups_alone [] numbers none =
    length-cut_by_lengths (replicate (length numbers) 1) numbers ∙ length-replicate (length numbers) 1
length_stored_groups_alone (n ∷ lengths) numbers none = absurd (omega (arith, none))

-- Otherwise the lengths are those that are stored.
pub lengths_of_stored : (lengths : List ℕ) (count : ℕ) → 0 < length lengths → lengths_of lengths count ≡ lengths
lengths_of_stored [] count some = absurd (omega (arith, some))
lengths_of_stored (n ∷ lengths) count some = refl

pub length_stored_groups : (lengths numbers : List ℕ) → 0 < length lengths
    → length (stored_groups lengths numbers) ≡ length lengths
length_stored_groups lengths numbers some =
    length-cut_by_lengths (lengths_of lengths (length numbers)) numbers
    ∙ ap length (lengths_of_stored lengths (length numbers) some)

-- Lengths are stored once there is one.
pub lengths_of-push : (lengths : List ℕ) (n count : ℕ) → lengths_of (lengths ++ n ∷ []) count ≡ lengths ++ n ∷ []
lengths_of-push [] n count = refl
lengths_of-push (m ∷ lengths) n count = refl

-- Behind the last of stored lengths there are no numbers, so none is a group of its own.
lengths_of-rest : {n : ℕ} {lengths numbers : List ℕ} → AreLengths (n ∷ lengths) numbers
    → lengths_of lengths (length (drop n numbers)) ≡ lengths
lengths_of-rest {n} {lengths = []} {numbers} are_lengths =
    ap (λ (count : ℕ). replicate count 1) (sym (sum_rest n [] numbers are_lengths.sum_is).1)
lengths_of-rest {lengths = m ∷ lengths} are_lengths = refl

-- The stored lengths after the first are those of the numbers after its own.
pub AreStoredLengths-rest : {n : ℕ} {lengths numbers : List ℕ} → AreLengths (n ∷ lengths) numbers
    → AreStoredLengths lengths (drop n numbers)
AreStoredLengths-rest {n} {lengths} {numbers} are_lengths =
    record { fit = rw (lengths_of-rest are_lengths) (AreLengths-rest are_lengths) }

-- A number more is a group of its own, if no lengths are stored.
pub stored_groups-push : (lengths numbers : List ℕ) (value : ℕ) → length lengths ≡ 0
    → stored_groups lengths (numbers ++ value ∷ [])
    ≡ with_number (stored_groups lengths numbers) (numbered false value)
stored_groups-push [] numbers value none =
    let ones = replicate (length numbers) 1 in
    let all : replicate (length (numbers ++ value ∷ [])) 1 ≡ ones ++ 1 ∷ [] =
    ap (λ (count : ℕ). replicate count 1) (length-append numbers (value ∷ []))
    ∙ sym (replicate_more (length numbers) 1) in
    ap (λ (those : List ℕ). cut_by_lengths those (numbers ++ value ∷ [])) all
    ∙ cut_by_lengths-push ones numbers 1 (value ∷ []) (are_stored_lengths_alone [] numbers refl).fit.sum_is refl
    ∙ sym (with_number-begins (cut_by_lengths ones numbers) value)
stored_groups-push (n ∷ lengths) numbers value none = absurd (omega (arith, none))

-- ---- lengths that are added up one after another

-- The sum of the first i + 1 is that of the first i and the next.
pub sum_take_more : (lengths : List ℕ) (i : ℕ) → i < length lengths
    → sum (take (i + 1) lengths) ≡ sum (take i lengths) + get_or lengths i 0
sum_take_more lengths i before_end =
    rw (take_more lengths i 0 before_end) (sum_by_push (λ n. n) (take i lengths) (get_or lengths i 0))

-- The first i and the next come to no more than all.
pub sum_take_below : (lengths : List ℕ) (i : ℕ) → i < length lengths
    → sum (take i lengths) + get_or lengths i 0 ≤ sum lengths
sum_take_below lengths i before_end =
    omega (arith, sum_take_more lengths i before_end, sum_by-take-le (λ n. n) lengths (i + 1))

-- If neither the first i lengths nor the next are 0, the first i + 1 aren't.
pub filled_take_more : (lengths : List ℕ) (i : ℕ) → i < length lengths → All (λ n. 0 < n) (take i lengths)
    → 0 < get_or lengths i 0
    → All (λ n. 0 < n) (take (i + 1) lengths)
filled_take_more lengths i before_end all first =
    rw (take_more lengths i 0 before_end) (All-push (λ n. 0 < n) (take i lengths) (get_or lengths i 0) all first)
