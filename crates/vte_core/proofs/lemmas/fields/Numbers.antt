-- How one more byte changes the numbers of a parameter text, and what its groups are. By induction over the text, with
-- the digits since the last separator.
use Rattle.std.proofs.lemmas.Int.Digits.{digits_value_push}
use Rattle.std.proofs.lemmas.List.Splits.{slice_split_at, slice_split_none}
use Rattle.vte_core.proofs.Common.{All, All-cons, All-head, All-nil, All-push, All-tail, All-take, ap, append-nil, append_assoc, AreGroups, arith, Bool, cases_Bool, count_of, digit_value, false, filter, fold, fold_push, greatest_number, grouped, groups_of, inl, inr, is_colon, is_separator, IsNonEmpty, length, length-append, length-take, List, map, max_numbers, min, nat_tests, Number, number_of, numbers, numbers_from, numbers_of, refl, rules, slice_split, sum_by-cons, take, true, with_number, ℕ, [], ◌*◌, ◌++◌, ◌+◌, ◌-◌, ◌<◌, ◌∷◌, ◌≡◌, ◌≤◌}
use Rattle.vte_core.proofs.lemmas.fields.FlatGroups.{numbered}

-- ---- the numbers of a text, from its prefix

-- A further digit changes the last number, and a separator begins another. So cutting at separators is reading byte by
-- byte, with the digits since the last separator carried along.

-- The byte is neither `;` nor `:`.
abbrev pub IsNoSeparator : ℕ → Type 0
IsNoSeparator b = is_separator b ≡ false

split_numbers : (joined : Bool) (digits text : List ℕ) → All IsNoSeparator digits
    → numbers_of (joined ∷ map is_colon (filter is_separator text))
    (map number_of (slice_split is_separator (digits ++ text)))
    ≡ numbers_from joined digits text
split_numbers joined digits [] none_separates =
    rw (append-nil digits, slice_split_none is_separator digits none_separates) refl
split_numbers joined digits (b ∷ text) none_separates = elim (cases_Bool (is_separator b)) [
  | inl cuts ↦
      let rest = split_numbers (is_colon b) [] text (All-nil IsNoSeparator) in
      rw (slice_split_at is_separator digits b text none_separates cuts, cuts)
      (ap (λ (l : List Number). numbered joined (number_of digits) ∷ l) rest)
  | inr stays ↦
      let rest =
      split_numbers joined (digits ++ b ∷ []) text (All-push IsNoSeparator digits b none_separates stays) in
      rw stays (rw (append_assoc digits (b ∷ []) text) at rest)
]

-- Numbers read byte by byte are those of the text split at separators.
pub numbers_are : (text : List ℕ) → numbers text ≡ numbers_from false [] text
unfolding numbers
numbers_are text = split_numbers false [] text (All-nil IsNoSeparator)

-- ---- one more digit, and how large a number gets

pub is_digit_no_separator : (digit : ℕ) → 0x30 ≤ digit → digit < 0x3a → IsNoSeparator digit
is_digit_no_separator digit low high = grind (arith, nat_tests)

digit_value_is : (digit : ℕ) → 0x30 ≤ digit → digit < 0x3a → digit_value digit ≡ digit - 0x30
digit_value_is digit low high = grind (arith, nat_tests)

-- One more digit counts from the number so far, even if this has stopped at the greatest.
pub number_of-push : (digits : List ℕ) (digit : ℕ) → 0x30 ≤ digit → digit < 0x3a
    → number_of (digits ++ digit ∷ []) ≡ min greatest_number (10 * number_of digits + (digit - 0x30))
number_of-push digits digit low high =
    omega (arith, digits_value_push 10 digits digit, digit_value_is digit low high)

-- The number is at most 65,535.
abbrev pub ValueFitsU16 : Number → Type 0
ValueFitsU16 number = number.value ≤ greatest_number

-- There is at least one number, and each is at most 65,535.
numbers_from-small : (joined : Bool) (digits text : List ℕ)
    → (0 < length (numbers_from joined digits text)) × All ValueFitsU16 (numbers_from joined digits text)
numbers_from-small joined digits [] = search (rules, arith)
numbers_from-small joined digits (b ∷ text) =
    search (
      rules,
      arith,
      (numbers_from-small (is_colon b) [] text),
      (numbers_from-small joined (digits ++ b ∷ []) text),
    )

numbers_small : (text : List ℕ) → (0 < length (numbers text)) × All ValueFitsU16 (numbers text)
numbers_small text = rw (numbers_are text) (numbers_from-small false [] text)

-- ---- the groups of a parameter text

-- Number by number, what holds of every group is kept (`Keeps`).

-- One more number joins the groups of those before.
pub grouped-push : (numbers : List Number) (number : Number)
    → grouped (numbers ++ number ∷ []) ≡ with_number (grouped numbers) number
grouped-push numbers number = fold_push with_number [] numbers number

count_of-with_numbered : (groups : List (List ℕ)) (joined : Bool) (value : ℕ)
    → count_of (with_number groups (numbered joined value)) ≡ count_of groups + 1
count_of-with_numbered [] joined value = refl
count_of-with_numbered (group ∷ []) true value = omega (arith, length-append group (value ∷ []))
count_of-with_numbered (group ∷ []) false value = omega arith
count_of-with_numbered (group ∷ next ∷ groups) joined value =
    search (rules, arith, (count_of-with_numbered (next ∷ groups) joined value), sum_by-cons)

count_of-with_number : (groups : List (List ℕ)) (number : Number)
    → count_of (with_number groups number) ≡ count_of groups + 1
count_of-with_number groups number = count_of-with_numbered groups number.joined number.value

count_of-fold : (groups : List (List ℕ)) (numbers : List Number)
    → count_of (fold with_number groups numbers) ≡ count_of groups + length numbers
count_of-fold groups [] = omega arith
count_of-fold groups (number ∷ numbers) =
    omega (arith, count_of-fold (with_number groups number) numbers, count_of-with_number groups number)

-- Groups lose no number.
pub count_of-grouped : (numbers : List Number) → count_of (grouped numbers) ≡ length numbers
count_of-grouped numbers = omega (arith, count_of-fold [] numbers)

-- What holds of each group, if a number that begins a group and one that joins it keep it.
record Keeps (Q : List ℕ → Type 0) (R : ℕ → Type 0) : Type 0 where
  begins : (value : ℕ) → R value → Q (value ∷ [])
  joins : (group : List ℕ) (value : ℕ) → R value → Q group → Q (group ++ value ∷ [])

All-with_numbered : {Q : List ℕ → Type 0} {R : ℕ → Type 0} (keeps : Keeps Q R) (groups : List (List ℕ))
    (joined : Bool) (value : ℕ)
    → R value → All Q groups → All Q (with_number groups (numbered joined value))
All-with_numbered {Q} keeps [] joined value holds all =
    All-cons Q (value ∷ []) [] (keeps.begins value holds) (All-nil Q)
All-with_numbered {Q} keeps (group ∷ []) true value holds all =
    All-cons Q (group ++ value ∷ []) [] (keeps.joins group value holds (All-head Q group [] all)) (All-nil Q)
All-with_numbered {Q} keeps (group ∷ []) false value holds all =
    All-push Q (group ∷ []) (value ∷ []) all (keeps.begins value holds)
All-with_numbered {Q} keeps (group ∷ next ∷ groups) joined value holds all =
    All-cons Q group (with_number (next ∷ groups) (numbered joined value)) (All-head Q group (next ∷ groups) all)
    (All-with_numbered keeps (next ∷ groups) joined value holds (All-tail Q group (next ∷ groups) all))

All-fold : {Q : List ℕ → Type 0} {R : ℕ → Type 0} (keeps : Keeps Q R) (groups : List (List ℕ)) (numbers : List Number)
    → All (λ n. R n.value) numbers → All Q groups → All Q (fold with_number groups numbers)
All-fold keeps groups [] have all = all
All-fold {Q} {R} keeps groups (number ∷ numbers) have all =
    All-fold keeps (with_number groups number) numbers (All-tail (λ (m : Number). R m.value) number numbers have)
    (All-with_numbered keeps groups number.joined number.value
    (All-head (λ (m : Number). R m.value) number numbers have) all)

any_group : (groups : List (List ℕ)) → 0 < count_of groups → 0 < length groups
any_group [] some_number = some_number
any_group (group ∷ groups) some_number = omega arith

-- Each text has a group, even an empty text.
pub some_group : (text : List ℕ) → 0 < length (groups_of text)
unfolding groups_of
some_group text = search (rules, arith, any_group, count_of-grouped, length-take, numbers_small)

-- No group is empty.
filled-grouped : (numbers : List Number) → All IsNonEmpty (grouped numbers)
filled-grouped numbers =
    let keeps : Keeps IsNonEmpty (λ value. Unit {0}) = record {
      begins = λ value _. omega arith;
      joins = λ group value _ filled. omega (arith, length-append group (value ∷ []));
    } in
    All-fold keeps [] numbers (λ _ _ _. tt) (All-nil IsNonEmpty)

AreGroups-grouped : (numbers : List Number) → length numbers ≤ max_numbers → All ValueFitsU16 numbers
    → AreGroups (grouped numbers)
AreGroups-grouped numbers at_most small =
    let P : ℕ → Type 0 = λ value. value ≤ greatest_number in
    let keeps : Keeps (All P) P = record {
      begins = λ value r. All-cons P value [] r (All-nil P);
      joins = λ group value r all. All-push P group value all r;
    } in
    record {
      at_most = omega (arith, count_of-grouped numbers);
      small = All-fold keeps [] numbers small (All-nil (All P));
      filled = filled-grouped numbers;
    }

-- A parameter text gives at most 32 numbers, each up to 65,535.
pub AreGroups-groups_of : (text : List ℕ) → AreGroups (groups_of text)
unfolding groups_of
AreGroups-groups_of text =
    AreGroups-grouped (take max_numbers (numbers text)) (omega (arith, length-take max_numbers (numbers text)))
    (All-take ValueFitsU16 max_numbers (numbers text) (numbers_small text).1)
