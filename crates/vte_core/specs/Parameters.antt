-- The parameters of a control sequence (ECMA-48, section 5.4.2).
use Rattle.std.specs.Fmt.{decimal}
use Rattle.std.specs.List.{filter, fold, join_with_byte, slice_split, sum_by}
use Rattle.std.specs.Prelude.{All, Bool, false, if◌then◌else◌, length, List, map, min, nat_lt, take, ℕ, [], ◌++◌, ◌<◌, ◌==◌, ◌||◌, ◌∷◌, ◌≤◌}
use Rattle.std.specs.Str.Parse.{digits_value}

-- A separator: the number that follows joins the group of the number before it.
abbrev pub colon : ℕ
colon = 0x3a

-- A separator: the number that follows begins a group.
abbrev pub semicolon : ℕ
semicolon = 0x3b

-- A number, and whether it follows a colon.
pub record Number : Type 0 where
  pub joined : Bool
  pub value : ℕ

-- How many numbers of a sequence are kept.
abbrev pub max_numbers : ℕ
max_numbers = 32

-- The greatest number of 16 bits, which stands for all greater ones.
abbrev pub greatest_number : ℕ
greatest_number = 0xffff

-- The byte joins numbers.
abbrev pub is_colon : ℕ → Bool
is_colon b = b == colon

-- The byte separates numbers.
abbrev pub is_separator : ℕ → Bool
is_separator b = b == colon || b == semicolon

-- The decimal value, at most 65,535. An empty text is 0.
abbrev pub number_of : List ℕ → ℕ
number_of digits = min greatest_number (digits_value 10 digits)

-- The numbers with these values, each joined or not.
abbrev pub numbers_of : List Bool → List ℕ → List Number
numbers_of (joined ∷ more) (value ∷ values) =
    record { joined = joined; value = value } ∷ numbers_of more values
numbers_of _ _ = []

-- The text is split at each colon and semicolon, so there is at least one number.
unfoldable pub numbers : List ℕ → List Number
numbers text =
    numbers_of (false ∷ map is_colon (filter is_separator text))
    (map number_of (slice_split is_separator text))

-- A number after a colon joins the last group; any other starts a group.
abbrev pub with_number : List (List ℕ) → Number → List (List ℕ)
with_number [] number = (number.value ∷ []) ∷ []
with_number (group ∷ []) number =
    if number.joined then (group ++ number.value ∷ []) ∷ [] else group ∷ (number.value ∷ []) ∷ []
with_number (group ∷ next ∷ groups) number = group ∷ with_number (next ∷ groups) number

-- The numbers in groups, from left to right.
abbrev pub grouped : List Number → List (List ℕ)
grouped numbers = fold with_number [] numbers

-- How many numbers the groups contain.
abbrev pub count_of : List (List ℕ) → ℕ
count_of groups = sum_by length groups

-- At most 65,535: the number is a `u16`.
abbrev pub FitsU16 : ℕ → Type 0
FitsU16 number = number ≤ greatest_number

-- Each number is a `u16`.
abbrev pub AllFitU16 : List ℕ → Type 0
AllFitU16 group = All FitsU16 group

-- A group has a number.
abbrev pub IsNonEmpty : List ℕ → Type 0
IsNonEmpty group = 0 < length group

-- At most 32 numbers, each up to 65,535, in groups that aren't empty.
pub record AreGroups (groups : List (List ℕ)) : Type 0 where
  pub at_most : count_of groups ≤ max_numbers
  pub small : All AllFitU16 groups
  pub filled : All IsNonEmpty groups

-- The groups of a parameter text. Only its first 32 numbers count.
unfoldable pub groups_of : List ℕ → List (List ℕ)
groups_of text = grouped (take max_numbers (numbers text))

-- Numbers after the first 32 are dropped, which the event of the sequence says.
unfoldable pub has_too_many_numbers : List ℕ → Bool
has_too_many_numbers text = nat_lt max_numbers (length (numbers text))

-- The text of groups: decimal numbers, with `:` inside a group and `;` between groups.
unfoldable pub shown : List (List ℕ) → List ℕ
shown groups =
    join_with_byte semicolon (map (λ group. join_with_byte colon (map decimal group)) groups)
