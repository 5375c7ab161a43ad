-- The numbers of a control sequence, read from its groups, and decimal numbers in commands.
use Rattle.std.specs.Prelude.{Bool, false, if◌then◌else◌, List, map, nat_lt, None, Option, Some, ℕ, [], ◌&&◌, ◌==◌, ◌∷◌}
use Rattle.std.specs.Str.{all_ascii_digits}
use Rattle.std.specs.Str.Parse.{digits_value}

-- The first element, or `None` if the list is empty.
abbrev pub first_of : {X : Type 0} → List X → Option X
first_of [] = None
first_of (x ∷ xs) = Some x

-- The first number of a group, which is never empty.
abbrev pub first_number : List ℕ → ℕ
first_number [] = 0
first_number (number ∷ numbers) = number

-- The first number of each group: the subparameters after it don't count.
abbrev pub first_numbers : List (List ℕ) → List ℕ
first_numbers groups = map first_number groups

-- The first number, or `default` if that is 0 or there is none.
abbrev pub first_nonzero_or : ℕ → List ℕ → ℕ
first_nonzero_or default [] = default
first_nonzero_or default (number ∷ numbers) = if number == 0 then default else number

-- XTQMODKEYS asks for the other keys: the first group is just the number 4.
abbrev pub asks_for_modify_other_keys : List (List ℕ) → Bool
asks_for_modify_other_keys ((number ∷ []) ∷ groups) = number == 4
asks_for_modify_other_keys _ = false

-- The number that decimal digits write, if there are some and it is at most 255.
abbrev pub decimal_number : List ℕ → Option ℕ
decimal_number [] = None
decimal_number digits =
    if all_ascii_digits digits && nat_lt (digits_value 10 digits) 256
    then Some (digits_value 10 digits) else None
