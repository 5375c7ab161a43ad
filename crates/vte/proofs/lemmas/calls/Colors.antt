-- Colours by numbers and by texts: which are no colour, and how much is read of them.
use Rattle.std.proofs.lemmas.Fmt.{length-decimal-le}
use Rattle.std.proofs.Math.Nat.{pow-le-pow_right}
use Rattle.vte.proofs.Common.{arith, decimal, drop, first_component, kind_reading, length, length-slice_split, List, map, map-id, nat_tests, None, refl, Some, split_by, ℕ, [], ◌+◌, ◌<◌, ◌==◌, ◌^◌, ◌∷◌, ◌≡◌, ◌≤◌}
use Rattle.vte.specs.Colors.{color_of_parts}

-- ---- colours by numbers

-- A colour of which a component is missing or is none is no colour: by the number of components that are left.

module _ {A : Type 0} (number : A → ℕ) where
  -- Without red there is no colour.
  pub no_red : (left : List A) → None ≡ first_component (map number left)
      → None ≡ (kind_reading 2 (map number left)).color
  no_red [] missing = cc
  no_red (red ∷ left) missing = grind (arith, nat_tests)

  -- Without red, reading uses the number in its place, if there is one.
  pub after_red : (left : List A) → None ≡ first_component (map number left)
      → drop 1 left ≡ drop (kind_reading 2 (map number left)).used left
  after_red [] missing = cc
  after_red (red ∷ left) missing = grind (arith, nat_tests)

  -- Without green, it uses red, and the number in green's place, if there is one.
  pub after_green : (left : List A) (red : ℕ) → Some red ≡ first_component (map number left)
      → None ≡ first_component (map number (drop 1 left))
      → drop 1 (drop 1 left) ≡ drop (kind_reading 2 (map number left)).used left
  after_green left red has_red missing = grind (arith, nat_tests)

  -- Without blue, it uses red, green, and the number in blue's place, if there is one.
  pub after_blue : (left : List A) (red green : ℕ) → Some red ≡ first_component (map number left)
      → Some green ≡ first_component (map number (drop 1 left))
      → None ≡ first_component (map number (drop 1 (drop 1 left)))
      → drop 1 (drop 1 (drop 1 left)) ≡ drop (kind_reading 2 (map number left)).used left
  after_blue left red green has_red has_green missing = grind (arith, nat_tests)

pub map_identity : (numbers : List ℕ) → map (λ number. number) numbers ≡ numbers
map_identity numbers = map-id numbers

-- ---- colours by texts

-- Four parts and more are none, and three hex digits give a small number.

color_of_parts-further : (red green blue : List ℕ) (parts : List (List ℕ)) (n : ℕ) → length parts ≡ n + 1
    → color_of_parts (red ∷ green ∷ blue ∷ parts) ≡ None
color_of_parts-further red green blue [] n size = absurd (omega (arith, size))
color_of_parts-further red green blue (part ∷ parts) n size = refl

-- Four parts or more are no colour.
pub fourth_part : (red green blue rest : List ℕ) → color_of_parts (red ∷ green ∷ blue ∷ split_by 0x2f rest) ≡ None
fourth_part red green blue rest =
    color_of_parts-further red green blue (split_by 0x2f rest) _ (length-slice_split (λ (byte : ℕ). byte == 0x2f) rest)

-- Three hex digits or fewer write a number below 4096.
pub few_hex_digits : (i number : ℕ) → i ≤ 3 → number < 16 ^ i → number < 4096
few_hex_digits i number at_most small = let power : 16 ^ i ≤ 16 ^ 3 = pow-le-pow_right {n = 16} (omega arith) at_most in
    omega (arith, power, small)

-- ---- the number of a colour of the palette

pub few_digits : (n : ℕ) → n < 256 → length (decimal n) ≤ 3
few_digits n low = length-decimal-le 3 n (omega arith) (omega arith) (omega arith)
