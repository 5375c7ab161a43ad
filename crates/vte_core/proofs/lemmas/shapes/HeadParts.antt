-- What a head gives, from its prefix. The parts of a head are cut off its prefix (`head_of-parts`), so a byte more
-- changes only the last part that was reached.
use Rattle.vte_core.proofs.Common.{append-nil, AreInClass, arith, Bool, Class, class_of, false, head_after, head_of, Intermediate, is_intermediate, is_marker, is_parameter_byte, is_well_shaped, IsMarker, List, list_all, Marker, nat_tests, refl, rules, true, ℕ, [], ◌++◌, ◌∷◌, ◌≡◌}
use Rattle.vte_core.proofs.lemmas.bytes.Classes.{class-intermediate}

-- The bytes don't begin with one of these classes.
abbrev BeginsWithout : (Class → Bool) → List ℕ → Type 0
BeginsWithout has [] = Unit {0}
BeginsWithout has (b ∷ rest) = has (class_of b) ≡ false

parameter_is_no_marker : (class : Class) → is_parameter_byte class ≡ true → is_marker class ≡ false
parameter_is_no_marker Marker parameter = cc
parameter_is_no_marker _ parameter = refl

head_after-parts : (marker parameters rest : List ℕ) → AreInClass is_parameter_byte parameters
    → BeginsWithout is_parameter_byte rest
    → head_after marker (parameters ++ rest)
    ≡ record { marker = marker; parameter_text = parameters; tail = rest }
head_after-parts marker [] [] are_parameters begins_without = refl
head_after-parts marker [] (b ∷ rest) are_parameters begins_without = rw begins_without refl
head_after-parts marker (p ∷ parameters) rest are_parameters begins_without =
    search (rules, arith, (head_after-parts marker parameters rest are_parameters.1 begins_without))

-- `head_of` finds the three parts of a head.
pub head_of-parts : (marker parameters rest : List ℕ) → IsMarker marker → AreInClass is_parameter_byte parameters
    → BeginsWithout is_parameter_byte rest
    → (marker ++ parameters ≡ [] → BeginsWithout is_marker rest)
    → head_of (marker ++ (parameters ++ rest))
    ≡ record { marker = marker; parameter_text = parameters; tail = rest }
unfolding head_of
head_of-parts [] [] [] is_marker are_parameters begins_without no_marker = refl
head_of-parts [] [] (b ∷ rest) is_marker are_parameters begins_without no_marker =
    rw (no_marker refl, begins_without) refl
head_of-parts [] (p ∷ parameters) rest is_marker are_parameters begins_without _ =
    search (rules, arith, parameter_is_no_marker, head_after-parts)
head_of-parts (m ∷ []) parameters rest is_marker are_parameters begins_without _ =
    rw is_marker.0 (head_after-parts (m ∷ []) parameters rest are_parameters begins_without)
head_of-parts (m ∷ n ∷ marker) parameters rest is_marker are_parameters begins_without _ = absurd is_marker

pub begins-intermediates : (has : Class → Bool) → has Intermediate ≡ false → (intermediates more : List ℕ)
    → AreInClass is_intermediate intermediates
    → (intermediates ≡ [] → BeginsWithout has more) → BeginsWithout has (intermediates ++ more)
begins-intermediates has no_intermediates [] more are_intermediates begins_without = begins_without refl
begins-intermediates has no_intermediates (b ∷ bytes) more are_intermediates begins_without =
    rw (class-intermediate (class_of b) are_intermediates.0) no_intermediates

list_all-AreInClass : (bytes : List ℕ) → AreInClass is_intermediate bytes
    → list_all (λ b. is_intermediate (class_of b)) bytes ≡ true
list_all-AreInClass [] are_intermediates = refl
list_all-AreInClass (b ∷ bytes) are_intermediates =
    rw are_intermediates.0 (list_all-AreInClass bytes are_intermediates.1)

-- One byte other than an intermediate makes the rest of a head ill-shaped.
pub list_all-not : (bytes : List ℕ) (b : ℕ) (more : List ℕ) → is_intermediate (class_of b) ≡ false
    → list_all (λ b. is_intermediate (class_of b)) (bytes ++ b ∷ more) ≡ false
list_all-not [] b more no_intermediate = rw no_intermediate refl
list_all-not (a ∷ bytes) b more no_intermediate = grind (arith, nat_tests, list_all-not bytes b more no_intermediate)

-- `head_of` finds the parts of a head that is well shaped so far.
pub collected-parts : (marker parameters intermediates : List ℕ) → IsMarker marker
    → AreInClass is_parameter_byte parameters
    → AreInClass is_intermediate intermediates
    → head_of (marker ++ (parameters ++ intermediates))
    ≡ record { marker = marker; parameter_text = parameters; tail = intermediates }
collected-parts marker parameters intermediates is_marker are_parameters are_intermediates =
    search (rules, arith, begins-intermediates, head_of-parts, append-nil)

-- A head of these parts is well shaped.
pub collected-well_shaped : (marker parameters intermediates : List ℕ) → IsMarker marker
    → AreInClass is_parameter_byte parameters
    → AreInClass is_intermediate intermediates
    → is_well_shaped (head_of (marker ++ (parameters ++ intermediates))) ≡ true
unfolding is_well_shaped
collected-well_shaped marker parameters intermediates is_marker are_parameters are_intermediates =
    search (rules, arith, collected-parts, list_all-AreInClass)
