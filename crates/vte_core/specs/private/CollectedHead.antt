-- What a parser holds of the head of a sequence: its intermediates, its numbers, and how far it has
-- come.
use Rattle.std.specs.Prelude.{Bool, drop, false, if◌then◌else◌, length, List, MatchOption, slice_index, take, true, ℕ, [], ⊤, ◌++◌, ◌-◌, ◌<◌, ◌||◌, ◌∷◌, ◌≡◌, ◌≤◌}
use Rattle.vte_core.specs.Class.{AreInClass, is_head_byte, is_intermediate, is_marker, is_parameter_byte}
use Rattle.vte_core.specs.declared.head.CollectedHead.{CollectedHead}
use Rattle.vte_core.specs.declared.head.HeadEnd.{HeadEnd}
use Rattle.vte_core.specs.declared.head.HeadProgress.{HeadProgress}
use Rattle.vte_core.specs.declared.head.HeadProgress.TheVariants.{Entry, IllShaped, Intermediates, Parameters}
use Rattle.vte_core.specs.Head.{head_of, is_well_shaped, reported_intermediates}
use Rattle.vte_core.specs.Intermediates.{are_too_many, kept_intermediates}
use Rattle.vte_core.specs.Parameters.{grouped, groups_of, has_too_many_numbers, is_colon, is_separator, max_numbers, Number, number_of, numbers}

-- The first two intermediates are collected, and whether there are more.
pub record HoldsIntermediates (collected : CollectedHead) (intermediates : List ℕ) : Type 0 where
  pub kept : collected.intermediates.items ≡ kept_intermediates intermediates
  pub too_many_intermediates : collected.too_many_intermediates ≡ are_too_many intermediates

-- The numbers of a text that continues these digits, whose number is joined or not.
abbrev pub numbers_from : Bool → List ℕ → List ℕ → List Number
numbers_from joined digits [] = record { joined = joined; value = number_of digits } ∷ []
numbers_from joined digits (b ∷ text) =
    if is_separator b
    then record { joined = joined; value = number_of digits }
    ∷ numbers_from (is_colon b) [] text
    else numbers_from joined (digits ++ b ∷ []) text

-- The last number of the text is being read; of those before it the first 32 are collected.
pub record CountsNumbers (collected : CollectedHead) (text : List ℕ) : Type 0 where
  pub prefix : List Number
  pub digits : List ℕ
  pub same_numbers : (more : List ℕ)
      → numbers (text ++ more) ≡ prefix ++ numbers_from collected.joined digits more
  pub params : collected.params ≡ grouped (take max_numbers prefix)
  pub number : collected.number ≡ number_of digits

-- The first 32 numbers of the text are collected.
pub record HoldsNumbers (collected : CollectedHead) (has_more : Bool) (text : List ℕ) : Type 0 where
  pub groups : collected.params ≡ groups_of text
  pub more : has_more ≡ has_too_many_numbers text

-- The collected numbers are the same.
pub record SameNumbers (old new : CollectedHead) : Type 0 where
  pub params : new.params ≡ old.params
  pub joined : new.joined ≡ old.joined
  pub number : new.number ≡ old.number

-- The collected intermediates are the same.
pub record SameIntermediates (old new : CollectedHead) : Type 0 where
  pub intermediates : new.intermediates ≡ old.intermediates
  pub too_many_intermediates : new.too_many_intermediates ≡ old.too_many_intermediates

-- One private marker, or none.
abbrev pub IsMarker : List ℕ → Type 0
IsMarker [] = ⊤
IsMarker (b ∷ []) = AreInClass is_marker (b ∷ [])
IsMarker _ = ⊥

-- How far a head with these parts has come.
abbrev pub Reaches : HeadProgress → List ℕ → List ℕ → List ℕ → Type 0
Reaches Entry marker parameters intermediates =
    (marker ≡ []) × (parameters ≡ []) × (intermediates ≡ [])
Reaches Parameters marker parameters intermediates =
    (0 < length (marker ++ parameters)) × (intermediates ≡ [])
Reaches Intermediates marker parameters intermediates = 0 < length intermediates
Reaches IllShaped marker parameters intermediates = ⊥

-- The head is well shaped so far, and its numbers and intermediates are collected.
pub record HoldsHead (collected : CollectedHead) (reached : HeadProgress)
    (head : List ℕ) : Type 0 where
  pub marker : List ℕ
  pub parameters : List ℕ
  pub intermediates : List ℕ
  pub shape : head ≡ marker ++ (parameters ++ intermediates)
  pub is_marker : IsMarker marker
  pub are_parameters : AreInClass is_parameter_byte parameters
  pub are_intermediates : AreInClass is_intermediate intermediates
  pub reaches : Reaches reached marker parameters intermediates
  pub holds : HoldsIntermediates collected (marker ++ intermediates)
  pub counts : CountsNumbers collected parameters

-- No further bytes make the head well shaped.
pub record StaysIllShaped (head : List ℕ) : Type 0 where
  pub stays : (more : List ℕ) → is_well_shaped (head_of (head ++ more)) ≡ false

-- What was collected of an ill-shaped head doesn't count.
abbrev pub HasReadHead : CollectedHead → HeadProgress → List ℕ → Type 0
HasReadHead collected IllShaped head = StaysIllShaped head
HasReadHead collected reached head = HoldsHead collected reached head

-- ---- a complete head

-- The head is well shaped, and what a dispatch of it reports is collected.
pub record HoldsWholeHead (collected : CollectedHead) (ignored : Bool)
    (head : List ℕ) : Type 0 where
  pub well_shaped : is_well_shaped (head_of head) ≡ true
  pub groups : collected.params ≡ groups_of (head_of head).parameter_text
  pub intermediates : collected.intermediates.items
      ≡ kept_intermediates (reported_intermediates (head_of head))
  pub ignore : ignored
      ≡ (are_too_many (reported_intermediates (head_of head))
      || has_too_many_numbers (head_of head).parameter_text)

-- ---- a head that is being read

-- What is collected, with this number in its field. While its digits are read, it is in a local.
abbrev pub with_open_number : CollectedHead → ℕ → CollectedHead
with_open_number collected number = record {
  intermediates = collected.intermediates;
  too_many_intermediates = collected.too_many_intermediates;
  params = collected.params;
  number = number;
  joined = collected.joined;
}

-- The bytes from position i to position j are read as part of a head, whatever its shape.
pub record ReadsHead (bytes : List ℕ) (i j : ℕ) (reached reached_then : HeadProgress)
    (old new : CollectedHead) : Type 0 where
  pub in_order : i ≤ j
  pub within : j ≤ length bytes
  pub head_bytes : AreInClass is_head_byte (take (j - i) (drop i bytes))
  pub leads : (head : List ℕ) → HasReadHead old reached head
      → HasReadHead new reached_then (head ++ take (j - i) (drop i bytes))

-- A head is read from position i up to `end`, and the byte there, if there is one, was looked at.
pub record ReadsHeadUpTo (bytes : List ℕ) (i : ℕ) (reached : HeadProgress) (end : HeadEnd)
    (old new : CollectedHead) : Type 0 where
  pub head : ReadsHead bytes i end.position reached end.progress old new
  pub next_byte : MatchOption end.next_byte (end.position ≡ length bytes)
      (λ byte. (end.position < length bytes) × (byte ≡ slice_index bytes end.position))
