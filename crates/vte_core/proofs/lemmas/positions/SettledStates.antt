-- States in which no character is open, and their places. Whether a call may stop.
use Rattle.vte_core.proofs.Common.{arith, bytes_of, Empty, eqb, false, InText, IsAtPlace, IsPlaceOfState, IsSettled, IsSettledPlace, Machine, nat_tests, not, OpenCharacter, Option, Place, refl, rules, State, subst, sym, Text, true, ℕ, [], ◌<◌, ◌≡◌, ◌≤◌}
use Rattle.vte_core.proofs.lemmas.fields.PlaceOfState.{is_at-in}

-- ---- the place of a state in which no character is open

text-by_fields : {B : Type 0} (limit : Option ℕ) (parser : Machine B) (place : Place)
    → IsPlaceOfState limit (Text Empty) parser place → place ≡ InText []
text-by_fields limit parser place fields = search (rules, arith)

-- Between characters of a text there is only one place.
pub place-settled_text : {B : Type 0} {limit : Option ℕ} {parser : Machine B} {place : Place}
    → parser.state ≡ Text Empty → IsAtPlace limit parser place → place ≡ InText []
place-settled_text {limit} {parser} {place} in_state is_at = text-by_fields limit parser place (is_at-in in_state is_at)

-- In a settled state, no character is open at the place.
settled-by_place : {B : Type 0} (limit : Option ℕ) (state : State) (parser : Machine B) (place : Place)
    → IsSettled state → IsPlaceOfState limit state parser place → IsSettledPlace place
settled-by_place limit state parser place settled fields = search (rules, arith)

-- The same holds of the place of a parser.
pub settled-place : {B : Type 0} {limit : Option ℕ} (parser : Machine B) → IsSettled parser.state → (place : Place)
    → IsAtPlace limit parser place → IsSettledPlace place
settled-place {limit} parser settled place is_at = settled-by_place limit parser.state parser place settled is_at.fields

-- Contracts give the next state by an equation.
pub settled-same_state : {state other : State} → state ≡ other → IsSettled other → IsSettled state
settled-same_state same settled = subst IsSettled (sym same) settled

-- A text in which no byte of a character was read is settled.
pub settled-nothing : (opened : OpenCharacter) → bytes_of opened ≡ [] → IsSettled (Text opened)
settled-nothing Empty empty = tt
settled-nothing _ empty = cc

-- Each state outside of a text is settled.
pub settled-outside : (state : State) → ((opened : OpenCharacter) → state ≡ Text opened → ⊥) → IsSettled state
settled-outside (Text u) no_text = absurd (no_text u refl)
settled-outside _ no_text = tt

-- ---- whether a call asks

-- A const parameter that is a `bool` is a number in proofs.
pub may_stop-some : (n : ℕ) → (n ≡ 0 → ⊥) → not (eqb n 0) ≡ true
may_stop-some n nonzero = grind (arith, nat_tests)

pub may_stop-none : {n : ℕ} → n ≡ 0 → not (eqb n 0) ≡ true → ⊥
may_stop-none is_zero stops = let same : not (eqb 0 0) ≡ true = rw is_zero at stops in cc

-- A call that may not stop reads all bytes.
pub all_read-unless_asked : (n size : ℕ) → n ≤ size → (n < size → false ≡ true) → n ≡ size
all_read-unless_asked n size within asked = search (rules, arith)
