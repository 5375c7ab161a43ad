-- Loops that make calls one by one: what is left gives what all gave. The invariant is an equation between the value
-- now and the value after all calls, and each round takes one call off its prefix.
use Rattle.vte.proofs.Common.{after, arith, attributes_from, Bor, Call, decimal_number, drop, length, List, map, palette_entries_calls, palette_entry_calls, refl, slice_index_or, suc, take, take_all, zero, ℕ, [], ◌+◌, ◌-◌, ◌<◌, ◌∷◌, ◌≡◌, ◌≤◌}
use Rattle.vte.proofs.lemmas.events.EventCalls.{after_calls-append}

-- At i, one more is left than at i + 1.
pub one_less : (n i : ℕ) → i < n → n - i ≡ suc (n - (i + 1))
one_less n i inside = omega arith

module _ {V : Type 0} (step : V → Call → V) (old new all : V) where
  -- The calls of one entry of a palette come before those of the pieces after its two.
  pub entry_made : (terminator : List ℕ) (left : List (Bor (List ℕ))) (no_index no_color : Bor (List ℕ))
      → 2 ≤ length left
      → new
      ≡ after step old
      (palette_entry_calls terminator (decimal_number (slice_index_or left 0 no_index).now)
      (slice_index_or left 1 no_color).now)
      → after step old (palette_entries_calls terminator (map (λ piece. piece.now) left)) ≡ all
      → after step new
      (palette_entries_calls terminator (map (λ piece. piece.now) (take (length left - 2) (drop 2 left))))
      ≡ all
  entry_made terminator [] no_index no_color two_left made before = absurd (omega arith)
  entry_made terminator (index ∷ []) no_index no_color two_left made before = absurd (omega arith)
  entry_made terminator (index ∷ color ∷ rest) no_index no_color two_left made before =
      let rest_is : take (length (index ∷ color ∷ rest) - 2) rest ≡ rest = take_all _ rest (omega arith) in
      rw (rest_is, made) (rw after_calls-append at before)

-- The attributes from group n on are those of the groups that are left without the first n.
pub attributes_after : (n : ℕ) (groups : List (List ℕ)) → attributes_from n groups ≡ attributes_from 0 (drop n groups)
attributes_after zero [] = refl
attributes_after zero (group ∷ groups) = refl
attributes_after (suc n) [] = refl
attributes_after (suc n) (group ∷ groups) = attributes_after n groups
