-- The groups so far are written, each with a semicolon before it, and the others are left.
use Rattle.vte_core.proofs.Common.{Bor, flat_map, HasWritten, IsPlainFormatter, List, map, ℕ, ◌++◌, ◌≡◌}
use Rattle.vte_core.proofs.lemmas.streams.ParameterTexts.{after_semicolon}
use Rattle.vte_core.proofs.params.write_groups.Given as goal

abbrev pub invariant-loop-group : goal.invariant-loop-group
invariant-loop-group g l =
    (map (λ (group : Bor (List ℕ)). group.now) l.yielded ++ l.group-iterator ≡ l.initial.group-iterator)
    × (IsPlainFormatter l.initial.f → HasWritten g.W.Write.write_str_gives l.initial.f
    (flat_map after_semicolon (map (λ (group : Bor (List ℕ)). group.now) l.yielded)) l.f)
