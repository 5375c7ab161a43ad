-- The ends are sorted if std says so, and otherwise two that follow each other are not in order.
use Rattle.std.proofs.lemmas.List.Sorted.{non_decreasing_from_is_sorted}
use Rattle.vte_core.proofs.Common.{arith, rules, ◌+◌}
use Rattle.vte_core.proofs.store.are_piece_ends.Goals as goal

pub returns-then-is_sorted : goal.returns-then-is_sorted
returns-then-is_sorted c =
    let sorted = rw c.if-is_sorted.true at (non_decreasing_from_is_sorted _ _ c.is_sorted.ensures.cases) in
    (λ passes. (sorted, search rules), λ are_ends. search rules)

pub returns-else-is_sorted : goal.returns-else-is_sorted
returns-else-is_sorted c =
    let unsorted = rw c.if-is_sorted.false at (non_decreasing_from_is_sorted _ _ c.is_sorted.ensures.cases) in (
      λ passes. absurd (search rules),
      λ are_ends.
          absurd (omega (arith, are_ends.0 unsorted.0 (unsorted.0 + 1) 0 (omega arith) unsorted.1, unsorted.2 0)),
    )
