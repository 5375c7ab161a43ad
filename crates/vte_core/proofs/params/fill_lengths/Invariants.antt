-- As many lengths as turns are stored, and each is 1.
use Rattle.std.specs.Prelude.{replicate}
use Rattle.vte_core.proofs.Common.{◌≡◌}
use Rattle.vte_core.proofs.params.fill_lengths.Given as goal

abbrev pub invariant-loop : goal.invariant-loop
invariant-loop l = l.lengths.items ≡ replicate l.counter 1
