-- The lengths so far and what is left are all numbers, and no length is 0.
use Rattle.std.proofs.Common.{All}
use Rattle.vte_core.proofs.Common.{length, sum, take, ◌+◌, ◌<◌, ◌≡◌}
use Rattle.vte_core.proofs.params.are_flat_groups.Given as goal

abbrev pub invariant-loop-length : goal.invariant-loop-length
invariant-loop-length l = record {
  taken : sum (take l.length-index l.lengths) + l.left ≡ length l.numbers;
  filled : All (λ n. 0 < n) (take l.length-index l.lengths);
}
