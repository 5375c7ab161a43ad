-- The pieces cut so far and those still to cut are all that the ends cut.
use Rattle.vte_core.proofs.Common.{cut_data, drop, get_or, length, max_pieces, take, ℕ, ◌++◌, ◌<◌, ◌≡◌, ◌≤◌}
use Rattle.vte_core.proofs.lemmas.fields.Pieces.{contents}
use Rattle.vte_core.proofs.store.CommandStore.dispatch.Given as goal

abbrev pub invariant-loop-index : goal.invariant-loop-index
invariant-loop-index g l = record {
  all : length l.pieces ≡ max_pieces;
  within : l.start ≤ length l.bytes;
  ordered : (k : ℕ) → l.index ≤ k → k < length l.ends → l.start ≤ get_or l.ends k 0;
  pieces : contents (take l.index l.pieces) ++ cut_data l.start l.bytes (drop l.index l.ends)
      ≡ cut_data 0 l.bytes l.ends;
}
