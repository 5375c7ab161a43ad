-- The pieces that are left fit what is left of the size exactly if all fit.
use Rattle.vte.proofs.ansi.calls.performer.pieces_fit.Given as goal
use Rattle.vte.proofs.Common.{concat, drop, fits_text_capacity, length, map, nat_le, ◌+◌, ◌≡◌}

abbrev pub invariant-loop-piece : goal.invariant-loop-piece
invariant-loop-piece l =
    nat_le
    (length (concat (map (λ piece. piece.now) (drop l.piece-index l.pieces)))
    + length (map (λ piece. piece.now) (drop l.piece-index l.pieces))) l.left
    ≡ fits_text_capacity l.size (map (λ piece. piece.now) l.pieces)
