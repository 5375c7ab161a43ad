-- The pieces so far are written.
use Rattle.vte_c.proofs.Common.{AreaHolds, buffers_of, flat_map, map, piece_bytes, take}
use Rattle.vte_c.proofs.event_writer.EventWriter.write_pieces.Given as goal

abbrev pub invariant-loop-piece : goal.invariant-loop-piece
invariant-loop-piece l =
    AreaHolds (buffers_of l.fn.self) l.self l.end
    (flat_map piece_bytes (map (λ piece. piece.now) (take l.piece-index l.pieces)))
