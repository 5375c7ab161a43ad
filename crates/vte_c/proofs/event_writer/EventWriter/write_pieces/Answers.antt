-- A piece more is written after those before it.
use Rattle.vte_c.proofs.Common.{append-nil, buffers_of, flat_map-append, map-append, piece_bytes, take_more, []}
use Rattle.vte_c.proofs.event_writer.EventWriter.write_pieces.Goals as goal

pub loop-piece-preserved : goal.loop-piece-preserved
loop-piece-preserved c =
    let more =
    take_more c.args.pieces.now c.loop-piece.piece-index
    (record { ref_ptr = (0, 0); now = [] }) c.loop-piece-test.true in
    rw (more, map-append, flat_map-append piece_bytes, append-nil)
    (c.write_piece-end.ensures (buffers_of c.args.self.now) _ c.loop-piece.invariant)
