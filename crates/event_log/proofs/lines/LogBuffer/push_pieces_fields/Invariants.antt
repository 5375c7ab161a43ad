-- The count of the pieces is pushed, and the fields of those passed so far.
use Rattle.event_log.proofs.Common.{blank, decimal, ExtendsLine, flat_map, hex_field, length, take, ◌++◌}
use Rattle.event_log.proofs.lines.LogBuffer.push_pieces_fields.Given as goal

abbrev pub invariant-loop-piece : goal.invariant-loop-piece
invariant-loop-piece l =
    let fields = flat_map (λ piece. hex_field piece.now) (take l.piece-index l.pieces) in
    ExtendsLine l.fn.self (blank ++ decimal (length l.pieces) ++ fields) l.self
