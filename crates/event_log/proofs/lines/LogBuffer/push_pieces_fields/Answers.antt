-- The count of the pieces, and then each one's field, are the fields of all (`pieces_fields-as_pushed`).
use Rattle.event_log.proofs.Common.{take_all}
use Rattle.event_log.proofs.lemmas.Fields.{pieces_fields-as_pushed}
use Rattle.event_log.proofs.lines.LogBuffer.push_pieces_fields.Goals as goal

pub returns : goal.returns
returns c =
    let all = take_all c.loop-piece.piece-index c.args.pieces.now c.loop-piece-test.false in
    rw (pieces_fields-as_pushed) (rw all at c.loop-piece.invariant)
