-- Four bytes with the length are written, and then the piece.
use Rattle.vte_c.proofs.Common.{append_assoc}
use Rattle.vte_c.proofs.event_writer.EventWriter.write_piece.Goals as goal

pub returns : goal.returns
returns c = λ buffers text holds.
    rw (← append_assoc text, ← c.min-length.ensures)
    (c.write.ensures.holds buffers _ (c.write-end.ensures.holds buffers text holds))
