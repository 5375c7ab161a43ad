-- The records of buffers leave out whether data was lost, so they stay as they are (`records-same_without_loss`).
use Rattle.vte_c.proofs.Common.{length, length-set, map, refl, set, take, without_loss, ◌≡◌}
use Rattle.vte_c.proofs.event_writer.EventWriter.write_loss.Goals as goal
use Rattle.vte_c.proofs.lemmas.ReadBack.{records-same_without_loss}

pub returns-then-self-index-eq-OSC : goal.returns-then-self-index-eq-OSC
returns-then-self-index-eq-OSC c =
    let writer = c.args.self.now in
    let size : length (set writer.records.now writer.command_index c.with_loss.result) ≡ length writer.records.now =
    length-set writer.records.now writer.command_index c.with_loss.result in
    let written : map without_loss
    (take writer.record_count (set writer.records.now writer.command_index c.with_loss.result))
    ≡ map without_loss (take writer.record_count writer.records.now) =
    rw c.with_loss.ensures
    (records-same_without_loss writer.records.now writer.record_count writer.command_index _
    c.if-self-index-eq-OSC.true) in
    rw (size, written) refl
