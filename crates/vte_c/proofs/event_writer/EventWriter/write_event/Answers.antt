-- Before the write the area holds no data of the event (`holds-nothing`), so after it the area holds exactly these
-- bytes.
use Rattle.vte_c.proofs.Common.{ap, arith, Buffers}
use Rattle.vte_c.proofs.event_writer.EventWriter.write_event.Goals as goal
use Rattle.vte_c.proofs.lemmas.Buffers.{holds-nothing}

pub finish_event-requires : goal.finish_event-requires
finish_event-requires c =
    let stored = c.write-end.ensures.holds _ _ (holds-nothing c.args.self.now) in
    omega
    (arith, c.write-end.ensures.not_before_start, ap (λ (written : Buffers). written.data_used) stored.same_buffers)

pub returns : goal.returns
returns c = c.finish_event.ensures _ _ (c.write-end.ensures.holds _ _ (holds-nothing c.args.self.now))
