-- The iterator's size is the number of groups, and the record is written after their data.
use Rattle.vte_c.proofs.Common.{ap, length, sym, ◌∙◌, ◌≡◌}
use Rattle.vte_c.proofs.event_writer.EventWriter.write_any_sequence.Goals as goal

pub returns-then-is_wanted : goal.returns-then-is_wanted
returns-then-is_wanted c =
    let count : c.size_hint.result.0 ≡ length c.args.params.now =
    ap (λ p. p.0) c.size_hint.ensures.value ∙ ap length c.iter.ensures.value in
    rw (sym c.is_wanted.ensures ∙ c.if-is_wanted.true)
    (rw (c.with_count-record.ensures, c.with_flag.ensures, c.with_intermediates.ensures, c.new.ensures, count) at
    (c.finish_event.ensures _ _ c.write_groups-end.ensures))
