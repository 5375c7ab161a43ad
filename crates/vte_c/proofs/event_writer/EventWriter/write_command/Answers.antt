-- The size of the data is its end minus its start. The end may saturate, but then the size is above 1,024 in any case
-- (`size-without_saturation`).
use Rattle.std.specs.Prelude.{◌^◌}
use Rattle.vte_c.proofs.Common.{ap, arith, Buffers, flat_map, is_at_limit, length, length-map, map, max_piece_bytes, min, nat_le, nat_tests, paused_if, piece_bytes, sym, ℕ, ◌+◌, ◌-◌, ◌<◌, ◌∙◌, ◌≡◌}
use Rattle.vte_c.proofs.event_writer.EventWriter.write_command.Goals as goal

size-without_saturation : (used size : ℕ) → used < 2 ^ 32
    → nat_le max_piece_bytes (min (used + size) (2 ^ 64 - 1) - used) ≡ nat_le max_piece_bytes size
size-without_saturation used size small = grind (arith, nat_tests)

pub returns-then-is_wanted : goal.returns-then-is_wanted
returns-then-is_wanted c =
    let size : ℕ = length (flat_map piece_bytes (map (λ piece. piece.now) c.args.pieces.now)) in
    let holds = c.write_pieces-end.ensures in
    let at_limit =
    rw (holds.end_is, size-without_saturation c.args.self.now.data_used size (omega arith)) at c.is_at_limit.ensures in
    let written =
    rw (c.with_count-record.ensures, c.with_flag.ensures, c.new.ensures) at (c.finish_event.ensures _ _ holds) in
    rw (sym c.is_wanted.ensures ∙ c.if-is_wanted.true, c.pause_if.ensures, at_limit, length-map)
    (ap (λ (stored : Buffers). paused_if (is_at_limit (length c.args.pieces.now) size) stored) written)
