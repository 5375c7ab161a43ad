-- The count is written, and the numbers so far.
use Rattle.vte_c.proofs.Common.{AreaHolds, Buffers, count_byte, flat_map, length, List, take, two_bytes, ℕ, [], ◌++◌, ◌∷◌}
use Rattle.vte_c.proofs.event_writer.EventWriter.write_group.Given as goal

abbrev pub invariant-loop-number : goal.invariant-loop-number
invariant-loop-number l = (buffers : Buffers) (text : List ℕ) → AreaHolds buffers l.fn.self l.fn.start text
    → AreaHolds buffers l.self l.end
    ((text ++ count_byte (length l.group) ∷ []) ++ flat_map two_bytes (take l.number-index l.group))
