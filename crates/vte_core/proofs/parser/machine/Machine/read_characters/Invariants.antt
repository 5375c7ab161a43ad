-- The call is before this byte of a text. A byte has three looks at most, and one more if it is searched.
use Rattle.vte_core.proofs.Common.{Advances, AnyEvents, chunk_call, ChunkCall, Empty, false, length, List, looks_of, slice_index, Text, ℕ, ◌*◌, ◌+◌, ◌-◌, ◌<◌, ◌≡◌, ◌≤◌}
use Rattle.vte_core.proofs.parser.machine.Machine.read_characters.Given as goal
use Rattle.vte_core.specs.private.Prelude.{MayReadByte}

-- The call that reads these bytes.
abbrev pub call_at : (g : goal.Over) → List ℕ → ChunkCall g.P.CountedPerform.Value
call_at g bytes =
    chunk_call false g.P.CountedPerform.step g.P.CountedPerform.is_terminated g.B.Buffer.limit bytes

abbrev pub invariant-loop-next : goal.invariant-loop-next
invariant-loop-next g l = record {
  advances : Advances AnyEvents (call_at g l.input.bytes.now) (g.P.CountedPerform.value_of l.fn.performer)
      (g.P.CountedPerform.value_of l.performer) l.from l.position l.fn.self l.self;
  may_read : MayReadByte (call_at g l.input.bytes.now) (g.P.CountedPerform.value_of l.performer) (Text Empty) l.self
      l.position l.byte;
  prefix : length l.prefix.bytes.now ≤ length l.input.bytes.now;
  before_end : l.position < length l.prefix.bytes.now;
  same : (k : ℕ) → k < length l.prefix.bytes.now → slice_index l.prefix.bytes.now k ≡ slice_index l.input.bytes.now k;
  in_order : l.from ≤ l.position;
  -- Three looks per byte that was read, one at this byte, and one per byte up to where the prefix was searched.
  looks_at_most : looks_of l.reader + 4 * l.from
      ≤ looks_of l.fn.reader + 3 * l.position + length l.prefix.bytes.now + 1;
  -- If the search found an ESC at k, it has looked no further.
  escape : (k : ℕ) → l.position ≤ k → k < length l.prefix.bytes.now → slice_index l.input.bytes.now k ≡ 0x1b
      → looks_of l.reader + 4 * l.from ≤ looks_of l.fn.reader + 3 * l.position + k + 2;
  looks_at_least : looks_of l.fn.reader + l.position + 1 ≤ looks_of l.reader + l.from;
  keeps_memory : l.fn.self.command.capacity ≤ l.self.command.capacity;
}

abbrev pub decreases-loop-next : goal.decreases-loop-next
decreases-loop-next g l = length l.input.bytes.now - l.position
