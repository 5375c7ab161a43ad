-- The call is at this position, and no character is open there.
use Rattle.vte_core.proofs.Common.{caller_looks, chunk_call, eqb, HasReadWithLimit, IsAtPosition, IsSettled, length, List, lookahead, not, per_byte, SpendsWithin, ℕ, ◌-◌, ◌<◌}
use Rattle.vte_core.proofs.parser.machine.Machine.drive_loop.Given as goal

abbrev pub invariant-loop-position : goal.invariant-loop-position
invariant-loop-position g l = record {
  is_at_position : (stream : List ℕ) → HasReadWithLimit g.B.Buffer.limit l.fn.self stream
      → IsAtPosition (chunk_call (not (eqb g.row.MAY_STOP 0)) g.P.CountedPerform.step g.P.CountedPerform.is_terminated
      g.B.Buffer.limit l.input.bytes.now) (g.P.CountedPerform.value_of l.fn.performer)
      (g.P.CountedPerform.value_of l.performer) stream l.position l.self;
  settled : l.position < length l.input.bytes.now → IsSettled l.self.state;
  spends : SpendsWithin (per_byte 5) (caller_looks 0) (lookahead 2)
      l.input.bytes.now 0 l.position l.fn.self l.self l.fn.reader l.reader;
}

abbrev pub decreases-loop-position : goal.decreases-loop-position
decreases-loop-position g l = length l.input.bytes.now - l.position
