-- As for `drive_loop`; and what is reported so far is reported by no run.
use Rattle.vte_core.proofs.Common.{caller_looks, chunk_call, ChunkCall, HasReadWithLimit, IsAtPosition, IsSettled, length, List, lookahead, Machine, per_byte, ReportsOutsideRuns, SpendsWithin, true, ℕ, ◌-◌, ◌<◌}
use Rattle.vte_core.proofs.parser.machine.Machine.drive_to_run.Given as goal

-- The call is at this position, and what it has reported belongs to no run.
pub record IsBeforeRun {V B : Type 0} (call : ChunkCall V) (first value : V) (position : ℕ) (before parser : Machine B)
    : Type 0 where
  pub is_at_position : (stream : List ℕ) → HasReadWithLimit call.limit before stream
      → IsAtPosition call first value stream position parser
  pub outside_runs : (stream : List ℕ) → HasReadWithLimit call.limit before stream
      → ReportsOutsideRuns call.limit stream call.bytes position

abbrev pub invariant-loop-position : goal.invariant-loop-position
invariant-loop-position g l = record {
  before_run : IsBeforeRun
      (chunk_call true g.P.CountedPerform.step g.P.CountedPerform.is_terminated g.B.Buffer.limit l.input.bytes.now)
      (g.P.CountedPerform.value_of l.fn.performer) (g.P.CountedPerform.value_of l.performer) l.position l.fn.self
      l.self;
  settled : l.position < length l.input.bytes.now → IsSettled l.self.state;
  spends : SpendsWithin (per_byte 7) (caller_looks 0) (lookahead 2)
      l.input.bytes.now 0 l.position l.fn.self l.self l.fn.reader l.reader;
}

abbrev pub decreases-loop-position : goal.decreases-loop-position
decreases-loop-position g l = length l.input.bytes.now - l.position
