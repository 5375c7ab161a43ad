-- The call is at this position, and has read a byte in each round.
use Rattle.vte_core.proofs.Common.{chunk_call, ChunkCall, eqb, length, List, not, ℕ, ◌-◌, ◌<◌, ◌≡◌}
use Rattle.vte_core.proofs.lemmas.positions.BetweenCharacters.{ReadsOn}
use Rattle.vte_core.proofs.parser.machine.Machine.read_runs.Given as goal

-- The call that reads these bytes.
abbrev pub call_at : (g : goal.Over) → List ℕ → ChunkCall g.P.CountedPerform.Value
call_at g bytes =
    chunk_call (not (eqb g.row.MAY_STOP 0)) g.P.CountedPerform.step g.P.CountedPerform.is_terminated
    g.B.Buffer.limit bytes

abbrev pub invariant-loop-position : goal.invariant-loop-position
invariant-loop-position g l = record {
  reads_on : ReadsOn (call_at g l.input.bytes.now) (g.P.CountedPerform.value_of l.fn.performer)
      (g.P.CountedPerform.value_of l.performer) l.from l.position l.fn.self l.self l.fn.reader l.reader;
  reads_some : l.from ≡ l.position → l.position < length l.input.bytes.now;
}

abbrev pub decreases-loop-position : goal.decreases-loop-position
decreases-loop-position g l = length l.input.bytes.now - l.position
