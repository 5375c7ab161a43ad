-- The call is at this position, after intermediates.
use Rattle.vte_core.proofs.Common.{Advances, caller_looks, chunk_call, eqb, EscapeIntermediate, EventsOutsideRuns, lookahead, MayGoOn, not, per_byte, SpendsWithin, ◌≡◌}
use Rattle.vte_core.proofs.parser.machine.Machine.read_intermediates.Given as goal

abbrev pub invariant-loop-position : goal.invariant-loop-position
invariant-loop-position g l = record {
  advances : Advances EventsOutsideRuns (chunk_call (not (eqb g.row.MAY_STOP 0)) g.P.CountedPerform.step
      g.P.CountedPerform.is_terminated g.B.Buffer.limit l.input.bytes.now)
      (g.P.CountedPerform.value_of l.initial.performer) (g.P.CountedPerform.value_of l.performer) l.from l.position
      l.initial.self l.self;
  may_go_on : MayGoOn (chunk_call (not (eqb g.row.MAY_STOP 0)) g.P.CountedPerform.step g.P.CountedPerform.is_terminated
      g.B.Buffer.limit l.input.bytes.now) (g.P.CountedPerform.value_of l.performer);
  in_state : l.self.state ≡ EscapeIntermediate;
  spends : SpendsWithin (per_byte 1) (caller_looks 0) (lookahead 0)
      l.input.bytes.now l.from l.position l.initial.self l.self l.initial.reader l.reader;
}
