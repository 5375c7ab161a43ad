-- The call is before this byte, which neither is printed nor begins a longer character, and has reported no run.
use Rattle.vte_core.proofs.Common.{Advances, caller_looks, chunk_call, Empty, EventsOutsideRuns, false, from_to, is_in, length, lookahead, looks_of, per_byte, printed_ascii, SpendsWithin, Text, true, ◌+◌, ◌-◌, ◌≡◌, ◌≤◌}
use Rattle.vte_core.proofs.parser.machine.Machine.read_outside_runs.Given as goal
use Rattle.vte_core.specs.private.Prelude.{MayReadByte}

abbrev pub invariant-loop-byte : goal.invariant-loop-byte
invariant-loop-byte g l = record {
  advances : Advances EventsOutsideRuns
      (chunk_call true g.P.CountedPerform.step g.P.CountedPerform.is_terminated g.B.Buffer.limit l.input.bytes.now)
      (g.P.CountedPerform.value_of l.fn.performer) (g.P.CountedPerform.value_of l.performer) l.from l.position l.fn.self
      l.self;
  may_read : MayReadByte
      (chunk_call true g.P.CountedPerform.step g.P.CountedPerform.is_terminated g.B.Buffer.limit l.input.bytes.now)
      (g.P.CountedPerform.value_of l.performer) (Text Empty) l.self l.position l.byte;
  other : is_in printed_ascii l.byte ≡ false;
  lone : is_in (from_to 0xc2 0xf4) l.byte ≡ false;
  spends : SpendsWithin (per_byte 3) (caller_looks 0) (lookahead 1)
      l.input.bytes.now l.from l.position l.fn.self l.self l.fn.reader l.reader;
  looks_at_least : looks_of l.fn.reader + l.position + 1 ≤ looks_of l.reader + l.from;
}

abbrev pub decreases-loop-byte : goal.decreases-loop-byte
decreases-loop-byte g l = length l.input.bytes.now - l.position
