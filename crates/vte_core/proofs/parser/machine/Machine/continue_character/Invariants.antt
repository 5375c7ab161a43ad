-- The call is inside the character that was open, and has reported nothing.
use Rattle.vte_core.proofs.Common.{caller_looks, chunk_call, eqb, lookahead, not, per_byte, SpendsWithin, ◌≡◌}
use Rattle.vte_core.proofs.lemmas.positions.Characters.{GoesOn}
use Rattle.vte_core.proofs.parser.machine.Machine.continue_character.Given as goal

abbrev pub invariant-loop-position : goal.invariant-loop-position
invariant-loop-position g l = record {
  goes : GoesOn (chunk_call (not (eqb g.row.MAY_STOP 0)) g.P.CountedPerform.step g.P.CountedPerform.is_terminated
      g.B.Buffer.limit l.input.bytes.now) (g.P.CountedPerform.value_of l.initial.performer) l.from l.position
      l.fn.opened l.still_open l.self;
  same : g.P.CountedPerform.value_of l.performer ≡ g.P.CountedPerform.value_of l.initial.performer;
  spends : SpendsWithin (per_byte 1) (caller_looks 0) (lookahead 0)
      l.input.bytes.now l.from l.position l.initial.self l.self l.initial.reader l.reader;
}
