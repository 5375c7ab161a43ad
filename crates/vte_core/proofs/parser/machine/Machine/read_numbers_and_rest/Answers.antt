-- Numbers first, then a final byte at once, nothing, or the rest of the head.
use Rattle.vte_core.proofs.Common.{refl, rules, sym, ◌∙◌}
use Rattle.vte_core.proofs.lemmas.positions.HeadStretches.{advances-final_byte, advances-head, ControlHead}
use Rattle.vte_core.proofs.lemmas.positions.Stretches.{advances-then}
use Rattle.vte_core.proofs.parser.machine.Machine.read_numbers_and_rest.Goals as goal

-- After the numbers comes a final byte.
pub returns-then-is_final-clause-advances : goal.returns-then-is_final-clause-advances
returns-then-is_final-clause-advances g c =
    let ended = c.end_control_sequence.ensures in
    advances-final_byte c.requires c.read_numbers-head.ensures.reads c.in-Some.is
    (sym c.is_final.ensures ∙ c.if-is_final.true) ended.takes ended.handles.settled ended.value

pub end_control_sequence-requires-clause-no_overflow : goal.end_control_sequence-requires-clause-no_overflow
end_control_sequence-requires-clause-no_overflow g c =
    let next = rw c.in-Some.is at c.read_numbers-head.ensures.reads.next_byte in search rules

-- Numbers and the end of the call.
pub returns-then-is_none-clause-advances : goal.returns-then-is_none-clause-advances
returns-then-is_none-clause-advances g c =
    advances-head ControlHead c.requires.in_state c.read_numbers-head.ensures.reads.head c.requires.may_go_on refl

-- After the numbers comes more of the head.
pub returns-clause-advances : goal.returns-clause-advances
returns-clause-advances g c =
    advances-then
    (advances-head ControlHead c.requires.in_state c.read_numbers-head.ensures.reads.head c.requires.may_go_on refl)
    c.read_rest_of_head-2.ensures.advances
