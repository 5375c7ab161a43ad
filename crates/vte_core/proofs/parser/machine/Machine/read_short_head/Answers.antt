-- A number first, then a final byte at once, `;` and more numbers, or the rest of the head.
use Rattle.vte_core.proofs.Common.{class_of, refl, rules, sym, ◌∙◌, ◌≡◌}
use Rattle.vte_core.proofs.lemmas.fields.Heads.{holds-parameter}
use Rattle.vte_core.proofs.lemmas.positions.HeadStretches.{advances-final_byte, advances-head, ControlHead, reads_head-byte, reads_head-then}
use Rattle.vte_core.proofs.lemmas.positions.Stretches.{advances-then}
use Rattle.vte_core.proofs.parser.machine.Machine.read_short_head.Goals as goal

-- After the number comes a final byte.
pub returns-then-is_final-clause-advances : goal.returns-then-is_final-clause-advances
returns-then-is_final-clause-advances g c =
    let ended = c.end_control_sequence.ensures in
    advances-final_byte c.requires.may_read c.read_numbers-head.ensures.reads c.in-Some.is
    (sym c.is_final.ensures ∙ c.if-is_final.true) ended.takes ended.handles.settled ended.value

pub end_control_sequence-requires-clause-no_overflow : goal.end_control_sequence-requires-clause-no_overflow
end_control_sequence-requires-clause-no_overflow g c =
    let next = rw c.in-Some.is at c.read_numbers-head.ensures.reads.next_byte in search rules

-- After the number comes `;`.
pub returns-then-byte-eq59-clause-advances : goal.returns-then-byte-eq59-clause-advances
unfolding class_of
returns-then-byte-eq59-clause-advances g c =
    let numbers = c.read_numbers-head.ensures in
    let next = rw c.in-Some.is at numbers.reads.next_byte in
    let is_semicolon : c.in-Some.byte ≡ 59 = c.if-byte-eq59.true in
    advances-then
    (advances-head ControlHead c.requires.may_read.in_state
    (reads_head-then numbers.reads.head (reads_head-byte next.0 next.1 (rw is_semicolon refl) (λ head s.
    rw is_semicolon
    (holds-parameter head 59 numbers.may_have_parameters s refl c.end_number.ensures.same_intermediates
    c.end_number.ensures.counts))))
    c.requires.may_read.may_go_on refl)
    c.read_more_numbers.ensures.advances

-- After the number comes more of the head.
pub returns-clause-advances : goal.returns-clause-advances
returns-clause-advances g c =
    advances-then
    (advances-head ControlHead c.requires.may_read.in_state c.read_numbers-head.ensures.reads.head
    c.requires.may_read.may_go_on refl)
    c.read_more_numbers-2.ensures.advances
