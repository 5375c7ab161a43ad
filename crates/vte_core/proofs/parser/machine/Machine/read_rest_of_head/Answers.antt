-- The head first. Then nothing is left, or the next byte ends it: final, CAN, SUB or ESC, a control, or one that is
-- dropped, by its class.
use Rattle.vte_core.proofs.Common.{class_of, refl, rules, sym, ◌∙◌}
use Rattle.vte_core.proofs.lemmas.bytes.Classes.{class-control, other_is_dropped}
use Rattle.vte_core.proofs.lemmas.fields.PlaceOfState.{is_at-by}
use Rattle.vte_core.proofs.lemmas.places.PlaceLeads.{byte-dropped, byte-executed}
use Rattle.vte_core.proofs.lemmas.positions.HeadStretches.{advances-final_byte, advances-head, advances-past_head, ControlHead, takes_bytes-head}
use Rattle.vte_core.proofs.lemmas.positions.TakenBytes.{takes-byte}
use Rattle.vte_core.proofs.parser.machine.Machine.read_rest_of_head.Goals.{else-ends_sequence+else-is_plain_control, else-ends_sequence+then-is_plain_control, then-ends_sequence}
use Rattle.vte_core.proofs.parser.machine.Machine.read_rest_of_head.Goals as goal

-- A final byte ends the sequence.
pub returns-then-is_final-clause-advances : goal.returns-then-is_final-clause-advances
returns-then-is_final-clause-advances g c =
    let ended = c.end_control_sequence.ensures in
    advances-final_byte c.requires c.read_head-head.ensures.reads c.in-Some.is
    (sym c.is_final.ensures ∙ c.if-is_final.true) ended.takes ended.handles.settled ended.value

pub end_control_sequence-requires-clause-no_overflow : goal.end_control_sequence-requires-clause-no_overflow
end_control_sequence-requires-clause-no_overflow g c =
    let next = rw c.in-Some.is at c.read_head-head.ensures.reads.next_byte in search rules

-- CAN, SUB and ESC leave it, a control is executed inside it, and DEL or a byte from 80 is dropped.
pub returns-in-Some-clause-advances : goal.returns-in-Some-clause-advances
returns-in-Some-clause-advances g c =
    let read = c.read_head-head.ensures in
    let next = rw c.in-Some.is at read.reads.next_byte in
    let progress = c.read_head-head.result.progress in
    let b = c.in-Some.byte in
    elim c.if-ends_sequence.branch [
      -- CAN, SUB or ESC.
      | then-ends_sequence branch ↦
          rw (branch.self-is, branch.performer-is)
          (advances-past_head ControlHead c.requires.in_state read.reads.head next c.requires.may_go_on
          branch.end_sequence.ensures.takes branch.end_sequence.ensures.handles.settled)
      -- The byte is a control.
      | else-ends_sequence+then-is_plain_control branch ↦
          let is_control = class-control _ (sym branch.is_plain_control.ensures ∙ branch.if-is_plain_control.true) in
          rw (branch.self-is, branch.performer-is)
          (advances-past_head ControlHead c.requires.in_state read.reads.head next c.requires.may_go_on
          (takes_bytes-head ControlHead progress refl (rw is_control refl) (λ bytes is_at.
          takes-byte branch.execute_control.ensures.value (is_at-by refl is_at)
          (byte-executed refl is_control))) tt)
      -- A byte that is dropped.
      | else-ends_sequence+else-is_plain_control branch ↦
          let ordinary = sym c.ends_sequence.ensures ∙ branch.if-ends_sequence.false in
          let dropped =
          other_is_dropped (class_of b) (rw c.in-Some.is at read.next_not_in_head)
          (sym c.is_final.ensures ∙ c.if-is_final.false) ordinary
          (sym branch.is_plain_control.ensures ∙ branch.if-is_plain_control.false) in
          rw (branch.self-is, branch.performer-is)
          (advances-past_head ControlHead c.requires.in_state read.reads.head next c.requires.may_go_on
          (takes_bytes-head ControlHead progress refl ordinary (λ bytes is_at.
          takes-byte refl (is_at-by refl is_at)
          (byte-dropped refl refl dropped))) tt)
    ]

-- All bytes are of the head.
pub returns-clause-advances : goal.returns-clause-advances
returns-clause-advances g c =
    advances-head ControlHead c.requires.in_state c.read_head-head.ensures.reads.head c.requires.may_go_on refl
