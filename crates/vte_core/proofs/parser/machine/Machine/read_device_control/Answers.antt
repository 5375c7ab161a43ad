-- The head first. Then nothing is left, or the next byte hooks, ends the string, or is dropped, by its class.
use Rattle.vte_core.proofs.Common.{class_of, refl, rules, sym, ◌∙◌}
use Rattle.vte_core.proofs.lemmas.bytes.Classes.{final_ends_nothing, other_in_head}
use Rattle.vte_core.proofs.lemmas.fields.PlaceOfState.{is_at-by}
use Rattle.vte_core.proofs.lemmas.places.PlaceLeads.{device-dropped}
use Rattle.vte_core.proofs.lemmas.positions.HeadStretches.{advances-head, advances-past_head, DeviceHead, match-none, takes_bytes-head}
use Rattle.vte_core.proofs.lemmas.positions.TakenBytes.{takes-byte}
use Rattle.vte_core.proofs.parser.machine.Machine.read_device_control.Goals.{else-is_final+else-ends_sequence, else-is_final+then-ends_sequence, then-is_final}
use Rattle.vte_core.proofs.parser.machine.Machine.read_device_control.Goals as goal

-- A byte after the head: final, CAN, SUB or ESC, or any other.
pub returns-in-Some : goal.returns-in-Some
returns-in-Some g c =
    let read = c.read_head-head.ensures in
    let next = rw c.in-Some.is at read.reads.next_byte in
    let progress = c.read_head-head.result.progress in
    let b = c.in-Some.byte in
    record {
      advances = elim c.if-is_final.branch [
        -- A final byte hooks.
        | then-is_final branch ↦
            rw (branch.self-is, branch.performer-is)
            (advances-past_head DeviceHead c.requires.in_state read.reads.head next c.requires.may_go_on
            (takes_bytes-head DeviceHead progress refl
            (final_ends_nothing (class_of b) (sym c.is_final.ensures
            ∙ branch.if-is_final.true)) branch.hook.ensures.takes)
            branch.hook.ensures.handles.settled)
        -- CAN, SUB or ESC.
        | else-is_final+then-ends_sequence branch ↦
            rw (branch.self-is, branch.performer-is)
            (advances-past_head DeviceHead c.requires.in_state read.reads.head next c.requires.may_go_on
            branch.end_sequence.ensures.takes branch.end_sequence.ensures.handles.settled)
        -- A byte that is dropped.
        | else-is_final+else-ends_sequence branch ↦
            let ordinary = sym branch.ends_sequence.ensures ∙ branch.if-ends_sequence.false in
            let dropped =
            other_in_head (class_of b) (rw c.in-Some.is at read.next_not_in_head)
            (sym c.is_final.ensures ∙ branch.if-is_final.false) ordinary in
            rw (branch.self-is, branch.performer-is)
            (advances-past_head DeviceHead c.requires.in_state read.reads.head next c.requires.may_go_on
            (takes_bytes-head DeviceHead progress refl ordinary (λ bytes is_at.
            takes-byte refl (is_at-by refl is_at)
            (device-dropped refl dropped))) tt)
      ];
      reads_within = search rules;
    }

-- All bytes are of the head.
pub returns : goal.returns
returns g c =
    let read = c.read_head-head.ensures in
    let all = match-none _ c.read_head-head.result.next_byte c.in_default.not-Some read.reads.next_byte in
    record {
      advances = advances-head DeviceHead c.requires.in_state read.reads.head c.requires.may_go_on refl;
      reads_within = search rules;
    }
