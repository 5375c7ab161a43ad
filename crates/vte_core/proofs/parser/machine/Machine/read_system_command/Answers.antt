-- Data join the open piece. The byte after them ends the command, or is `;`, BEL or a control: by its class, since data
-- would have been read.
use Rattle.vte_core.proofs.Common.{arith, HoldsItems, IsCommandData, length, Machine, ne_eqb, refl, rules, subst, sym, [], ◌++◌, ◌<◌, ◌∙◌, ◌∷◌, ◌≡◌}
use Rattle.vte_core.proofs.lemmas.bytes.Classes.{other_is_control}
use Rattle.vte_core.proofs.lemmas.fields.PlaceOfState.{is_at-by}
use Rattle.vte_core.proofs.lemmas.fields.Stores.{stored_pieces}
use Rattle.vte_core.proofs.lemmas.places.PlaceLeads.{command-bell, command-control, command-item}
use Rattle.vte_core.proofs.lemmas.positions.DataStretches.{advances-items}
use Rattle.vte_core.proofs.lemmas.positions.SettledStates.{settled-same_state}
use Rattle.vte_core.proofs.lemmas.positions.Stretches.{advances-given, advances-then}
use Rattle.vte_core.proofs.lemmas.positions.TakenBytes.{advances-in, takes-byte, takes-in_system_command}
use Rattle.vte_core.proofs.parser.machine.Machine.read_system_command.Goals.{else-byte-eq59+else-byte-eq-BELL, else-byte-eq59+then-byte-eq-BELL, then-byte-eq59}
use Rattle.vte_core.proofs.parser.machine.Machine.read_system_command.Goals as goal

-- Only data is left.
pub returns-in-None-clause-advances : goal.returns-in-None-clause-advances
returns-in-None-clause-advances g c = search (rules, arith, advances-items)

-- CAN, SUB or ESC after the data ends the command.
pub returns-then-ends_sequence-clause-advances : goal.returns-then-ends_sequence-clause-advances
returns-then-ends_sequence-clause-advances g c = search (rules, arith, advances-then, advances-items)

-- Another byte after the data: `;` ends the piece, BEL the command, and a control is dropped.
pub returns-clause-advances : goal.returns-clause-advances
returns-clause-advances g c =
    let requires = c.requires in
    let limit = g.B.Buffer.limit in
    let in_state = requires.in_state in
    let found = c.find_command_data_end-end.ensures in
    let byte = c.in-Some.byte in
    let here = rw c.in-Some.is at c.get_byte.ensures in
    let after_data : Machine _ =
    record { state = c.args.self.now.state; collected = c.args.self.now.collected; command = c.push_data.new.self } in
    let before_end : c.find_command_data_end-end.result < length c.args.input.bytes.now = here.0 in
    let ordinary = sym c.ends_sequence.ensures ∙ c.if-ends_sequence.false in
    let no_data : IsCommandData byte → ⊥ = λ is_data. found.ended before_end (rw here.1 at is_data) in
    advances-then
    (advances-items {next =
    after_data} requires found in_state c.reserve_if_kept.ensures.same_items c.push_data.ensures.holds)
    (elim c.if-byte-eq59.branch [
      -- `;`: the next piece begins.
      | then-byte-eq59 branch ↦
          let is_semicolon : byte ≡ 0x3b = branch.if-byte-eq59.true in
          rw (branch.self-is, branch.performer-is)
          (advances-given tt (advances-in in_state before_end here.1 requires.may_go_on ordinary
          (takes-in_system_command after_data (λ items keeps. takes-byte refl
          (is_at-by in_state
          (subst (λ b. HoldsItems limit branch.end_piece.new.self (items ++ b ∷ [])) (sym is_semicolon)
          (branch.end_piece.ensures.holds items keeps)))
          (command-item (omega (arith, is_semicolon))))) (settled-same_state in_state tt)))
      -- BEL: the command is reported.
      | else-byte-eq59+then-byte-eq-BELL branch ↦
          rw (branch.self-is, branch.performer-is)
          (advances-given tt (advances-in in_state before_end here.1 requires.may_go_on ordinary
          (takes-in_system_command after_data
          (λ items keeps. takes-byte
          (rw (stored_pieces keeps) branch.dispatch.ensures.value) (record { fields = (refl, refl) })
          (command-bell (other_is_control byte ordinary no_data branch.if-byte-eq59.false)
          (rw branch.if-byte-eq-BELL.true refl)))) tt))
      -- Another control is dropped.
      | else-byte-eq59+else-byte-eq-BELL branch ↦
          rw (branch.self-is, branch.performer-is)
          (advances-given tt (advances-in in_state before_end here.1 requires.may_go_on ordinary
          (takes-in_system_command after_data
          (λ items keeps. takes-byte refl (is_at-by in_state keeps)
          (command-control (other_is_control byte ordinary no_data branch.if-byte-eq59.false)
          (ne_eqb _ _ branch.if-byte-eq-BELL.false)))) (settled-same_state in_state tt)))
    ])
