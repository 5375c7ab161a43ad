-- ST unhooks and leads to a text; any other byte that is no data and ends nothing is dropped.
use Rattle.vte_core.proofs.Common.{refl, sym, ◌∙◌}
use Rattle.vte_core.proofs.lemmas.bytes.Classes.{ends_no_data, terminator_is_high}
use Rattle.vte_core.proofs.lemmas.fields.PlaceOfState.{is_at-by}
use Rattle.vte_core.proofs.lemmas.places.PlaceLeads.{data-dropped, data-terminator}
use Rattle.vte_core.proofs.lemmas.positions.SettledStates.{settled-same_state}
use Rattle.vte_core.proofs.lemmas.positions.Stretches.{advances-given}
use Rattle.vte_core.proofs.lemmas.positions.TakenBytes.{advances-in, takes-byte, takes-in_data}
use Rattle.vte_core.proofs.parser.machine.Machine.end_data_or_drop_byte.Goals.{else-byte-eq-STRING_TERMINATOR, then-byte-eq-STRING_TERMINATOR}
use Rattle.vte_core.proofs.parser.machine.Machine.end_data_or_drop_byte.Goals as goal

pub returns-clause-advances : goal.returns-clause-advances
returns-clause-advances g c =
    let ordinary = sym c.ends_sequence.ensures ∙ c.if-ends_sequence.false in
    let parser = c.args.self.now in
    let requires = c.requires.may_read in
    elim c.if-byte-eq-STRING_TERMINATOR.branch [
      -- The byte is ST.
      | then-byte-eq-STRING_TERMINATOR branch ↦
          let is_terminator = branch.if-byte-eq-STRING_TERMINATOR.true in
          rw (branch.self-is, branch.performer-is)
          (advances-given c.requires.no_data
          (advances-in requires.in_state requires.before_end requires.looked_at requires.may_go_on ordinary
          (takes-in_data parser
          (takes-byte branch.unhook.ensures.value (record { fields = (refl, refl) })
          (data-terminator (terminator_is_high is_terminator) (rw is_terminator refl)))) tt))
      -- A byte that is dropped.
      | else-byte-eq-STRING_TERMINATOR branch ↦
          let dropped =
          data-dropped
          (ends_no_data c.args.byte ordinary branch.if-byte-eq-STRING_TERMINATOR.false) c.requires.no_data in
          rw (branch.self-is, branch.performer-is)
          (advances-given c.requires.no_data
          (advances-in requires.in_state requires.before_end requires.looked_at requires.may_go_on ordinary
          (takes-in_data parser (takes-byte refl (is_at-by requires.in_state tt) dropped))
          (settled-same_state requires.in_state tt)))
    ]
