-- A data byte is put. What any other one does, its own function says.
use Rattle.vte_core.proofs.Common.{sym, ◌∙◌}
use Rattle.vte_core.proofs.lemmas.positions.DataStretches.{advances-put}
use Rattle.vte_core.proofs.lemmas.positions.Stretches.{advances-without_promise}
use Rattle.vte_core.proofs.parser.machine.Machine.read_data_byte.Goals as goal

pub returns-then-is_device_data-clause-advances : goal.returns-then-is_device_data-clause-advances
returns-then-is_device_data-clause-advances g c =
    advances-put c.requires.in_state c.requires.before_end c.byte_at-byte.ensures.value c.requires.may_go_on
    (sym c.is_device_data.ensures ∙ c.if-is_device_data.true) c.put_byte.ensures.value

pub returns-clause-advances : goal.returns-clause-advances
returns-clause-advances g c = advances-without_promise c.end_data_or_drop_byte.ensures.advances
