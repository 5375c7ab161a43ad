-- A parameter byte makes the head longer. What any other byte does, `read_rest_of_head` says.
use Rattle.vte_core.proofs.Common.{refl, sym, ◌∙◌}
use Rattle.vte_core.proofs.lemmas.bytes.Classes.{parameter_is_head}
use Rattle.vte_core.proofs.lemmas.fields.Heads.{holds-parameter}
use Rattle.vte_core.proofs.lemmas.positions.HeadStretches.{advances-head, ControlHead, reads_head-byte}
use Rattle.vte_core.proofs.parser.machine.Machine.read_parameter_byte.Goals as goal

pub returns-then-is_parameter_byte-clause-advances : goal.returns-then-is_parameter_byte-clause-advances
returns-then-is_parameter_byte-clause-advances g c =
    let may_read = c.requires.may_read in
    let is_parameter = sym c.is_parameter_byte.ensures ∙ c.if-is_parameter_byte.true in
    let collected = c.collect_parameter_byte.ensures in
    advances-head ControlHead may_read.in_state
    (reads_head-byte may_read.before_end c.byte_at-byte.ensures.value (parameter_is_head _ is_parameter)
    (λ head has_read.
    holds-parameter head c.byte_at-byte.result (c.may_have_parameters.ensures.0 c.if-may_have_parameters.true) has_read
    is_parameter collected.same_intermediates collected.counts))
    may_read.may_go_on refl
