-- A command's bytes are all open, and in another state none is.
use Rattle.vte_core.proofs.Common.{ap, arith, false≢true, length, rules, sym, ◌∙◌}
use Rattle.vte_core.proofs.lemmas.positions.Open.{none_is_open, stored_is_open}
use Rattle.vte_core.proofs.parser.long_parser.LongParser.forget_ended_command.Goals.{in-SystemCommand, in_default}
use Rattle.vte_core.proofs.parser.long_parser.LongParser.forget_ended_command.Goals as goal

pub returns-then-not-matches-clause-stored : goal.returns-then-not-matches-clause-stored
returns-then-not-matches-clause-stored g c = λ stream has_read. elim c.match-matches.branch [
  | in-SystemCommand v ↦ absurd (false≢true (sym c.if-not-matches.true ∙ v.matches-is))
  | in_default v ↦
      ap length c.remove_items.ensures.no_bytes ∙ sym (none_is_open _ stream v.in_default.not-SystemCommand has_read)
]

pub returns-else-not-matches-clause-stored : goal.returns-else-not-matches-clause-stored
returns-else-not-matches-clause-stored g c = search (rules, arith, stored_is_open)
