-- The store has the open command in the state of one, and in every other state none is open.
use Rattle.vte_core.proofs.Common.{sym, ◌∙◌}
use Rattle.vte_core.proofs.lemmas.positions.Open.{none_is_open, stored_is_open}
use Rattle.vte_core.proofs.parser.long_parser.LongParser.stored.Goals as goal

pub returns-in-SystemCommand : goal.returns-in-SystemCommand
returns-in-SystemCommand g c = λ stream has_read. c.len.ensures ∙ stored_is_open c.in-SystemCommand.is has_read

pub returns-in_default : goal.returns-in_default
returns-in_default g c = λ stream has_read. sym (none_is_open _ stream c.in_default.not-SystemCommand has_read)
