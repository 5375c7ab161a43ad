-- The state and the fields say what is open of every stream that the parser may have read.
use Rattle.vte_core.proofs.Common.{sym, ◌∙◌}
use Rattle.vte_core.proofs.lemmas.positions.Open.{nothing_open_is_closed, something_open_is_open, which_is_open}
use Rattle.vte_core.proofs.parser.machine.Machine.open.Goals as goal

pub returns : goal.returns
returns g c = record {
  kind = λ stream has_read. c.open.ensures ∙ which_is_open has_read;
  closed = λ nothing stream has_read. nothing_open_is_closed c.args.self.now (sym c.open.ensures ∙ nothing) has_read;
  opens = λ something stream has_read.
      something_open_is_open (λ nothing. something (c.open.ensures ∙ nothing)) has_read;
}
