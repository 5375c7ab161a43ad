-- Something is open unless `open` answers `Nothing`.
use Rattle.vte_core.proofs.Common.{ap, false≢true, not, sym, ◌∙◌}
use Rattle.vte_core.proofs.parser.machine.Machine.is_open.Goals.{in-Nothing, in_default}
use Rattle.vte_core.proofs.parser.machine.Machine.is_open.Goals as goal

pub returns : goal.returns
returns g c = record {
  closed = λ closed. elim c.match-matches.branch [
    | in-Nothing branch ↦ c.open.ensures.closed branch.in-Nothing.is
    | in_default branch ↦ absurd (false≢true (sym closed ∙ ap not branch.matches-is))
  ];
  opens = λ opened. elim c.match-matches.branch [
    | in-Nothing branch ↦ absurd (false≢true (sym (ap not branch.matches-is) ∙ opened))
    | in_default branch ↦ c.open.ensures.opens branch.in_default.not-Nothing
  ];
}
