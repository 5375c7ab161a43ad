-- The restored parser says what is open.
use Rattle.vte_c.proofs.Common.{ap, ◌∙◌}
use Rattle.vte_c.proofs.lemmas.OpenCodes.{kind-code, kind-nothing_by_code}
use Rattle.vte_c.proofs.vte_is_open.Goals as goal
use Rattle.vte_c.specs.OpenCode.{open_code}

pub returns-clause-kind : goal.returns-clause-kind
returns-clause-kind c = λ stream reads.
    kind-code c.open.result ∙ ap open_code (c.open.ensures.kind stream (c.restore.ensures stream reads))

pub returns-clause-closed : goal.returns-clause-closed
returns-clause-closed c = λ closed stream reads.
    (c.open.ensures.closed (kind-nothing_by_code c.open.result closed) stream (c.restore.ensures stream reads)).1
