-- Nothing is ever held, so the handler receives the calls of the whole stream.
use Rattle.std.proofs.Common.{false, refl, []}
use Rattle.examples.proofs.page.rings.Goals as goal
use Rattle.vte_core.specs.Stream.{default_limit}

pub returns : goal.returns
returns c =
    (c.advance.ensures.if_never_pending (λ value answer not. not)).follows false [] c.in-Ok.ensures.parses_all
    (rw (c.empty_stream.ensures default_limit) refl)
