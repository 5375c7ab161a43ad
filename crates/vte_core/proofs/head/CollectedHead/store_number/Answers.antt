-- The open number joins those that are collected if there is room, and else is only counted as one too many.
use Rattle.vte_core.proofs.Common.{arith, count_of, ◌<◌}
use Rattle.vte_core.proofs.head.CollectedHead.store_number.Goals as goal
use Rattle.vte_core.proofs.lemmas.fields.Heads.{stores-full, stores-push}

pub returns-then-is_full-clause-holds : goal.returns-then-is_full-clause-holds
returns-then-is_full-clause-holds c = λ text k.
    let s =
    stores-full k
    (c.is_full.ensures.0 c.if-is_full.true) in
    record { groups = s.groups; more = s.more }

pub returns-clause-holds : goal.returns-clause-holds
returns-clause-holds c = λ text k.
    let room : count_of c.args.self.now.params < 32 = grind arith in
    stores-push k room (rw c.requires c.push.ensures)
