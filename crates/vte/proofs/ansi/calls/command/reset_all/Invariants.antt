-- The indices from this one to 255 lead from the handler so far to where all 256 lead.
use Rattle.vte.proofs.ansi.calls.command.reset_all.Given as goal
use Rattle.vte.proofs.Common.{after, all_reset, map, range_with_len, ResetColor, ◌-◌, ◌≡◌}

abbrev pub invariant-loop-index : goal.invariant-loop-index
invariant-loop-index g l =
    after g.H.Handler.step (g.H.Handler.value_of l.handler)
    (map (λ index. ResetColor index) (range_with_len l.index (256 - l.index)))
    ≡ after g.H.Handler.step (g.H.Handler.value_of l.fn.handler) all_reset
