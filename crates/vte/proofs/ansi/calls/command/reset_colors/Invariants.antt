-- The indices among the texts that are left lead from the handler so far to where those of all texts lead.
use Rattle.vte.proofs.ansi.calls.command.reset_colors.Given as goal
use Rattle.vte.proofs.Common.{after, decimal_number, drop, filter_map, map, ResetColor, ◌≡◌}

abbrev pub invariant-loop-text : goal.invariant-loop-text
invariant-loop-text g l =
    after g.H.Handler.step (g.H.Handler.value_of l.handler)
    (map (λ index. ResetColor index) (filter_map decimal_number (map (λ piece. piece.now) (drop l.text-index l.texts))))
    ≡ after g.H.Handler.step (g.H.Handler.value_of l.fn.handler)
    (map (λ index. ResetColor index) (filter_map decimal_number (map (λ piece. piece.now) l.texts)))
