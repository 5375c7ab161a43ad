-- The texts that are left, the next of them for this code, lead from the handler so far to where all texts lead.
use Rattle.vte.proofs.ansi.calls.command.set_dynamic_colors.Given as goal
use Rattle.vte.proofs.Common.{after, drop, dynamic_calls, map, ◌+◌, ◌≡◌}

abbrev pub invariant-loop-text : goal.invariant-loop-text
invariant-loop-text g l =
    (l.code ≡ l.first + l.text-index)
    × (after g.H.Handler.step (g.H.Handler.value_of l.handler)
    (dynamic_calls l.code l.terminator (map (λ piece. piece.now) (drop l.text-index l.texts)))
    ≡ after g.H.Handler.step (g.H.Handler.value_of l.fn.handler)
    (dynamic_calls l.first l.terminator (map (λ piece. piece.now) l.texts)))
