-- The palette entries that are left, each of two texts, lead from the handler so far to where all of them lead.
use Rattle.vte.proofs.ansi.calls.command.set_palette.Given as goal
use Rattle.vte.proofs.Common.{after, length, map, palette_entries_calls, ◌≡◌}

abbrev pub invariant-loop-left : goal.invariant-loop-left
invariant-loop-left g l =
    after g.H.Handler.step (g.H.Handler.value_of l.handler)
    (palette_entries_calls l.terminator (map (λ piece. piece.now) l.left))
    ≡ after g.H.Handler.step (g.H.Handler.value_of l.fn.handler)
    (palette_entries_calls l.terminator (map (λ piece. piece.now) l.texts))

abbrev pub decreases-loop-left : goal.decreases-loop-left
decreases-loop-left g l = length l.left
