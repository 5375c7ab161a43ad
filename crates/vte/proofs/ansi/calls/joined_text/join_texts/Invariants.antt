-- The texts so far are joined, and the size is the same.
use Rattle.vte.proofs.ansi.calls.joined_text.join_texts.Given as goal
use Rattle.vte.proofs.Common.{drop, map, ◌≡◌}
use Rattle.vte.proofs.lemmas.calls.JoinedTexts.{Joins}

abbrev pub invariant-loop-piece : goal.invariant-loop-piece
invariant-loop-piece g l = record {
  joins : Joins l.malformed (g.B.TextBuffer.text_capacity l.fn.text) (g.B.TextBuffer.stored l.text) l.is_first
      (map (λ piece. piece.now) (drop l.piece-index l.pieces))
      (map (λ piece. piece.now) l.pieces);
  same_capacity : g.B.TextBuffer.text_capacity l.text ≡ g.B.TextBuffer.text_capacity l.fn.text;
}
