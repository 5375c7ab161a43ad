-- One more text is joined, which fits (`Joins`), or one that is left out changes nothing.
use Rattle.vte.proofs.ansi.calls.joined_text.join_texts.Goals.{in-Some, in_default}
use Rattle.vte.proofs.ansi.calls.joined_text.join_texts.Goals as goal
use Rattle.vte.proofs.Common.{ap, arith, ◌∙◌}
use Rattle.vte.proofs.lemmas.calls.JoinedTexts.{joins-begin, joins-fits, joins-more, joins-same}

pub loop-piece-init : goal.loop-piece-init
loop-piece-init g c = record {
  joins = joins-begin c.clear.ensures.holds_nothing c.requires;
  same_capacity =
      c.clear.ensures.same_capacity;
}

pub push_part-requires : goal.push_part-requires
push_part-requires g c =
    let fits =
    joins-fits c.args.malformed c.args.pieces.now c.loop-piece.piece-index _ c.loop-piece-test.true
    c.loop-piece.invariant.joins c.in-Some.ensures in
    omega (arith, fits, c.loop-piece.invariant.same_capacity)

pub loop-piece-preserved : goal.loop-piece-preserved
loop-piece-preserved g c = elim c.match-text_in.branch [
  | in-Some branch ↦
      let more =
      joins-more c.args.malformed c.args.pieces.now c.loop-piece.piece-index _ c.loop-piece-test.true
      c.loop-piece.invariant.joins branch.in-Some.ensures in
      record {
        joins = rw (branch.text-is, branch.push_part.ensures.pushed, branch.is_first-is) more;
        same_capacity = ap g.B.TextBuffer.text_capacity branch.text-is ∙ branch.push_part.ensures.same_capacity
            ∙ c.loop-piece.invariant.same_capacity;
      }
  | in_default branch ↦
      record {
        joins =
            rw (branch.text-is, branch.is_first-is)
            (joins-same c.args.malformed c.args.pieces.now c.loop-piece.piece-index _ c.loop-piece-test.true
            c.loop-piece.invariant.joins branch.in_default.ensures);
        same_capacity = ap g.B.TextBuffer.text_capacity branch.text-is ∙ c.loop-piece.invariant.same_capacity;
      }
]
