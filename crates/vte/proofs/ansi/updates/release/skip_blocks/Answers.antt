-- A block in which neither sequence begins is added whole.
use Rattle.vte.proofs.ansi.updates.release.skip_blocks.Goals as goal
use Rattle.vte.proofs.Common.{ap, arith, cases_lt, drop, inl, inr, length, length-drop, take, take_all, ◌-◌, ◌∙◌, ◌≡◌}
use Rattle.vte.proofs.lemmas.updates.Seen.{neither-block}

pub loop-unread-preserved : goal.loop-unread-preserved
loop-unread-preserved c =
    let invariant = c.loop-unread.invariant in
    let from = c.loop-unread.unread - 32 in
    let block : c.in-Some.block.now ≡ take 34 (drop from c.args.bytes.now) =
    c.in-Some.ensures.cases.same
    ∙ ap (take 34) (take_all (length c.args.bytes.now - from) (drop from c.args.bytes.now)
    (rw length-drop (omega arith))) in
    let no_private_sequence = rw block at c.has_no_private_sequence.ensures c.if-has_no_private_sequence.true in
    record {
      within = omega (arith, invariant.within);
      none = λ k low high. elim (cases_lt k c.loop-unread.unread) [
        | inl inside ↦
            neither-block c.args.bytes.now from 32 no_private_sequence k low (omega (arith, c.loop-unread-test.true))
        | inr later ↦ invariant.none k later high
      ];
    }
