-- From the end back, from ESC to ESC: a begin counts, an end is the last one and ends the search, and any other
-- sequence changes nothing (`updates/Seen`).
use Rattle.vte.proofs.ansi.updates.release.find_release.Goals as goal
use Rattle.vte.proofs.Common.{arith, length-append, sym, ◌∙◌}
use Rattle.vte.proofs.lemmas.updates.Seen.{is_round, last_escape, seen-all, seen-begin_before, seen-end, seen-nothing, seen-other_before, seen-round, seen-skipped, tail-sequence, unread-decreases}

-- Nothing is seen yet.
pub loop-position-init : goal.loop-position-init
loop-position-init c =
    let skipped = c.skip_blocks-unread.ensures in
    record {
      at_most = omega (arith, c.saturating_sub.ensures, skipped.within);
      seen = λ held more held_tail.
          seen-skipped held_tail _ _ skipped.within (omega (arith, c.saturating_sub.ensures)) skipped.none_between
          (seen-nothing held_tail _ c.saturating_sub.ensures);
    }

-- A begin of an update: one more is counted.
pub loop-position-preserved-then-begins_update : goal.loop-position-preserved-then-begins_update
loop-position-preserved-then-begins_update c =
    let invariant = c.loop-position.invariant in
    let skipped = c.skip_blocks-unread-in-Some.ensures in
    let round = is_round c.args.bytes.now c.loop-position.unread (omega (arith, invariant.at_most)) c.in-Some.ensures
    c.saturating_sub-in-Some.ensures skipped.within skipped.none_between in
    record {
      at_most = omega (arith, invariant.at_most, unread-decreases round);
      seen = λ held more held_tail.
          seen-round round held_tail (invariant.seen held more held_tail) (λ last from low near.
          seen-begin_before last from low near (omega (arith, held_tail.start_is, length-append held more))
          (rw (tail-sequence held_tail) at (sym c.begins_update.ensures.value ∙ c.if-begins_update.true)));
    }

-- Any other sequence at the ESC changes nothing.
pub loop-position-preserved : goal.loop-position-preserved
loop-position-preserved c =
    let invariant = c.loop-position.invariant in
    let skipped = c.skip_blocks-unread-in-Some.ensures in
    let round = is_round c.args.bytes.now c.loop-position.unread (omega (arith, invariant.at_most)) c.in-Some.ensures
    c.saturating_sub-in-Some.ensures skipped.within skipped.none_between in
    record {
      at_most = omega (arith, invariant.at_most, unread-decreases round);
      seen = λ held more held_tail.
          seen-round round held_tail (invariant.seen held more held_tail) (λ last from low near.
          seen-other_before last from low near
          (rw (tail-sequence held_tail) at (sym c.begins_update.ensures.value ∙ c.if-begins_update.false))
          (rw (tail-sequence held_tail) at (sym c.ends_update.ensures.value ∙ c.if-ends_update.false)));
    }

-- The last end of an update.
pub returns-then-ends_update : goal.returns-then-ends_update
returns-then-ends_update c = λ held more held_tail no_end.
    let invariant = c.loop-position.invariant in
    let last =
    last_escape held_tail c.in-Some.position _ (omega (arith, invariant.at_most)) c.in-Some.ensures.0
    c.in-Some.ensures.1
    (invariant.seen held more held_tail) in
    seen-end last.inside last.seen
    (rw (tail-sequence held_tail) at (sym c.ends_update.ensures.value ∙ c.if-ends_update.true))

-- If no ESC is left, there is no end-update either.
pub returns : goal.returns
returns c = λ held more held_tail no_end.
    let invariant = c.loop-position.invariant in
    seen-all held_tail _ _ _ no_end (omega (arith, invariant.at_most)) c.in_default.ensures
    (invariant.seen held more held_tail)
