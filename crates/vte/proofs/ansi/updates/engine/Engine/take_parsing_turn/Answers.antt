-- Slices in which no update begins add up to a longer prefix (`parsing-more`). The turn ends with the slice in which
-- one begins, with the last byte, or when memory is refused.
use Rattle.vte.proofs.ansi.updates.engine.Engine.take_parsing_turn.Goals.{then-begins-via-else-begins+then-read-bytes, then-begins-via-then-begins}
use Rattle.vte.proofs.ansi.updates.engine.Engine.take_parsing_turn.Goals as goal
use Rattle.vte.proofs.Common.{arith, refl, sym, ◌∙◌}
use Rattle.vte.proofs.lemmas.turns.EngineTurns.{reaches-reserved, reaches-same, slice-parsed}
use Rattle.vte.proofs.lemmas.turns.Slices.{count-whole, parsing-all, parsing-ends, parsing-more, parsing-nothing, slice-size}

-- Before the first slice, nothing is read.
pub loop-slice-init : goal.loop-slice-init
loop-slice-init g c =
    record {
      within = omega arith;
      some = λ some_bytes. some_bytes;
      reaches = λ state is_at. (omega arith, parsing-nothing _ state c.args.bytes.now (reaches-same is_at));
    }

-- Memory was refused for a slice: the processor is before it.
pub returns-then-not-reserve-clause-parsed : goal.returns-then-not-reserve-clause-parsed
returns-then-not-reserve-clause-parsed g c = λ state is_at.
    let so_far = (c.loop-slice.invariant.reaches state is_at).1 in
    record {
      parsed = tt;
      refused = record {
        none_begin = so_far.none_begin;
        is_at = reaches-reserved c.reserve.ensures.reserved so_far.is_at;
      };
    }

-- A slice in which an update begins ends the turn there; one that has the last byte, and begins none, ends it too.
pub returns-then-begins-clause-parsed : goal.returns-then-begins-clause-parsed
returns-then-begins-clause-parsed g c = λ state is_at.
    let so_far = (c.loop-slice.invariant.reaches state is_at).1 in
    let size_is =
    slice-size c.args.bytes.now c.loop-slice.read c.loop-slice.invariant.within
    (omega (arith, c.min-count.ensures)) in
    let parsed_slice =
    slice-parsed so_far c.if-not-reserve.ensures.reserved size_is
    (sym is_at.processor_is.holds ∙ c.requires.nothing_held) c.parse_until_begin-parsed.ensures.parses_prefix in
    elim c.then-begins.branch [
      -- An update begins.
      | then-begins-via-then-begins branch ↦
          record {
            parsed = parsing-ends _ state c.args.bytes.now _ so_far c.loop-slice.invariant.within refl parsed_slice
                branch.if-begins.true;
            refused = tt;
          }
      -- No update begins in the slice, and all bytes are read.
      | then-begins-via-else-begins+then-read-bytes branch ↦
          record {
            parsed = parsing-all _ state c.args.bytes.now
                (parsing-more _ state c.args.bytes.now _ so_far refl parsed_slice branch.if-begins.false)
                (omega (arith, branch.if-read-bytes.true));
            refused = tt;
          }
    ]

-- A slice in which none begins is read whole, and more is left.
pub loop-slice-preserved : goal.loop-slice-preserved
loop-slice-preserved g c =
    let before = c.loop-slice.invariant in
    let size_is =
    slice-size c.args.bytes.now c.loop-slice.read before.within
    (omega (arith, c.min-count.ensures)) in
    record {
      within = omega (arith, c.parse_until_begin-parsed.ensures.within, size_is, c.min-count.ensures, before.within);
      some =
          λ slices_left.
          omega (
            arith,
            c.parse_until_begin-parsed.ensures.within,
            size_is,
            c.min-count.ensures,
            before.within,
            c.if-read-bytes.false,
          );
      reaches = λ state is_at.
          let so_far = before.reaches state is_at in
          let parsed_slice =
          slice-parsed so_far.1 c.if-not-reserve.ensures.reserved size_is
          (sym is_at.processor_is.holds ∙ c.requires.nothing_held) c.parse_until_begin-parsed.ensures.parses_prefix in (
            omega (
              arith,
              so_far.0,
              count-whole parsed_slice c.if-begins.false,
              size_is,
              c.min-count.ensures,
              before.some
                  c.loop-slice-test.true,
            ),
            parsing-more _ state c.args.bytes.now _ so_far.1 refl parsed_slice c.if-begins.false,
          );
    }

-- The loop ends with all bytes read.
pub returns-clause-parsed : goal.returns-clause-parsed
returns-clause-parsed g c = λ state is_at.
    let so_far = c.loop-slice.invariant.reaches state is_at in
    record {
      parsed = parsing-all _ state c.args.bytes.now so_far.1 (omega (arith, so_far.0, c.loop-slice-test.false));
      refused = tt;
    }
