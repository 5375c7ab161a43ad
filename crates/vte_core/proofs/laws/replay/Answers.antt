-- The headline: by induction over the chunks. A call reports what its bytes add, and what is reported of a longer
-- stream is what was reported before and what is added (`events_grow`).
use Rattle.vte_core.proofs.Common.{append-nil, arith, Bor, events, flat_map, flat_map-append, get_or, List, rules, Some, take, take_all, take_more, ℕ, [], ◌∷◌}
use Rattle.vte_core.proofs.laws.replay.Goals as goal
use Rattle.vte_core.proofs.lemmas.streams.After.{after_events-append, events-empty}
use Rattle.vte_core.proofs.lemmas.streams.StreamSteps.{events_grow}

abbrev now_of : Bor (List ℕ) → List ℕ
now_of chunk = chunk.now

pub new_with_size-parser-requires : goal.new_with_size-parser-requires
new_with_size-parser-requires g c = omega arith

-- At first, no chunk is read, and no event is given.
pub loop-chunk-init : goal.loop-chunk-init
loop-chunk-init g c = search (rules, arith, events-empty)

-- After one more chunk, its events are added to those of the chunks before.
pub loop-chunk-preserved : goal.loop-chunk-preserved
loop-chunk-preserved g c =
    let limit = Some g.row.OSC_RAW_BUF_SIZE in
    let chunks = c.args.chunks.now in
    let i = c.loop-chunk.chunk-index in
    let before = c.loop-chunk.invariant in
    let stream = flat_map now_of (take i chunks) in
    let chunk = get_or chunks i (record { ref_ptr = (0, 0); now = [] }) in
    rw (
      take_more chunks i (record { ref_ptr = (0, 0); now = [] }) c.loop-chunk-test.true,
      flat_map-append now_of
          (take i chunks) (chunk ∷ []),
      append-nil chunk.now,
    ) (record {
      performed =
          rw (
            events_grow limit stream chunk.now,
            after_events-append g.P.Perform.step
                (g.P.Perform.value_of c.args.performer.now) (events limit stream),
            ← before.performed,
          )
          (c.advance.ensures.performs stream before.has_read);
      has_read = c.advance.ensures.reads stream before.has_read;
    })

-- All chunks are read.
pub returns : goal.returns
returns g c =
    rw (take_all c.loop-chunk.chunk-index c.args.chunks.now c.loop-chunk-test.false) at c.loop-chunk.invariant.performed
