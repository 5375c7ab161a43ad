-- One more turn is taken (`taken_turns-more`), until all bytes are read or a turn is refused memory.
use Rattle.vte.proofs.ansi.updates.engine.Engine.advance.Goals as goal
use Rattle.vte.proofs.Common.{arith, drop, length, take, ◌+◌, ◌-◌, ◌≡◌}
use Rattle.vte.proofs.lemmas.turns.EngineTurns.{engine_reads-all, engine_reads-until, reaches-same, rest-size, taken_turns-more, taken_turns-none, taken_turns-refused}

-- Before the first turn, nothing is read.
pub loop-turn-init : goal.loop-turn-init
loop-turn-init g c =
    record {
      within = omega arith;
      some = λ some_bytes. some_bytes;
      reaches = λ state is_at. taken_turns-none _ state c.args.bytes.now (reaches-same is_at);
    }

-- After one more turn, bytes are left.
pub loop-turn-preserved : goal.loop-turn-preserved
loop-turn-preserved g c =
    let before = c.loop-turn.invariant in
    let size = rest-size c.args.bytes.now c.loop-turn.read before.within in
    record {
      within = omega (arith, before.within, c.in-Ok.ensures.within, size);
      some = λ turns_left. omega (arith, before.within, c.in-Ok.ensures.within, size, c.if-read-bytes.false);
      reaches = taken_turns-more before.reaches (before.some c.loop-turn-test.true) c.in-Ok.ensures.turned;
    }

-- A turn has bytes to read.
pub take_turn-requires : goal.take_turn-requires
take_turn-requires g c =
    record {
      not_empty = rw (rest-size c.args.bytes.now c.loop-turn.read c.loop-turn.invariant.within)
          (omega (arith, c.loop-turn.invariant.some c.loop-turn-test.true));
    }

-- The turn has read the last byte.
pub returns-then-read-bytes : goal.returns-then-read-bytes
returns-then-read-bytes g c =
    let before = c.loop-turn.invariant in
    engine_reads-all c.args.bytes.now
    (taken_turns-more before.reaches (before.some c.loop-turn-test.true) c.in-Ok.ensures.turned)
    (λ state is_at. c.if-read-bytes.true)

-- The turn was refused memory.
pub returns-in-Err : goal.returns-in-Err
returns-in-Err g c =
    let bytes = c.args.bytes.now in
    let read = c.loop-turn.read in
    let size = rest-size bytes read c.loop-turn.invariant.within in
    let left : length (take (length bytes - read) (drop read bytes)) - c.in-Err.refused.read
    ≡ length bytes - (read + c.in-Err.refused.read) = omega (arith, size) in
    engine_reads-until bytes (taken_turns-refused c.loop-turn.invariant.reaches c.in-Err.ensures.turned)
    (omega (arith, c.loop-turn.invariant.within, c.in-Err.ensures.within, size))
    (rw left at c.in-Err.ensures.lacks_memory)

-- After as many turns as there are bytes, all bytes are read.
pub returns : goal.returns
returns g c =
    engine_reads-all c.args.bytes.now c.loop-turn.invariant.reaches
    (λ state is_at. let reached = c.loop-turn.invariant.reaches state is_at in
    omega (arith, reached.enough, c.loop-turn-test.false, c.loop-turn.invariant.within))
