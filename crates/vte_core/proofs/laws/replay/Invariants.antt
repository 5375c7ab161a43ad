-- After some of the chunks the performer has the events of these, and the parser has read them.
use Rattle.vte_core.proofs.Common.{after, events, flat_map, Some, take, ◌≡◌}
use Rattle.vte_core.proofs.laws.replay.Given as goal
use Rattle.vte_core.specs.Parser.{HasRead}

abbrev pub invariant-loop-chunk : goal.invariant-loop-chunk
invariant-loop-chunk g l =
    let stream = flat_map (λ chunk. chunk.now) (take l.chunk-index l.chunks) in
    let limit = Some g.row.OSC_RAW_BUF_SIZE in
    record {
      performed : g.P.Perform.value_of l.performer
          ≡ after g.P.Perform.step (g.P.Perform.value_of l.initial.performer) (events limit stream);
      has_read : HasRead l.parser stream;
    }
