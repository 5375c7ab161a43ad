-- What the parser reserves: the parsed and held bytes stay as they were, and there is memory for as many more.
use Rattle.vte.proofs.ansi.updates.engine.Engine.reserve.Goals as goal
use Rattle.vte.proofs.Common.{length}

pub returns-clause-reserved : goal.returns-clause-reserved
returns-clause-reserved g c = record {
  stays = λ parsed held timeout had. record {
    has_read = c.reserve.ensures.reads parsed had.has_read;
    last = had.last;
    timeout_is = had.timeout_is;
    holds = had.holds;
    has_memory = λ some_held. c.reserve.ensures.keeps_memory parsed (length held) (had.has_memory some_held);
  };
  memory =
      λ yes parsed held timeout had.
      rw (← had.holds, ← c.len.ensures.count) (c.reserve.ensures.memory yes parsed had.has_read);
  keeps_memory = c.reserve.ensures.keeps_memory;
  lost = c.reserve.ensures.keeps_lost;
  lacks_memory = λ no stream reads. rw (← c.len.ensures.count) (c.reserve.ensures.lacks_memory no stream reads);
}
