-- Of a text in which nothing is open, nothing but the state counts.
use Rattle.vte_core.proofs.Common.{rules}
use Rattle.vte_core.proofs.parser.saved.Parser+MAX_OSC_RAW.restore.Goals as goal

pub returns-then-saved-eq0 : goal.returns-then-saved-eq0
returns-then-saved-eq0 c = λ stream has_read. has_read.reads (record c.args.self.now { machine = _ }) (record {
  state = search rules;
  intermediates = λ has. absurd has;
  too_many_intermediates = λ has. absurd has;
  params = λ head. absurd head;
  number = λ head. absurd head;
  joined = λ head. absurd head;
  bytes = search rules;
  ends = search rules;
  lost = search rules;
})
