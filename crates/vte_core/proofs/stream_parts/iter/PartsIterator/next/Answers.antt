-- The first part is taken off, and the iterator is that of the rest.
use Rattle.vte_core.proofs.Common.{ap, arith, length, rules}
use Rattle.vte_core.proofs.lemmas.streams.Parts.{next_part}
use Rattle.vte_core.proofs.stream_parts.iter.PartsIterator.next.Goals as goal

pub returns-clause-steps : goal.returns-clause-steps
returns-clause-steps c = search (rules, arith, next_part)

pub returns-clause-goes : goal.returns-clause-goes
returns-clause-goes c = search (rules, arith, ap length (returns-clause-steps c))
