-- A new machine is at the place where a stream begins.
use Rattle.vte_core.proofs.Common.{refl}
use Rattle.vte_core.proofs.lemmas.streams.After.{has_read-nothing}
use Rattle.vte_core.proofs.parser.machine.Machine.new.Goals as goal

pub returns-clause-reads : goal.returns-clause-reads
returns-clause-reads g c = has_read-nothing (record { fields = (refl, refl) })
