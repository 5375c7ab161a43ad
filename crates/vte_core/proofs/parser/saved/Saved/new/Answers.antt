-- What is saved first is the state of a new parser.
use Rattle.vte_core.proofs.Common.{Empty, refl, Text}
use Rattle.vte_core.proofs.lemmas.fields.PlaceOfState.{is_at-between}
use Rattle.vte_core.proofs.lemmas.streams.After.{has_read-nothing}
use Rattle.vte_core.proofs.parser.saved.Saved.new.Goals as goal

pub returns-clause-reads : goal.returns-clause-reads
returns-clause-reads c = record {
  reads = λ parser r. has_read-nothing (is_at-between (r.state (Text Empty) refl));
}
