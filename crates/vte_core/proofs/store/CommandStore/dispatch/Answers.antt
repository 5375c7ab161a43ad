-- With fewer than 16 ends one more piece is after the last end; with 16 it is left out, as in the definition.
use Rattle.vte_core.proofs.Common.{arith, rules, take_rest}
use Rattle.vte_core.proofs.lemmas.fields.Pieces.{contents_all, contents_last}
use Rattle.vte_core.proofs.store.CommandStore.dispatch.Goals as goal

pub returns : goal.returns
returns g c = search (rules, arith, contents_last, take_rest, contents_all)
