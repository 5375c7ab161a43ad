-- A copy has the state, what is collected and the items, so it has read the same (`reads_cloned`).
use Rattle.std.proofs.lemmas.List.Elements.{same_from_all_zip}
use Rattle.vte_core.proofs.Common.{arith, rules}
use Rattle.vte_core.proofs.lemmas.fields.PlaceOfState.{reads_cloned}
use Rattle.vte_core.proofs.parser.ParserClone.clone.Goals as goal

pub returns : goal.returns
returns g c = search (rules, arith, same_from_all_zip, reads_cloned)
