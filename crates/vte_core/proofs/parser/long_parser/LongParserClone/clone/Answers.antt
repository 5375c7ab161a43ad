-- As for `Parser`: a copy has read the same. It takes no more memory than it needs.
use Rattle.std.proofs.lemmas.List.Elements.{same_from_all_zip}
use Rattle.vte_core.proofs.Common.{arith, rules}
use Rattle.vte_core.proofs.lemmas.fields.PlaceOfState.{reads_cloned}
use Rattle.vte_core.proofs.parser.long_parser.LongParserClone.clone.Goals as goal

pub returns : goal.returns
returns g c = search (rules, arith, same_from_all_zip, reads_cloned)
