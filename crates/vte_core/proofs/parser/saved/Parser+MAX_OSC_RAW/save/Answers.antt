-- Of a text in which nothing is open, nothing but the state counts.
use Rattle.vte_core.proofs.Common.{rules}
use Rattle.vte_core.proofs.lemmas.fields.PlaceOfState.{reads_saved}
use Rattle.vte_core.proofs.parser.saved.Parser+MAX_OSC_RAW.save.Goals as goal

pub returns-in-Text-Empty : goal.returns-in-Text-Empty
returns-in-Text-Empty c = reads_saved (record {
  state = search rules;
  intermediates = search rules;
  too_many_intermediates = search rules;
  params = search rules;
  number = search rules;
  joined = search rules;
  bytes = search rules;
  ends = search rules;
  lost = search rules;
  are_ends = search rules;
})
