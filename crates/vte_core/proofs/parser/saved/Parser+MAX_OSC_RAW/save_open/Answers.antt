-- Each field is kept, so a machine made of them has read the same (`reads_saved`).
use Rattle.vte_core.proofs.Common.{refl, rules}
use Rattle.vte_core.proofs.lemmas.fields.PlaceOfState.{reads_saved}
use Rattle.vte_core.proofs.parser.saved.Parser+MAX_OSC_RAW.save_open.Goals as goal

pub returns : goal.returns
returns c = λ stream has_read. reads_saved (record {
  state = c.encode_state-saved.ensures;
  intermediates = search rules;
  too_many_intermediates = search rules;
  params = search rules;
  number = λ head. refl;
  joined = search rules;
  bytes = search rules;
  ends = search rules;
  lost = search rules;
  are_ends = search rules;
}) stream has_read
