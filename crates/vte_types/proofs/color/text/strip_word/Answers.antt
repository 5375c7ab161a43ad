-- What std leaves of a text is what follows the word (`after_word-is`).
use Rattle.std.proofs.lemmas.Bool.Decides.{Decides-eqb}
use Rattle.std.proofs.lemmas.Slice.Eq.{strip_prefix_is}
use Rattle.vte_types.proofs.color.text.strip_word.Goals as goal
use Rattle.vte_types.proofs.lemmas.Words.{after_word-is}

pub returns : goal.returns
returns c =
    after_word-is c.args.word.now c.args.text.now _
    (strip_prefix_is Decides-eqb c.args.text.now c.args.word.now _ c.strip_prefix.ensures.cases)
