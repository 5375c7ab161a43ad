-- The word is stripped if the text begins with it.
use Rattle.std.proofs.lemmas.Slice.Eq.{strip_prefix_is}
use Rattle.vte.proofs.ansi.calls.split.strip_word.Goals as goal
use Rattle.vte.proofs.Common.{arith, Decides-eqb}

pub returns : goal.returns
returns c =
    let stripped = strip_prefix_is Decides-eqb c.args.text.now c.args.word.now _ c.strip_prefix.ensures.cases in
    grind (arith, stripped, c.words_are_prefixes.ensures.front, c.words_are_prefixes.ensures.no_prefix)
