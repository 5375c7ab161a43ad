-- A word comes off the front byte by byte, and off no other text (`Words`).
use Rattle.vte_types.proofs.laws.words_are_prefixes.Goals as goal
use Rattle.vte_types.proofs.lemmas.Words.{after_word-append, after_word-other}

pub returns : goal.returns
returns c = record { front = after_word-append; no_prefix = after_word-other }
