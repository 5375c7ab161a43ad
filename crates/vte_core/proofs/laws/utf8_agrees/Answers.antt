-- The encoding of a character is well formed and spells its number (`dividing/Utf8Agrees`).
use Rattle.vte_core.proofs.laws.utf8_agrees.Goals as goal
use Rattle.vte_core.proofs.lemmas.dividing.Utf8Agrees.{encoded_is_well_formed, scalar_of-encoded}

pub returns-clause-character : goal.returns-clause-character
returns-clause-character c =
    λ character is_scalar.
    record {
      well_formed = encoded_is_well_formed character is_scalar;
      same = scalar_of-encoded character is_scalar;
    }
