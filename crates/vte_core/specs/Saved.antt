-- What a saved parser has read.
use Rattle.std.specs.Prelude.{List, replicate, ℕ, ◌≡◌}
use Rattle.vte_core.specs.declared.parser.Parser.{Parser}
use Rattle.vte_core.specs.declared.parser.saved.Saved.{Saved}
use Rattle.vte_core.specs.Parser.{HasRead}
use Rattle.vte_core.specs.private.SavedLayout.{IsRestored}

-- Every parser restored from it continues as one that has read the stream.
pub record HasReadSaved (saved : Saved) (stream : List ℕ) : Type 0 where
  pub reads : (parser : Parser 1024) → IsRestored saved parser.machine → HasRead parser stream

-- ---- a parser of zeros

-- A field of n zeros.
abbrev pub zeros_of : ℕ → List ℕ
zeros_of n = replicate n 0

-- What a new parser saves: it has read the empty stream.
abbrev pub zeros : Saved
zeros = record {
  intermediate_count = 0;
  intermediates = zeros_of 2;
  group_count = 0;
  lengths = zeros_of 32;
  number_count = 0;
  numbers = zeros_of 32;
  number = 0;
  joined = 0;
  too_many_intermediates = 0;
  byte_count = 0;
  bytes = zeros_of 1024;
  end_count = 0;
  ends = zeros_of 16;
  lost = 0;
  state = zeros_of 4;
}

-- Every byte is zero.
abbrev pub IsZero : Saved → Type 0
IsZero saved = saved ≡ zeros
