-- What a parser has read.
use Rattle.std.specs.Prelude.{Bool, List, Option, Some, ℕ, ◌≡◌}
use Rattle.vte_core.specs.declared.parser.machine.Machine.{Machine}
use Rattle.vte_core.specs.declared.parser.Parser.{Parser}
use Rattle.vte_core.specs.Looks.{total_looks}
use Rattle.vte_core.specs.private.AtPlace.{HasReadWithLimit}

-- The parser continues as one that has read the stream: more bytes give the events that they add to
-- it. A new parser has read the empty stream, and each call preserves the relation. Callers need to
-- know nothing else about it.
abbrev pub HasRead : {N : ℕ} → Parser N → List ℕ → Type 0
HasRead {N} parser stream = HasReadWithLimit (Some N) parser.machine stream

-- Whether a parser lost data of the operating system command that is open, or else ended last.
abbrev pub lost_data : {N : ℕ} → Parser N → Bool
lost_data parser = parser.machine.command.lost

-- What contracts know of a parser with a limit or without one: this limit, which streams it has
-- read, whether it lost data, and its looks.
pub record ParserFacts : Type 1 where
  pub limit : Option ℕ
  pub has_read : List ℕ → Type 0
  pub lost : Bool
  pub looks : ℕ

-- The facts of a machine with this limit and these looks. The buffer's type doesn't matter.
abbrev pub machine_facts : {B : Type 0} → Option ℕ → Machine B → ℕ → ParserFacts
machine_facts limit machine looks = record {
  limit = limit;
  has_read = HasReadWithLimit limit machine;
  lost = machine.command.lost;
  looks = looks;
}

-- The facts of a parser with a limit of N bytes.
abbrev pub parser_facts : {N : ℕ} → Parser N → ParserFacts
parser_facts {N} parser = machine_facts (Some N) parser.machine (total_looks parser.looks)

-- The copy continues as the parser does: it has read the same, and lost data of the same command.
pub record IsCloneOfParser (parser clone : ParserFacts) : Type 0 where
  pub reads : (stream : List ℕ) → parser.has_read stream → clone.has_read stream
  pub lost : clone.lost ≡ parser.lost
