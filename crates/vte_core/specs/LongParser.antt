-- What a `LongParser` has read, and before which bytes it may be refused memory.
use Rattle.std.specs.List.{concat}
use Rattle.std.specs.Prelude.{Bool, Err, length, List, None, Ok, Result, ℕ, [], ◌++◌, ◌+◌, ◌<◌, ◌∷◌, ◌≡◌}
use Rattle.vte_core.specs.CommandMemory.{LacksMemoryAt}
use Rattle.vte_core.specs.declared.parser.long_parser.LongParser.{LongParser}
use Rattle.vte_core.specs.declared.parser.refused.Refused.{Refused}
use Rattle.vte_core.specs.Looks.{total_looks}
use Rattle.vte_core.specs.Outcome.{CommandToClose, ToClose}
use Rattle.vte_core.specs.Parser.{machine_facts, ParserFacts}
use Rattle.vte_core.specs.private.AtPlace.{HasReadWithLimit}
use Rattle.vte_core.specs.Stream.{outcome}
use Rattle.vte_core.specs.SystemCommand.{IsCommandData, max_pieces}

-- The parser continues as one that has read the stream; `HasRead` for a parser without a limit.
abbrev pub HasReadLong : {A : Type 0} → LongParser A → List ℕ → Type 0
HasReadLong parser stream = HasReadWithLimit None parser.machine stream

-- Whether a parser lost data of the operating system command that is open, or else ended last.
abbrev pub lost_data_long : {A : Type 0} → LongParser A → Bool
lost_data_long parser = parser.machine.command.lost

-- The facts of a parser without a limit.
abbrev pub long_parser_facts : {A : Type 0} → LongParser A → ParserFacts
long_parser_facts parser = machine_facts None parser.machine (total_looks parser.looks)

-- How many data bytes fit into the memory that a parser has allocated.
abbrev pub memory_of : {A : Type 0} → LongParser A → ℕ
memory_of parser = parser.machine.command.capacity

-- A parser's memory doesn't suffice for what it stores and the data bytes that begin at `from`.
abbrev pub LacksMemory : {A : Type 0} → LongParser A → List ℕ → ℕ → Type 0
LacksMemory parser bytes from = LacksMemoryAt parser.machine.command bytes from

-- A parser's memory doesn't suffice for what it stores and `more` data bytes.
abbrev pub LacksMemoryForMore : {A : Type 0} → LongParser A → ℕ → Type 0
LacksMemoryForMore parser more = memory_of parser < length parser.machine.command.bytes + more

-- How many bytes a call read that may be refused memory.
abbrev pub read_count : Result ℕ Refused → ℕ
read_count (Ok read) = read
read_count (Err refused) = refused.read

-- How many data bytes the open operating system command has in its first 16 pieces.
abbrev pub open_data_count : ToClose → ℕ
open_data_count (CommandToClose pieces lost) = length (concat pieces)
open_data_count _ = 0

-- The count at the end of a stream: 0 if no command is open.
abbrev pub open_command_size : List ℕ → ℕ
open_command_size stream = open_data_count (outcome None stream).to_close

-- If an operating system command is open, as many bytes are stored as its first 16 pieces have.
abbrev pub StoresPieces : {A : Type 0} → LongParser A → List ℕ → Type 0
StoresPieces parser stream =
    (pieces : List (List ℕ)) (lost : Bool)
    → (outcome None stream).to_close ≡ CommandToClose pieces lost
    → length parser.machine.command.bytes ≡ length (concat pieces)

-- The stream ends in an open operating system command with fewer than 16 `;`, and the byte is data
-- of its last piece.
pub record IsDataOfOpenCommand (stream : List ℕ) (byte : ℕ) : Type 0 where
  -- The pieces that `;` has ended, the one after them, and whether data was lost.
  pub pieces : List (List ℕ)
  pub last : List ℕ
  pub lost : Bool
  pub at_most : length pieces < max_pieces
  pub is_open : (outcome None stream).to_close ≡ CommandToClose (pieces ++ last ∷ []) lost
  pub is_data : IsCommandData byte
  -- The byte is appended to the last piece, and changes nothing else.
  pub joins : (outcome None (stream ++ byte ∷ [])).to_close
      ≡ CommandToClose (pieces ++ (last ++ byte ∷ []) ∷ []) lost
