-- What the calls of a `LongParser` ensure: the same as those of a `Parser`, unless memory is
-- refused.
use Rattle.std.specs.Prelude.{Bool, false, IfErr, IfOk, length, List, None, Result, slice_index, take, ℕ, ◌*◌, ◌++◌, ◌+◌, ◌<◌, ◌≡◌, ◌≤◌}
use Rattle.vte_core.specs.declared.parser.long_parser.LongParser.{LongParser}
use Rattle.vte_core.specs.declared.parser.refused.Refused.{Refused}
use Rattle.vte_core.specs.EarlyStop.{HasPassedBytes}
use Rattle.vte_core.specs.Event.{Event}
use Rattle.vte_core.specs.LongParser.{HasReadLong, IsDataOfOpenCommand, LacksMemory, long_parser_facts, memory_of, open_command_size, StoresPieces}
use Rattle.vte_core.specs.Looks.{total_looks}
use Rattle.vte_core.specs.Parser.{ParserFacts}

-- Memory was refused to a call after n of its bytes.
pub record IsRefusedMemory {V A : Type 0} (rate : ℕ) (step : V → Event → V)
    (is_terminated : V → Bool) (old new : V) (bytes : List ℕ) (parser next : LongParser A)
    (n : ℕ) : Type 0 where
  pub before_end : n < length bytes
  -- The performer has what the bytes read add, and was terminated at no start up to there.
  pub passes : (stream : List ℕ) → HasReadLong parser stream
      → HasPassedBytes step is_terminated old None stream bytes new n
  pub not_stopped : is_terminated new ≡ false
  -- The parser has then read these bytes too.
  pub reads : (stream : List ℕ) → HasReadLong parser stream
      → HasReadLong next (stream ++ take n bytes)
  -- The next byte is data of an open operating system command with fewer than 16 `;`.
  pub meets : (stream : List ℕ) → HasReadLong next stream
      → IsDataOfOpenCommand stream (slice_index bytes n)
  -- The memory doesn't suffice for the data bytes that begin there.
  pub lacks_memory : LacksMemory next bytes n
  -- There wasn't enough for all bytes.
  pub lacks_all : (stream : List ℕ) → HasReadLong parser stream
      → memory_of parser < open_command_size stream + length bytes
  -- At most `rate` looks per byte of the call and 8 more, and at least one per byte read.
  pub looks_at_most : total_looks next.looks ≤ total_looks parser.looks + rate * length bytes + 8
  pub looks_at_least : total_looks parser.looks + n ≤ total_looks next.looks

-- A call that may be refused memory. If it isn't, it does what `Reads` says of a parser.
pub record ReadsLong {V A Answer : Type 0} (rate : ℕ) (step : V → Event → V)
    (is_terminated : V → Bool) (old new : V) (bytes : List ℕ) (parser next : LongParser A)
    (result : Result Answer Refused)
    (Reads : Answer → V → V → List ℕ → ParserFacts → ParserFacts → Type 0) : Type 0 where
  pub reads : IfOk result (λ answer.
      Reads answer old new bytes (long_parser_facts parser) (long_parser_facts next))
  pub refuses : IfErr result (λ refused.
      IsRefusedMemory rate step is_terminated old new bytes parser next refused.read)
  -- Memory that was there stays.
  pub keeps_memory : memory_of parser ≤ memory_of next
  -- Of a command that is open then, the parser stores the bytes of its pieces and no others.
  pub stores : (stream : List ℕ) → HasReadLong next stream → StoresPieces next stream
