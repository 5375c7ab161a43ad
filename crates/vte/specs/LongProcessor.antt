-- What calls ensure that may be refused memory: those of a processor without a limit. They are the
-- same as those of `Processor`, up to a refusal.
use Rattle.std.specs.Prelude.{Bool, Err, false, IfErr, IfOk, IsOk, length, List, Ok, Result, string_capacity, true, ℕ, ◌+◌, ◌-◌, ◌<◌, ◌≡◌, ◌≤◌, ◌⊎◌}
use Rattle.vte.specs.declared.ansi.long_processor.LongProcessor.{LongProcessor}
use Rattle.vte.specs.declared.ansi.updates.engine.TheConstants.{SLICE_SIZE}
use Rattle.vte.specs.Memory.{KeepsMemory}
use Rattle.vte.specs.Processor.{max_held, Meaning, State}
use Rattle.vte.specs.ProcessorCalls.{AdvancesInTurns, IsAt}
use Rattle.vte.specs.ProcessorFacts.{ContinuesAs, ProcessorFacts}
use Rattle.vte.specs.Refusal.{HasAdvancedPart}
use Rattle.vte_core.specs.declared.parser.refused.Refused.{Refused}
use Rattle.vte_core.specs.LongParser.{memory_of}

-- The processor has freed its memory: that for data of a command, and that to join a text.
abbrev pub HasFreedMemoryLong : {T A : Type 0} → LongProcessor T A → Type 0
HasFreedMemoryLong processor =
    (memory_of processor.engine.parser ≡ 0)
    × (string_capacity processor.engine.state.text.text ≡ 0)

-- A refused call, which left `left` bytes, had a reason: there is no memory for the held bytes and
-- the first `more` of those left. Without this clause, a processor could refuse every call.
pub record ProcessorLacksMemory {T W : Type 0} (processor : ProcessorFacts T W) (left : ℕ)
    : Type 0 where
  pub more : ℕ
  pub within : more ≤ left
  -- A turn asks for memory for at most a slice, or for all bytes if they fit the hold.
  pub at_most : (more ≤ SLICE_SIZE) ⊎ (length processor.held + more ≤ max_held)
  pub lacks_memory : (stream : List ℕ) → processor.has_read stream
      → ¬ processor.has_memory stream (length processor.held + more)

-- `reserve`, of memory for the held bytes and `more` others.
pub record Reserves {T W : Type 0} (processor next : ProcessorFacts T W) (more : ℕ) (result : Bool)
    : Type 0 where
  -- The processor is where it was.
  pub stays : ContinuesAs processor next
  -- On `true`, there is memory for all of them.
  pub memory : result ≡ true → (parsed held : List ℕ) (timeout : W)
      → next.has_parsed_and_holds parsed held timeout
      → next.has_memory parsed (length held + more)
  pub keeps_memory : KeepsMemory processor.has_memory next.has_memory
  -- `command_lost_data` answers as before.
  pub lost : next.lost ≡ processor.lost
  -- On `false`, there isn't.
  pub lacks_memory : result ≡ false → (stream : List ℕ) → next.has_read stream
      → ¬ next.has_memory stream (length next.held + more)

-- How many bytes a call read.
abbrev pub count_read : Result (Unit {0}) Refused → List ℕ → ℕ
count_read (Ok _) bytes = length bytes
count_read (Err refused) bytes = refused.read

-- `advance` and `advance_text` led from `processor` to `next`, and the handler's value from `old`
-- to `new`.
module _ {T V W : Type 0} (meaning : Meaning V W) (processor next : ProcessorFacts T W)
    (old new : V) (bytes : List ℕ) (result : Result (Unit {0}) Refused) where
  -- The call read all bytes, or those before which it was refused memory.
  pub record AdvancesUntilRefused : Type 0 where
    -- The bytes read are those that the first turns of the call read.
    pub takes : (state : State V W) → IsAt processor old state
        → HasAdvancedPart meaning state bytes (count_read result bytes) (IsAt next new)
    -- A refused call left some bytes, and there is no memory for these.
    pub within : IfErr result (λ refused. refused.read < length bytes)
    pub lacks_memory : IfErr result
        (λ refused. ProcessorLacksMemory next (length bytes - refused.read))
    pub keeps_memory : (state : State V W) → IsAt processor old state
        → KeepsMemory processor.has_memory next.has_memory

  -- What a call without a limit ensures beyond that.
  pub record AdvancesLong : Type 0 where
    pub until_refused : AdvancesUntilRefused
    -- If no memory is refused, all bytes are read.
    pub reads_all : IfOk result (λ _. AdvancesInTurns meaning processor next old new bytes)
    -- If there was memory for all bytes, none is refused.
    pub not_refused : (state : State V W) → IsAt processor old state
        → processor.has_memory state.parsed (length state.held + length bytes) → IsOk result
