-- What a parser has performed when it has read bytes for a performer: `step` is what an event makes
-- of the performer's value.
use Rattle.std.specs.List.{All}
use Rattle.std.specs.Prelude.{length, List, Option, ℕ, ◌++◌, ◌+◌, ◌≡◌, ◌≤◌}
use Rattle.vte.specs.Memory.{KeepsMemory}
use Rattle.vte.specs.private.PerformerValue.{FitsText, PerformerValue}
use Rattle.vte.specs.Views.{ParserView}
use Rattle.vte_core.specs.EarlyStop.{resumed_stream, StopsExactly}
use Rattle.vte_core.specs.Event.{after as performed, Event}
use Rattle.vte_core.specs.Stream.{added}

-- A parser has read bytes after a stream, and performed what they add. It still has memory for n
-- others.
pub record HasPerformed {P V W : Type 0} (view : ParserView P) (limit : Option ℕ)
    (step : PerformerValue V W → Event → PerformerValue V W) (next : P)
    (old new : PerformerValue V W)
    (stream bytes : List ℕ) (more : ℕ) : Type 0 where
  pub performs : new ≡ performed step old (added limit stream bytes)
  pub fits : All (FitsText old.text_capacity) (added limit stream bytes)
  pub reads : view.has_read next (stream ++ bytes)
  pub memory : view.has_memory next old.text_capacity (stream ++ bytes) more

-- A parser has read `read` of the bytes after a stream: up to an event that terminates the
-- performer, or all.
pub record HasPerformedToStop {P V W : Type 0} (view : ParserView P) (limit : Option ℕ)
    (step : PerformerValue V W → Event → PerformerValue V W) (next : P)
    (old new : PerformerValue V W)
    (stream bytes : List ℕ) (read : ℕ) : Type 0 where
  pub stops : StopsExactly step (λ performer. performer.terminated) old limit stream bytes new read
  pub fits : All (FitsText old.text_capacity) (added limit stream bytes)
  pub reads : view.has_read next (resumed_stream stream bytes read)

-- After each stream that the parser has read, it performs all bytes if it has memory for them.
-- Memory that was there stays.
pub record AdvancesAll {P V W : Type 0} (view : ParserView P) (limit : Option ℕ)
    (step : PerformerValue V W → Event → PerformerValue V W) (parser next : P)
    (old new : PerformerValue V W)
    (bytes : List ℕ) : Type 0 where
  pub parses : (stream : List ℕ) (more : ℕ) → view.has_read parser stream
      → view.has_memory parser old.text_capacity stream (length bytes + more)
      → HasPerformed view limit step next old new stream bytes more
  pub keeps_memory : (size : ℕ)
      → KeepsMemory (view.has_memory parser size) (view.has_memory next size)

-- `AdvancesAll`, but it performs bytes up to a stop, and has read `read` of them.
pub record AdvancesUntilStop {P V W : Type 0} (view : ParserView P) (limit : Option ℕ)
    (step : PerformerValue V W → Event → PerformerValue V W) (parser next : P)
    (old new : PerformerValue V W)
    (bytes : List ℕ) (read : ℕ) : Type 0 where
  pub within : read ≤ length bytes
  pub stops : (stream : List ℕ) (more : ℕ) → view.has_read parser stream
      → view.has_memory parser old.text_capacity stream (length bytes + more)
      → HasPerformedToStop view limit step next old new stream bytes read
  pub keeps_memory : (size : ℕ)
      → KeepsMemory (view.has_memory parser size) (view.has_memory next size)
