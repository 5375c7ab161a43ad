-- What calls that read bytes ensure.
use Rattle.std.specs.Prelude.{Bool, length, List, ℕ, ◌*◌, ◌++◌, ◌+◌, ◌≡◌, ◌≤◌}
use Rattle.vte_core.specs.EarlyStop.{resumed_stream, StopsExactly}
use Rattle.vte_core.specs.Event.{after, Event}
use Rattle.vte_core.specs.Parser.{ParserFacts}
use Rattle.vte_core.specs.Stream.{added}

-- `advance` and `advance_text` report what the bytes add to the stream.
pub record ReadsBytes {V : Type 0} (step : V → Event → V) (old new : V) (bytes : List ℕ)
    (parser next : ParserFacts) : Type 0 where
  -- Whatever the parser has read, the performer receives what the bytes add to it.
  pub performs : (stream : List ℕ) → parser.has_read stream
      → new ≡ after step old (added parser.limit stream bytes)
  -- The parser has then read the bytes too.
  pub reads : (stream : List ℕ) → parser.has_read stream → next.has_read (stream ++ bytes)
  -- At most 5 looks per byte and 8 more, and at least one per byte.
  pub looks_at_most : next.looks ≤ parser.looks + 5 * length bytes + 8
  pub looks_at_least : parser.looks + length bytes ≤ next.looks

-- `advance_until_terminated` and `advance_text_until_terminated`, which read n of the bytes.
pub record ReadsUntilTerminated {V : Type 0} (step : V → Event → V) (is_terminated : V → Bool)
    (n : ℕ) (old new : V) (bytes : List ℕ) (parser next : ParserFacts) : Type 0 where
  pub within : n ≤ length bytes
  -- The call ends at the first start where the performer is terminated, or else after all bytes.
  pub stops : (stream : List ℕ) → parser.has_read stream
      → StopsExactly step is_terminated old parser.limit stream bytes new n
  -- The parser goes on after the bytes read.
  pub reads : (stream : List ℕ) → parser.has_read stream
      → next.has_read (resumed_stream stream bytes n)
  -- At most 5 looks per byte read and 8 more, and at least one per byte read.
  pub looks_at_most : next.looks ≤ parser.looks + 5 * n + 8
  pub looks_at_least : parser.looks + n ≤ next.looks
