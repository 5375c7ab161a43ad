-- The state of a log between two calls of the parser.
use Rattle.std.specs.List.{flat_map}
use Rattle.std.specs.Prelude.{false, List, Option, Some, ℕ, ◌++◌, ◌≡◌}
use Rattle.event_log.specs.CollectedText.{CollectedText}
use Rattle.vte_core.specs.declared.parser.Parser.{Parser}
use Rattle.vte_core.specs.Event.{Event}
use Rattle.vte_core.specs.Parser.{HasRead}
use Rattle.vte_core.specs.Stream.{added, default_limit}

-- The parser has read some stream.
pub record HasReadStream (parser : Parser 1024) : Type 0 where
  pub already_read : List ℕ
  pub parsed : HasRead parser already_read

-- A text, followed by the text of what the unread bytes and any more add, is the total text, which
-- depends on the bytes to come.
pub record AddsUpTo (text_of : Event → List ℕ) (total_text : List ℕ → List ℕ) (text : List ℕ)
    (parser : Parser 1024) (unread : List ℕ)
    : Type 0 where
  pub already_read : List ℕ
  pub parsed : HasRead parser already_read
  pub total_is : (more : List ℕ)
      → text ++ flat_map text_of (added default_limit already_read (unread ++ more))
      ≡ total_text more

-- The text is what a collector holds, and nothing was lost.
pub record HasKept (text_of : Event → List ℕ) (total_text : List ℕ → List ℕ)
    (collected : CollectedText) (parser : Parser 1024) (unread : List ℕ)
    : Type 0 where
  pub adds_up : AddsUpTo text_of total_text collected.bytes parser unread
  pub nothing_lost : collected.lost ≡ false

-- The text is all that a writer has taken.
pub record HasWritten (text_of : Event → List ℕ) (total_text : List ℕ → List ℕ)
    (contents : Option (List ℕ)) (parser : Parser 1024) (unread : List ℕ)
    : Type 0 where
  pub written : List ℕ
  pub contents_are : contents ≡ Some written
  pub adds_up : AddsUpTo text_of total_text written parser unread
