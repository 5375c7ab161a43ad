-- How the program ends, and what it has read and written.
use Rattle.std.specs.Io.KnownBytes.{Appends}
use Rattle.std.specs.Prelude.{Bool, codes, Err, false, is_err, List, None, Ok, OnErr, OnOk, Option, Result, Some, true, ℕ, [], ◌≡◌}
use Rattle.event_log.specs.declared.fault.Fault.{Fault}
use Rattle.event_log.specs.declared.fault.Fault.TheVariants.{Read, Write}
use Rattle.event_log.specs.Run.{log_of, stripped_text, WritesExactly}
use Rattle.vtlog.specs.Arguments.{chosen_mode, page_of}
use Rattle.vtlog.specs.declared.Mode.{Mode}
use Rattle.vtlog.specs.declared.Mode.TheVariants.{Lines, Text}

-- The exit status.
abbrev pub status_of : Result (Unit {0}) Fault → ℕ
status_of (Ok _) = 0
status_of (Err _) = 1

-- The first line on standard error, which is empty if there is none.
abbrev pub message_of : Result (Unit {0}) Fault → List ℕ
message_of (Ok _) = []
message_of (Err Read) = codes "vtlog: read failed"
message_of (Err Write) = codes "vtlog: write failed"

-- What is written for a stream.
abbrev pub output_of : Mode → (List ℕ → List ℕ)
output_of Lines = log_of
output_of Text = stripped_text

-- What was known of the bytes of the reader and the writer when the program began, and what is at
-- the end.
pub record Streams : Type 0 where
  pub input : Option (List ℕ)
  pub old_contents : Option (List ℕ)
  pub remaining : Option (List ℕ)
  pub contents : Option (List ℕ)
  pub reader_failed : Bool
  pub writer_failed : Bool

-- Nothing was read. The page was written, unless the writer has failed.
pub record Prints (page : List ℕ) (streams : Streams)
    (outcome : Result (Unit {0}) Fault) : Type 0 where
  pub unread : streams.remaining ≡ streams.input
  pub written : OnOk outcome (Appends streams.old_contents streams.contents page)
  pub fails : is_err outcome ≡ streams.writer_failed
  pub fault : OnErr outcome (outcome ≡ Err Write)

-- The meaning of the input was written, unless a stream has failed.
pub record Runs (mode : Mode) (streams : Streams) (outcome : Result (Unit {0}) Fault) : Type 0 where
  pub written : (input old_contents : List ℕ) → streams.input ≡ Some input
      → streams.old_contents ≡ Some old_contents
      → WritesExactly (output_of mode) outcome input old_contents streams.remaining
      streams.contents streams.reader_failed
  pub read_to_the_end : OnOk outcome (streams.reader_failed ≡ false)
  pub write_failed : outcome ≡ Err Write → streams.writer_failed ≡ true

-- The argument is unexpected, and nothing was read or written.
pub record RefusesArguments (streams : Streams) (status : ℕ) (message : List ℕ) : Type 0 where
  pub status_is : status ≡ 2
  pub message_is : message ≡ codes "vtlog: unexpected argument"
  pub unread : streams.remaining ≡ streams.input
  pub unwritten : streams.contents ≡ streams.old_contents

-- The status and the message are those of an outcome that this is true of.
pub record EndsBy (IsOutcome : Result (Unit {0}) Fault → Type 0) (status : ℕ)
    (message : List ℕ) : Type 0 where
  pub outcome : Result (Unit {0}) Fault
  pub status_is : status ≡ status_of outcome
  pub message_is : message ≡ message_of outcome
  pub is_outcome : IsOutcome outcome

-- How the program ends if the arguments ask for a page, or for a mode, or for nothing known.
abbrev pub EndsFor : Option (List ℕ) → Option Mode → Streams → ℕ → List ℕ → Type 0
EndsFor (Some page) mode streams status message = EndsBy (Prints page streams) status message
EndsFor None (Some mode) streams status message = EndsBy (Runs mode streams) status message
EndsFor None None streams status message = RefusesArguments streams status message

-- How the program ends with these arguments.
abbrev pub Ends : List (List ℕ) → Streams → ℕ → List ℕ → Type 0
Ends args streams status message = EndsFor (page_of args) (chosen_mode args) streams status message
