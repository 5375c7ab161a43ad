-- What `run` and `run_text` read and write.
use Rattle.std.specs.Prelude.{Bool, Err, IfSome, length, List, Ok, Option, Result, Some, true, ℕ, [], ⊤, ◌++◌, ◌-◌, ◌^◌, ◌≡◌, ◌≤◌, ◌⊎◌}
use Rattle.event_log.specs.declared.fault.Fault.{Fault}
use Rattle.event_log.specs.declared.fault.Fault.TheVariants.{Read, Write}
use Rattle.event_log.specs.Lines.{lines_of}
use Rattle.event_log.specs.Plain.{plain_text}
use Rattle.vte_core.specs.Stream.{default_limit, events}

-- The lines of a stream's events, with a buffer of 1,024 bytes for operating system commands.
abbrev pub log_of : List ℕ → List ℕ
log_of stream = lines_of (events default_limit stream)

-- The text of a stream without its sequences.
abbrev pub stripped_text : List ℕ → List ℕ
stripped_text stream = plain_text (events default_limit stream)

-- The maximum number of reads of a log.
abbrev pub max_reads : ℕ
max_reads = 2 ^ 64 - 1

-- The whole input was read, and its output was written after what the writer had.
pub record WritesAll (output_of : List ℕ → List ℕ) (input old_contents : List ℕ)
    (remaining contents : Option (List ℕ)) : Type 0 where
  pub at_end : remaining ≡ Some []
  pub written : contents ≡ Some (old_contents ++ output_of input)

-- A prefix of the input was read, and its output was written. Either the reader has failed, or it
-- has given bytes in as many reads as a log may take.
pub record WritesPrefix (output_of : List ℕ → List ℕ) (input old_contents : List ℕ)
    (remaining contents : Option (List ℕ)) (failed : Bool)
    : Type 0 where
  pub stream : List ℕ
  pub rest : List ℕ
  pub parts : input ≡ stream ++ rest
  pub rest_is : IfSome remaining (λ bytes. bytes ≡ rest)
  pub written : contents ≡ Some (old_contents ++ output_of stream)
  pub cause : (failed ≡ true) ⊎ (max_reads ≤ length stream)

-- How a log leaves a reader and a writer whose bytes were known when it began. Nothing is promised
-- of a failed write.
abbrev pub WritesExactly : (List ℕ → List ℕ) → Result (Unit {0}) Fault
    → (input old_contents : List ℕ)
    → (remaining contents : Option (List ℕ)) → (failed : Bool) → Type 0
WritesExactly output_of (Ok _) input old_contents remaining contents failed =
    WritesAll output_of input old_contents remaining contents
WritesExactly output_of (Err Read) input old_contents remaining contents failed =
    WritesPrefix output_of input old_contents remaining contents failed
WritesExactly output_of (Err Write) input old_contents remaining contents failed = ⊤

-- What `run` promises.
abbrev pub LogsExactly : Result (Unit {0}) Fault → (input old_contents : List ℕ)
    → (remaining contents : Option (List ℕ)) → (failed : Bool) → Type 0
LogsExactly result input old_contents remaining contents failed =
    WritesExactly log_of result input old_contents remaining contents failed

-- What `run_text` promises.
abbrev pub StripsExactly : Result (Unit {0}) Fault → (input old_contents : List ℕ)
    → (remaining contents : Option (List ℕ)) → (failed : Bool) → Type 0
StripsExactly result input old_contents remaining contents failed =
    WritesExactly stripped_text result input old_contents remaining contents failed
