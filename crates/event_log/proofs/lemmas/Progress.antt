-- From what a collector holds to what a log has written: what was collected is appended, and each read that gives
-- something takes a chunk off the input (`HasReadPart`), until one fails or gives nothing.
use Rattle.std.specs.Io.KnownBytes.{Appends, Consumes, IsAtEnd, Keeps}
use Rattle.event_log.proofs.Common.{AddsUpTo, ap, append-nil, append_assoc, arith, Bool, default_limit, Event, events, flat_map, HasRead, HasWritten, IfSome, inl, inr, length, length-append, List, None, Option, Parser, refl, Some, sym, true, ℕ, [], ◌++◌, ◌+◌, ◌<◌, ◌∙◌, ◌≡◌, ◌≤◌, ◌⊎◌}
use Rattle.event_log.proofs.lemmas.CollectedTexts.{adds_up-at_first}
use Rattle.event_log.specs.Device.{KeepsWhereKnown}
use Rattle.event_log.specs.Run.{max_reads, WritesAll, WritesPrefix}
use Rattle.vte_core.proofs.lemmas.streams.After.{added-nothing}

-- ---- devices whose bytes are known

known-appended : (after : Option (List ℕ)) (known bytes : List ℕ) → Appends (Some known) after bytes
    → after ≡ Some (known ++ bytes)
known-appended None known bytes appends = absurd appends
known-appended (Some bytes_after) known bytes appends = ap Some appends

known-kept : (after : Option (List ℕ)) (known : List ℕ) → Keeps (Some known) after → after ≡ Some known
known-kept None known keeps = absurd keeps
known-kept (Some bytes_after) known keeps = ap Some keeps

-- A chunk was taken off the known bytes, and the rest is still to come.
record HasRest (known chunk : List ℕ) (after : Option (List ℕ)) : Type 0 where
  rest : List ℕ
  rest_is : after ≡ Some rest
  parts : known ≡ chunk ++ rest

known-consumed : (after : Option (List ℕ)) (known chunk : List ℕ) → Consumes (Some known) after chunk
    → HasRest known chunk after
known-consumed None known chunk consumes = absurd consumes
known-consumed (Some rest) known chunk consumes = record { rest = rest; rest_is = refl; parts = consumes }

known-kept_where_known : (after : Option (List ℕ)) (known : List ℕ) → KeepsWhereKnown (Some known) after
    → IfSome after (λ bytes. bytes ≡ known)
known-kept_where_known None known keeps = tt
known-kept_where_known (Some bytes_after) known keeps = keeps

-- ---- a chunk

-- What was collected is written, and the log goes on with the unread bytes.
pub written-more : {text_of : Event → List ℕ} {total_text : List ℕ → List ℕ} {unread next_unread collected : List ℕ}
    {parser next_parser : Parser 1024}
    {contents next_contents : Option (List ℕ)} → HasWritten text_of total_text contents parser unread
    → ((part : List ℕ → List ℕ) → AddsUpTo text_of part [] parser unread
    → AddsUpTo text_of part collected next_parser next_unread)
    → Appends contents next_contents collected → HasWritten text_of total_text next_contents next_parser next_unread
written-more {unread} {collected} {next_contents} has_written collects appends =
    let before = has_written.adds_up in
    let now = collects _ (adds_up-at_first (record {
      already_read = before.already_read;
      parsed =
          before.parsed;
    }) unread) in
    record {
      written = has_written.written ++ collected;
      contents_are = known-appended next_contents has_written.written collected
          (rw has_written.contents_are at appends);
      adds_up = record {
        already_read = now.already_read;
        parsed = now.parsed;
        total_is = λ more.
            append_assoc has_written.written collected _
            ∙ ap (λ (text : List ℕ). has_written.written ++ text) (now.total_is more)
            ∙ before.total_is more;
      };
    }

-- A chunk is still to be given to the parser.
pub written-before_chunk : {text_of : Event → List ℕ} {total_text : List ℕ → List ℕ} {parser : Parser 1024}
    {contents : Option (List ℕ)}
    (chunk : List ℕ) → HasWritten text_of total_text contents parser []
    → HasWritten text_of (λ more. total_text (chunk ++ more)) contents parser chunk
written-before_chunk chunk has_written = record {
  written = has_written.written;
  contents_are = has_written.contents_are;
  adds_up = record {
    already_read = has_written.adds_up.already_read;
    parsed = has_written.adds_up.parsed;
    total_is = λ more. has_written.adds_up.total_is (chunk ++ more);
  };
}

-- A flush keeps what was written.
pub written-kept : {text_of : Event → List ℕ} {total_text : List ℕ → List ℕ} {parser : Parser 1024}
    {contents next_contents : Option (List ℕ)} {unread : List ℕ}
    → HasWritten text_of total_text contents parser unread → Keeps contents next_contents
    → HasWritten text_of total_text next_contents parser unread
written-kept {next_contents} has_written keeps =
    record {
      written = has_written.written;
      contents_are = known-kept next_contents has_written.written (rw has_written.contents_are at keeps);
      adds_up = has_written.adds_up;
    }

-- ---- a log

-- The text of all events of a stream.
abbrev output_of : (Event → List ℕ) → List ℕ → List ℕ
output_of text_of stream = flat_map text_of (events default_limit stream)

-- A log has taken this many reads, and each gave something.
pub record HasReadPart (text_of : Event → List ℕ) (input old_contents : List ℕ) (reads : ℕ) (parser : Parser 1024)
    (remaining contents : Option (List ℕ)) : Type 0 where
  pub stream : List ℕ
  pub rest : List ℕ
  pub parts : input ≡ stream ++ rest
  pub rest_is : remaining ≡ Some rest
  pub total_text : List ℕ → List ℕ
  pub total_text_is : (more : List ℕ) → total_text more ≡ old_contents ++ output_of text_of (stream ++ more)
  pub written : HasWritten text_of total_text contents parser []
  pub each_gave : reads ≤ length stream

module _ {text_of : Event
    → List ℕ} {input old_contents : List ℕ} {parser : Parser 1024} {remaining contents : Option (List ℕ)} where
  -- Before the first read the whole input is to come.
  pub run-begins : events default_limit [] ≡ [] → remaining ≡ Some input → contents ≡ Some old_contents
      → HasRead parser []
      → HasReadPart text_of input old_contents 0 parser remaining contents
  run-begins no_events input_known contents_known parsed = record {
    stream = [];
    rest = input;
    parts = refl;
    rest_is = input_known;
    total_text = λ more. old_contents ++ output_of text_of more;
    total_text_is = λ more. refl;
    written = record {
      written = old_contents;
      contents_are = contents_known;
      adds_up = record { already_read = []; parsed = parsed; total_is = λ more. rw no_events refl };
    };
    each_gave = omega arith;
  }

  -- A chunk that was read and written is taken off the input.
  pub run-reads_more : {reads : ℕ} {next_parser : Parser 1024} {next_remaining next_contents : Option (List ℕ)}
      (chunk : List ℕ)
      → HasReadPart text_of input old_contents reads parser remaining contents → Consumes remaining next_remaining chunk
      → 0 < length chunk
      → ((total_text : List ℕ → List ℕ) → HasWritten text_of total_text contents parser []
      → HasWritten text_of (λ more. total_text (chunk ++ more)) next_contents next_parser [])
      → HasReadPart text_of input old_contents (reads + 1) next_parser next_remaining next_contents
  run-reads_more {next_remaining} chunk has_read consumes not_empty writes =
      let has_rest = known-consumed next_remaining has_read.rest chunk (rw has_read.rest_is at consumes) in
      record {
        stream = has_read.stream ++ chunk;
        rest = has_rest.rest;
        parts = rw (append_assoc, ← has_rest.parts) has_read.parts;
        rest_is = has_rest.rest_is;
        total_text = λ more. has_read.total_text (chunk ++ more);
        total_text_is = λ more. rw append_assoc (has_read.total_text_is (chunk ++ more));
        written = writes has_read.total_text has_read.written;
        each_gave = omega (arith, has_read.each_gave, length-append has_read.stream chunk);
      }

  -- All that was read is written.
  run-has_written : {reads : ℕ} → (has_read : HasReadPart text_of input old_contents reads parser remaining contents)
      → contents ≡ Some (old_contents ++ output_of text_of has_read.stream)
  run-has_written has_read =
      let has_written = has_read.written in
      has_written.contents_are
      ∙ ap Some
      (sym (rw (added-nothing default_limit has_written.adds_up.already_read) (append-nil has_written.written))
      ∙ has_written.adds_up.total_is [] ∙ has_read.total_text_is []
      ∙ rw append-nil refl)

  -- A read that fails ends a log, and so do as many reads as there may be.
  pub run_ends-at_prefix : {reads : ℕ} {next_remaining : Option (List ℕ)} {failed : Bool}
      → HasReadPart text_of input old_contents reads parser remaining contents
      → KeepsWhereKnown remaining next_remaining → (failed ≡ true) ⊎ (max_reads ≤ reads)
      → WritesPrefix (output_of text_of) input old_contents next_remaining contents failed
  run_ends-at_prefix {next_remaining} has_read keeps cause = record {
    stream = has_read.stream;
    rest = has_read.rest;
    parts = has_read.parts;
    rest_is = known-kept_where_known next_remaining has_read.rest (rw has_read.rest_is at keeps);
    written = run-has_written has_read;
    cause = elim cause [
      | inl fails ↦ inl fails
      | inr reads_end ↦ inr (omega (arith, has_read.each_gave))
    ];
  }

  -- A read that gives nothing ends a log.
  pub run_ends-with_all : {reads : ℕ} {next_remaining : Option (List ℕ)}
      → HasReadPart text_of input old_contents reads parser remaining contents
      → Consumes remaining next_remaining [] → IsAtEnd next_remaining
      → WritesAll (output_of text_of) input old_contents next_remaining contents
  run_ends-with_all {next_remaining} has_read consumes end =
      let has_rest = known-consumed next_remaining has_read.rest [] (rw has_read.rest_is at consumes) in
      let none_left : has_rest.rest ≡ [] = rw has_rest.rest_is at end in
      record {
        at_end = has_rest.rest_is ∙ ap Some none_left;
        written = rw (has_read.parts, has_rest.parts, none_left, append-nil) (run-has_written has_read);
      }
