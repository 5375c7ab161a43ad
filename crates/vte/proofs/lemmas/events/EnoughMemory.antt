-- With memory for all bytes, a parser reads them all, and each command's joined text fits. No command has more data
-- than was stored and read, nor more separators than pieces; so the contracts of both parsers become those of one.
use Rattle.vte.proofs.Common.{added, added-append, AdvancesAll, AdvancesUntilStop, All, All-drop, All-take, arith, counts_data, Err, Event, events, events_are_bounded, false, FitsText, HasTextMemory, KeepsMemory, length, limited_parser_view, List, long_parser_view, LongParser, None, Ok, Option, ParserHasMemory, PerformerValue, Refused, Result, rules, Some, take-append_seam, ℕ, ◌++◌, ◌+◌, ◌≤◌}
use Rattle.vte.specs.declared.ansi.calls.joined_text.TheConstants.{SEPARATORS}
use Rattle.vte_core.specs.Advance.{ReadsBytes, ReadsUntilTerminated}
use Rattle.vte_core.specs.declared.parser.Parser.{Parser}
use Rattle.vte_core.specs.EventBounds.{IsBounded}
use Rattle.vte_core.specs.LongParser.{memory_of, open_command_size, read_count}
use Rattle.vte_core.specs.LongParserCalls.{ReadsLong}
use Rattle.vte_core.specs.Looks.{per_byte}
use Rattle.vte_core.specs.Parser.{parser_facts}

-- ---- a text of the size of the data and separators holds what is joined of a command

events_fit : (size n : ℕ) (events : List Event) → n + SEPARATORS ≤ size → All (IsBounded (Some n)) events
    → All (FitsText size) events
events_fit size n events room bounded = search (rules, arith)

-- If the events of all bytes fit into this size, those of a prefix do too.
pub prefix_fits : (size : ℕ) (limit : Option ℕ) (stream prefix rest : List ℕ)
    → All (FitsText size) (added limit stream (prefix ++ rest)) → All (FitsText size) (added limit stream prefix)
prefix_fits size limit stream prefix rest all_fit =
    let parts : All (FitsText size) (added limit stream prefix ++ added limit (stream ++ prefix) rest) =
    rw (added-append limit stream prefix rest) at all_fit in
    let first =
    All-take (FitsText size) (length (added limit stream prefix))
    (added limit stream prefix ++ added limit (stream ++ prefix) rest) parts in
    rw (take-append_seam (added limit stream prefix) (added limit (stream ++ prefix) rest)) at first

-- ---- the parser with a limit, which bounds a command's data

short_fits : (limit size : ℕ) (stream bytes : List ℕ) → HasTextMemory limit size
    → All (FitsText size) (added (Some limit) stream bytes)
short_fits limit size stream bytes memory =
    events_fit size limit (added (Some limit) stream bytes) (omega (arith, memory.joined))
    (All-drop (IsBounded (Some limit)) (length (events (Some limit) stream)) (events (Some limit) (stream ++ bytes))
    (events_are_bounded (Some limit) (stream ++ bytes)))

module _ {N : ℕ} {V W : Type 0} {step : PerformerValue V W → Event → PerformerValue V W}
    {old new : PerformerValue V W} {bytes : List ℕ}
    {parser next : Parser N} where
  -- With a limit, a text of a fixed size is all the memory that is needed, and it stays.
  pub short_parses : ReadsBytes step old new bytes (parser_facts parser) (parser_facts next)
      → AdvancesAll limited_parser_view (Some N) step parser next old new bytes
  short_parses reads = search (rules, arith, short_fits)

  -- The same up to an early stop.
  pub short_stops : {read : ℕ}
      → ReadsUntilTerminated step (λ performer. performer.terminated) read old new bytes (parser_facts parser)
      (parser_facts next)
      → AdvancesUntilStop limited_parser_view (Some N) step parser next old new bytes read
  short_stops reads = record {
    within = reads.within;
    stops =
        λ stream spare has_read memory. record {
          stops = reads.stops stream has_read;
          fits = short_fits N old.text_capacity stream bytes memory;
          reads = reads.reads stream has_read;
        };
    keeps_memory = λ size stream count had. had;
  }

-- ---- the parser without a limit

-- If neither size shrinks, memory that was enough stays enough.
keeps_memory-grown : {A : Type 0} {parser next : LongParser A} {size larger : ℕ} → memory_of parser ≤ memory_of next
    → size ≤ larger → KeepsMemory (ParserHasMemory parser size) (ParserHasMemory next larger)
keeps_memory-grown memory_grows size_grows = search (rules, arith)

module _ {A : Type 0} {parser : LongParser A} {size : ℕ} (stream bytes : List ℕ) (spare : ℕ)
    (memory : ParserHasMemory parser size stream (length bytes + spare)) where
  open_command-fits : open_command_size stream + length bytes ≤ memory_of parser
  open_command-fits = omega (arith, memory.kept)

  long_fits : All (FitsText size) (added None stream bytes)
  long_fits =
      events_fit size (open_command_size stream + length bytes) (added None stream bytes) (omega (arith, memory.joined))
      (let counts = counts_data stream bytes in counts.reported)

  memory_left : (next : LongParser A) → memory_of parser ≤ memory_of next
      → ParserHasMemory next size (stream ++ bytes) spare
  memory_left next kept = search (rules, arith, counts_data)

-- A call for which there is memory is refused none.
module _ {A V W : Type 0} {step : PerformerValue V W → Event → PerformerValue V W} {old new : PerformerValue V W}
    {bytes : List ℕ}
    {parser next : LongParser A} where
  -- A refusal contradicts the memory, so all bytes are read.
  pub long_parses : (result : Result (Unit {0}) Refused)
      → ReadsLong (per_byte 5) step (λ _. false) old new bytes parser next result (λ (_ : Unit {0}). ReadsBytes step)
      → AdvancesAll long_parser_view None step parser next old new bytes
  long_parses (Ok _) reads_long = record {
    parses = λ stream spare has_read memory. record {
      performs = reads_long.reads.performs stream has_read;
      fits = long_fits stream bytes spare memory;
      reads = reads_long.reads.reads stream has_read;
      memory = memory_left stream bytes spare memory next reads_long.keeps_memory;
    };
    keeps_memory = λ size. keeps_memory-grown reads_long.keeps_memory (omega arith);
  }
  long_parses (Err refused) reads_long = record {
    parses =
        λ stream spare has_read memory.
        absurd
        (omega (arith, reads_long.refuses.lacks_all stream has_read, open_command-fits stream bytes spare memory));
    keeps_memory = λ size. keeps_memory-grown reads_long.keeps_memory (omega arith);
  }

  -- The same up to an early stop.
  pub long_stops : (result : Result ℕ Refused)
      → ReadsLong (per_byte 5) step (λ performer. performer.terminated) old new bytes parser next result
      (ReadsUntilTerminated step (λ performer. performer.terminated))
      → AdvancesUntilStop long_parser_view None step parser next old new bytes (read_count result)
  long_stops (Ok read) reads_long = record {
    within = reads_long.reads.within;
    stops =
        λ stream spare has_read memory. record {
          stops = reads_long.reads.stops stream has_read;
          fits = long_fits stream bytes spare memory;
          reads = reads_long.reads.reads stream has_read;
        };
    keeps_memory = λ size. keeps_memory-grown reads_long.keeps_memory (omega arith);
  }
  long_stops (Err refused) reads_long = record {
    within = omega (arith, reads_long.refuses.before_end);
    stops =
        λ stream spare has_read memory.
        absurd
        (omega (arith, reads_long.refuses.lacks_all stream has_read, open_command-fits stream bytes spare memory));
    keeps_memory = λ size. keeps_memory-grown reads_long.keeps_memory (omega arith);
  }
