-- What a call ensures: the facts of `drive`, put into the contract of each call, of both parsers.
use Rattle.vte_core.proofs.Common.{arith, Bool, chunk_call, ChunkCall, Err, Event, false, IfErr, IfOk, length, List, Machine, None, Ok, per_byte, read_count, ReadsUntilRefused, ReadsUpTo, refl, Refused, ReportsOutsideRuns, Result, rules, true, ℕ, ◌+◌, ◌≡◌}
use Rattle.vte_core.proofs.lemmas.positions.CallEnds.{call_ends-performs, call_ends-reads, call_ends-reads_all, call_ends-stops}
use Rattle.vte_core.proofs.lemmas.positions.Open.{inside-reads, lacks_all, meets_data, refuses-inside, stores_pieces}
use Rattle.vte_core.proofs.lemmas.positions.SettledStates.{all_read-unless_asked}
use Rattle.vte_core.proofs.lemmas.positions.ToRun.{reads-run, returns-run}
use Rattle.vte_core.specs.Advance.{ReadsBytes, ReadsUntilTerminated}
use Rattle.vte_core.specs.AdvanceToRun.{ReadsToRun}
use Rattle.vte_core.specs.declared.parser.long_parser.LongParser.{LongParser}
use Rattle.vte_core.specs.declared.reader.run.Run.{Run}
use Rattle.vte_core.specs.declared.reader.run.RunRange.{RunRange}
use Rattle.vte_core.specs.EarlyStop.{NeverStopsBefore}
use Rattle.vte_core.specs.LongParser.{HasReadLong, long_parser_facts}
use Rattle.vte_core.specs.LongParserCalls.{IsRefusedMemory, ReadsLong}
use Rattle.vte_core.specs.Looks.{total_looks}
use Rattle.vte_core.specs.Parser.{machine_facts, ParserFacts}
use Rattle.vte_core.specs.private.Costs.{Costs}
use Rattle.vte_core.specs.private.ToRun.{bytes_at, ComesToRun, IsTaken}

-- ---- looks

-- A call's looks count for its parser: its reader begins with none, and its looks are added.

pub costs-added : {rate n : ℕ} {Answer B : Type 0} {bytes : List ℕ} {result : Result Answer Refused}
    {parser next : Machine B} {before after earlier later : ℕ} → before ≡ 0 → later ≡ earlier + after
    → Costs rate bytes result n parser next before after → Costs rate bytes result n parser next earlier later
costs-added {result} {earlier} no_looks sum costs = search (rules, arith)

-- ---- with any limit, if no memory is refused

module _ {V B : Type 0} {call : ChunkCall V} {old new : V} {before parser : Machine B} {start end : ℕ} where
  -- A call that has read all bytes ensures `ReadsBytes`.
  pub reads-bytes : {read : ℕ} → read ≡ length call.bytes → ReadsUpTo call old new read before parser
      → Costs (per_byte 5) call.bytes (Ok read) read before parser start end
      → ReadsBytes call.step old new call.bytes (machine_facts call.limit before start)
      (machine_facts call.limit parser end)
  reads-bytes all reads costs = record {
    performs = λ stream has_read. call_ends-performs all (reads.is_at_position stream has_read);
    reads = λ stream has_read. call_ends-reads_all all (reads.is_at_position stream has_read);
    looks_at_most = costs.looks_at_most;
    looks_at_least = omega (arith, all, costs.looks_at_least);
  }

  -- A call that may stop ensures `ReadsUntilTerminated`, wherever it ended.
  pub reads-until : {read : ℕ} → call.may_stop ≡ true → ReadsUpTo call old new read before parser
      → Costs (per_byte 5) call.bytes (Ok read) read before parser start end
      → ReadsUntilTerminated call.step call.is_terminated read old new call.bytes
      (machine_facts call.limit before start) (machine_facts call.limit parser end)
  reads-until may_stop reads costs = record {
    within = reads.within;
    stops = λ stream has_read. call_ends-stops may_stop reads.within reads.stops (reads.is_at_position stream has_read);
    reads = λ stream has_read. call_ends-reads (reads.is_at_position stream has_read);
    looks_at_most = costs.looks_at_most_if_ok;
    looks_at_least = costs.looks_at_least;
  }

-- ---- without a limit

module _ {A V : Type 0} {step : V → Event → V} {old new : V} {bytes : List ℕ} {parser next : LongParser A} where
  is_refused : {may_stop : Bool} {asked : V → Bool} (is_terminated : V → Bool) {rate n : ℕ} {Answer : Type 0}
      {result : Result Answer Refused}
      → ReadsUntilRefused (chunk_call may_stop step asked None bytes) old new n parser.machine next.machine
      → Costs rate bytes result n parser.machine next.machine
      (total_looks parser.looks) (total_looks next.looks)
      → ((stream : List ℕ) → HasReadLong parser stream
      → NeverStopsBefore step is_terminated old None stream bytes n)
      → is_terminated new ≡ false → IsRefusedMemory rate step is_terminated old new bytes parser next n
  is_refused is_terminated refuses costs earlier not_stopped = record {
    before_end = refuses.before_end;
    passes =
        λ stream has_read. record {
          performed = (refuses-inside refuses stream has_read).progress.performed;
          earlier = earlier stream has_read;
        };
    not_stopped = not_stopped;
    reads = λ stream has_read. inside-reads (refuses-inside refuses stream has_read);
    meets = λ stream has_read. meets_data refuses.refused has_read;
    lacks_memory = refuses.refused.lacks_memory;
    lacks_all = λ stream has_read. lacks_all refuses stream has_read costs.keeps_memory;
    looks_at_most = costs.looks_at_most;
    looks_at_least = costs.looks_at_least;
  }

  -- A call ensures `ReadsLong` if it isn't refused memory, and if it is.
  reads_long-ok : {is_terminated : V → Bool} {rate n : ℕ} {Answer Drove : Type 0} {answer : Answer}
      {drove : Result Drove Refused} {Reads : Answer → V → V → List ℕ → ParserFacts → ParserFacts → Type 0}
      → Reads answer old new bytes (long_parser_facts parser) (long_parser_facts next)
      → Costs rate bytes drove n parser.machine next.machine (total_looks parser.looks) (total_looks next.looks)
      → ReadsLong rate step is_terminated old new bytes parser next (Ok answer) Reads
  reads_long-ok reads costs = record {
    reads = reads;
    refuses = tt;
    keeps_memory = costs.keeps_memory;
    stores = stores_pieces next.machine;
  }

  reads_long-refused : {is_terminated : V → Bool} {rate n : ℕ} {Answer Drove : Type 0} {refused : Refused}
      {drove : Result Drove Refused} {Reads : Answer → V → V → List ℕ → ParserFacts → ParserFacts → Type 0}
      → IsRefusedMemory rate step is_terminated old new bytes parser next refused.read
      → Costs rate bytes drove n parser.machine next.machine (total_looks parser.looks) (total_looks next.looks)
      → ReadsLong rate step is_terminated old new bytes parser next (Err refused) Reads
  reads_long-refused refuses costs = record {
    reads = tt;
    refuses = refuses;
    keeps_memory = costs.keeps_memory;
    stores = stores_pieces next.machine;
  }

module _ {A V : Type 0} {step : V → Event → V} {is_terminated : V → Bool} {old new : V} {bytes : List ℕ}
    {parser next : LongParser A} where
  -- A call that may stop ensures `IsRefusedMemory` if it is refused memory.
  is_refused-asked : {rate n : ℕ} {Answer : Type 0} {result : Result Answer Refused}
      → ReadsUntilRefused (chunk_call true step is_terminated None bytes) old new n parser.machine next.machine
      → Costs rate bytes result n parser.machine next.machine
      (total_looks parser.looks) (total_looks next.looks)
      → IsRefusedMemory rate step is_terminated old new bytes parser next n
  is_refused-asked refuses costs =
      is_refused is_terminated refuses costs
      (λ stream has_read. (refuses-inside refuses stream has_read).progress.earlier refl)
      (refuses.may_go_on refl)

  -- `advance` ensures `ReadsLong` without a stop: if it is refused memory (`advance-refused`), and if it has read all
  -- bytes (`advance-read`).
  pub advance-refused : (refused : Refused) {drove : Result ℕ Refused}
      → ReadsUntilRefused (chunk_call false step is_terminated None bytes) old new refused.read parser.machine
      next.machine
      → Costs (per_byte 5) bytes drove refused.read parser.machine next.machine
      (total_looks parser.looks) (total_looks next.looks)
      → ReadsLong (per_byte 5) step (λ _. false) old new bytes parser next (Err refused)
      (λ (_ : Unit {0}). ReadsBytes step)
  advance-refused refused refuses costs =
      reads_long-refused (is_refused (λ _. false) refuses costs (λ stream has_read start before starts. refl) refl)
      costs

  pub advance-read : {read : ℕ}
      → ReadsUpTo (chunk_call false step is_terminated None bytes) old new read parser.machine next.machine
      → Costs (per_byte 5) bytes (Ok read) read parser.machine next.machine
      (total_looks parser.looks) (total_looks next.looks)
      → ReadsLong (per_byte 5) step (λ _. false) old new bytes parser next (Ok tt) (λ (_ : Unit {0}). ReadsBytes step)
  advance-read reads costs =
      reads_long-ok (reads-bytes (all_read-unless_asked _ _ reads.within reads.may_stop) reads costs) costs

  -- `advance_until_terminated` ensures `ReadsLong` with a stop, whether it is refused memory or not.
  pub advance-until : (result : Result ℕ Refused)
      → IfOk result
      (λ read. ReadsUpTo (chunk_call true step is_terminated None bytes) old new read parser.machine next.machine)
      → IfErr result
      (λ refused. ReadsUntilRefused (chunk_call true step is_terminated None bytes) old new refused.read
      parser.machine next.machine)
      → Costs (per_byte 5) bytes result (read_count result) parser.machine next.machine (total_looks parser.looks)
      (total_looks next.looks)
      → ReadsLong (per_byte 5) step is_terminated old new bytes parser next result
      (ReadsUntilTerminated step is_terminated)
  advance-until (Ok read) reads refuses costs = reads_long-ok (reads-until refl reads costs) costs
  advance-until (Err refused) reads refuses costs = reads_long-refused (is_refused-asked refuses costs) costs

  -- `advance_to_run` ensures `ReadsLong` with a run: if it is refused memory (`to_run-refused`), and if it returns a
  -- run or none (`to_run-read`).
  pub to_run-refused : (refused : Refused) {drove : Result RunRange Refused}
      → ReadsUntilRefused (chunk_call true step is_terminated None bytes) old new refused.read parser.machine
      next.machine
      → Costs (per_byte 7) bytes drove refused.read parser.machine next.machine
      (total_looks parser.looks) (total_looks next.looks)
      → ReadsLong (per_byte 7) step is_terminated old new bytes parser next (Err refused)
      (ReadsToRun step is_terminated)
  to_run-refused refused refuses costs = reads_long-refused (is_refused-asked refuses costs) costs

  pub to_run-read : (run : Run) {range : RunRange}
      → ComesToRun (chunk_call true step is_terminated None bytes) old new range parser.machine next.machine
      → run.start ≡ range.start → run.end ≡ range.end → IsTaken range.kind (bytes_at bytes range) run.taken
      → Costs (per_byte 7) bytes (Ok range) range.end parser.machine next.machine
      (total_looks parser.looks) (total_looks next.looks)
      → ((stream : List ℕ) → HasReadLong parser stream → ReportsOutsideRuns None stream bytes range.start)
      → ReadsLong (per_byte 7) step is_terminated old new bytes parser next (Ok run) (ReadsToRun step is_terminated)
  to_run-read run comes starts ends taken costs others =
      reads_long-ok
      (record {
        returns = returns-run run comes starts ends taken refl;
        reads = reads-run run comes starts ends taken;
        outside_runs = λ stream has_read. rw starts (others stream has_read);
        looks_at_most = rw ends costs.looks_at_most_if_ok;
        looks_at_least = rw ends costs.looks_at_least;
      })
      costs
