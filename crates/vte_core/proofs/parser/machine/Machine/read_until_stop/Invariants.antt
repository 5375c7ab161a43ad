-- The call is at this position, between characters if bytes are left. A byte of the text has three looks at most,
-- and one more if it is searched: a call that may stop searches no further than it has read. Both loops keep that.
use Rattle.vte_core.proofs.Common.{chunk_call, ChunkCall, length, List, looks_of, Machine, slice_index, true, ℕ, ◌*◌, ◌+◌, ◌-◌, ◌<◌, ◌≡◌, ◌≤◌}
use Rattle.vte_core.proofs.lemmas.positions.BetweenCharacters.{ReadsOn}
use Rattle.vte_core.proofs.parser.machine.Machine.read_until_stop.Given as goal
use Rattle.vte_core.specs.declared.reader.Reader.{Reader}

-- The call that reads these bytes.
abbrev pub call_at : (g : goal.Over) → List ℕ → ChunkCall g.P.CountedPerform.Value
call_at g bytes =
    chunk_call true g.P.CountedPerform.step g.P.CountedPerform.is_terminated g.B.Buffer.limit bytes

-- The position of the call, and what it has cost: `prefix` is what may be read before the next search.
pub record IsInText {B : Type 0} (g : goal.Over) (bytes prefix : List ℕ) (first value : g.P.CountedPerform.Value)
    (from position : ℕ) (before parser : Machine B) (old_reader new_reader : Reader) : Type 0 where
  pub reads_on : ReadsOn (call_at g bytes) first value from position before parser old_reader new_reader
  pub looks_at_most : looks_of new_reader + 4 * from ≤ looks_of old_reader + 3 * position + length prefix

abbrev pub invariant-loop-position-2 : goal.invariant-loop-position-2
invariant-loop-position-2 g l = record {
  is_at : IsInText g l.input.bytes.now l.prefix.bytes.now (g.P.CountedPerform.value_of l.fn.performer)
      (g.P.CountedPerform.value_of l.performer) l.from l.position l.fn.self l.self l.fn.reader
      l.reader;
  in_order : l.initial.position ≤ l.position;
  reads_some : l.initial.position ≡ l.position → l.position < length l.prefix.bytes.now;
}

abbrev pub decreases-loop-position-2 : goal.decreases-loop-position-2
decreases-loop-position-2 g l = length l.prefix.bytes.now - l.position

abbrev pub invariant-loop-position : goal.invariant-loop-position
invariant-loop-position g l = record {
  is_at : IsInText g l.input.bytes.now l.prefix.bytes.now (g.P.CountedPerform.value_of l.fn.performer)
      (g.P.CountedPerform.value_of l.performer) l.from l.position l.fn.self l.self l.fn.reader
      l.reader;
  prefix : length l.prefix.bytes.now ≤ length l.input.bytes.now;
  same : (k : ℕ) → k < length l.prefix.bytes.now → slice_index l.prefix.bytes.now k ≡ slice_index l.input.bytes.now k;
  before : l.position < length l.input.bytes.now → l.position < length l.prefix.bytes.now;
  reads_some : l.from ≡ l.position → l.position < length l.input.bytes.now;
}

abbrev pub decreases-loop-position : goal.decreases-loop-position
decreases-loop-position g l = length l.input.bytes.now - l.position
