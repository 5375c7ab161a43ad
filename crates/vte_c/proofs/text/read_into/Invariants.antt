-- This many bytes were read, and the buffer has all of their text (`HasTextOf`). Each round reads a byte or more.
use Rattle.vte_c.proofs.Common.{HasReadSaved, length, List, written_text_of, ℕ, ◌-◌, ◌≡◌, ◌≤◌}
use Rattle.vte_c.proofs.lemmas.Stripping.{HasTextOf}
use Rattle.vte_c.proofs.text.read_into.Given as goal

abbrev pub invariant-loop-count : goal.invariant-loop-count
invariant-loop-count l = record {
  within : l.count ≤ length l.bytes;
  nothing_read : l.count ≡ 0 → written_text_of l.writer ≡ written_text_of l.fn.writer;
  written : (stream : List ℕ) → HasReadSaved l.fn.saved stream
      → HasTextOf (written_text_of l.fn.writer) (written_text_of l.writer) stream l.bytes l.count l.parser;
}

abbrev pub decreases-loop-count : goal.decreases-loop-count
decreases-loop-count l = length l.bytes - l.count
