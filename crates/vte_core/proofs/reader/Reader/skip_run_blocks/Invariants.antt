-- The bytes so far lead to a state that the last three of them say (`leads`), and have no control that is left out
-- (`kept`). Blocks have 16 bytes or more (`whole`), each of which was looked at (`looks_at_least`), none before the
-- first block (`no_looks`), and what they save pays for a wasted one (`looks_at_most`). Blocks of ASCII are counted
-- without overflow (`blocks_fit`), and the larger ones aren't the first (`early`).
use Rattle.vte_core.proofs.Common.{false, length, looks_of, ◌*◌, ◌+◌, ◌-◌, ◌<◌, ◌≡◌, ◌≤◌}
use Rattle.vte_core.proofs.lemmas.automaton_states.Windows.{IsAllowedAt}
use Rattle.vte_core.proofs.reader.Reader.skip_run_blocks.Given as goal
use Rattle.vte_core.specs.private.Runs.{Each}

abbrev pub invariant-loop-window : goal.invariant-loop-window
invariant-loop-window l = record {
  in_order : l.from ≤ l.end;
  within : l.end ≤ length l.input.bytes.now;
  leads : IsAllowedAt l.input.bytes.now l.from l.end;
  kept : l.layout ≡ false → Each (λ byte. 0x20 ≤ byte) l.input.bytes.now l.from l.end;
  whole : l.from < l.end → l.from + 16 ≤ l.end;
  looks_at_least : looks_of l.initial.self + l.end ≤ looks_of l.self + l.from;
  no_looks : l.end ≡ l.from → looks_of l.self ≡ looks_of l.initial.self;
  looks_at_most : l.from < l.end → 3 * looks_of l.self + 11 * l.from + 110 ≤ 3 * looks_of l.initial.self + 11 * l.end;
  blocks_fit : l.ascii_blocks ≤ l.end;
  early : l.end ≡ l.from → l.ascii_blocks ≤ 2;
}

abbrev pub decreases-loop-window : goal.decreases-loop-window
decreases-loop-window l = length l.input.bytes.now - l.end
