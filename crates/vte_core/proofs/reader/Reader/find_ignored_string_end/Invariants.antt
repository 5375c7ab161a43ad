-- All bytes so far are ignored.
use Rattle.vte_core.proofs.Common.{IsIgnored, length, ◌+◌, ◌-◌, ◌≤◌}
use Rattle.vte_core.proofs.lemmas.bytes.Scans.{Searches}
use Rattle.vte_core.proofs.reader.Reader.find_ignored_string_end.Given as goal

abbrev pub invariant-loop-block : goal.invariant-loop-block
invariant-loop-block l = record {
  far : l.from + 8 ≤ l.end;
  searches : Searches IsIgnored l.input.bytes.now l.from l.end l.fn.self l.self;
}

abbrev pub decreases-loop-block : goal.decreases-loop-block
decreases-loop-block l = length l.input.bytes.now - l.end
