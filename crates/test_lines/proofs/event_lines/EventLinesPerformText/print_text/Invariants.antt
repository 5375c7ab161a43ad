-- The stop is as after the characters so far.
use Rattle.std.proofs.Common.{false, map, ◌≡◌}
use Rattle.test_lines.proofs.event_lines.EventLinesPerformText.print_text.Given as goal
use Rattle.test_lines.specs.Stop.{stop_after}
use Rattle.vte_core.specs.Event.{after}
use Rattle.vte_core.specs.RunText.{run_event}

abbrev pub invariant-loop-c : goal.invariant-loop-c
invariant-loop-c l = l.self.stop ≡ after stop_after l.initial.self.stop (map (run_event false) l.yielded)
