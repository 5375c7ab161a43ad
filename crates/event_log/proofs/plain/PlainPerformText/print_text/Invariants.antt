-- The characters so far are taken.
use Rattle.event_log.proofs.Common.{after, collected_text_of, map, plain_text_of, run_event, true, with_event, ◌≡◌}
use Rattle.event_log.proofs.plain.PlainPerformText.print_text.Given as goal

abbrev pub invariant-loop-c : goal.invariant-loop-c
invariant-loop-c l =
    collected_text_of l.self-inside.texts
    ≡ after (with_event plain_text_of) (collected_text_of l.initial.self-inside.texts) (map (run_event true) l.yielded)
