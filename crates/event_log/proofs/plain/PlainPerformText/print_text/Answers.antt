-- A run that fits is taken at once (`run-taken`). Otherwise its characters are, one by one: the iterator yields all.
use Rattle.std.proofs.lemmas.Iterator.{YieldsList-from_chars}
use Rattle.std.proofs.lemmas.Iterator.Consumers.{YieldsList-end}
use Rattle.std.proofs.lemmas.List.{map-id}
use Rattle.event_log.proofs.Common.{after, ap, arith, collected_text_of, map, plain_text_of, run_event, sym, true, with_event, with_text, ◌∙◌}
use Rattle.event_log.proofs.lemmas.KeptTexts.{after-more, run-taken, text_of-character}
use Rattle.event_log.proofs.plain.PlainPerformText.print_text.Goals as goal

pub returns-then-text-remaining_capacity : goal.returns-then-text-remaining_capacity
returns-then-text-remaining_capacity c =
    let appended = rw c.as_bytes.ensures.value at c.append.ensures in
    rw (← c.self.view_is) (appended
    ∙ run-taken (collected_text_of c.self.inside.texts) c.args.text.now c.utf8.text
    (omega (arith, c.remaining_capacity.ensures, c.if-text-remaining_capacity.true)))

pub loop-c-preserved : goal.loop-c-preserved
loop-c-preserved c =
    let appended = rw (c.as_bytes-in-loop-c.ensures.value, c.encode_utf8.ensures.value) at c.append-in-loop-c.ensures in
    appended ∙ ap (with_text (collected_text_of c.loop-c.self-inside.texts)) (sym (text_of-character c.in-Some.c))
    ∙ after-more (with_event plain_text_of) (run_event true) c.loop-c.yielded c.in-Some.c _ _ c.loop-c.invariant

pub returns : goal.returns
returns c =
    let all =
    YieldsList-end
    (YieldsList-from_chars c.args.text.now c.utf8.text cc) c.loop-c.yielded _ c.loop-c.yielded_by _ _ c.in-None.is
    c.next.ensures.steps in
    rw (← c.self.view_is) (c.loop-c.invariant
    ∙ ap (λ cs. after (with_event plain_text_of) (collected_text_of c.self.inside.texts) (map (run_event true) cs))
    (sym (map-id c.loop-c.yielded) ∙ all.0))
