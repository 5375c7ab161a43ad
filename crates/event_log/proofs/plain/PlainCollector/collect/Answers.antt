-- The text of a chunk has at most eight bytes for each of its own, so there is room for all of it (`text-kept`).
use Rattle.event_log.proofs.Common.{ap, arith, CollectedText, default_limit, length, rules, sym, take-append-drop, ◌<◌, ◌∙◌}
use Rattle.event_log.proofs.lemmas.CollectedTexts.{room-for_unit}
use Rattle.event_log.proofs.lemmas.KeptTexts.{text-kept}
use Rattle.event_log.proofs.plain.PlainCollector.collect.Goals as goal

pub loop-self-preserved : goal.loop-self-preserved
loop-self-preserved c =
    let chunk = c.split_at.result.0.now in
    let used = ap (λ (collected : CollectedText). length collected.bytes) c.self.view_is in
    let half = room-for_unit c.loop-self.self (sym c.terminated.ensures ∙ c.if-not-terminated.true) in
    let left : 0 < length c.loop-self.unread.now = search rules in
    let not_empty : 0 < length chunk = omega arith in
    record {
      within = omega arith;
      nothing_read = λ same_length. absurd (omega arith);
      keeps = λ total_text before.
          let has_kept = c.loop-self.invariant.keeps total_text before in
          text-kept chunk c.split_at.result.1.now (c.bytes_are_brief.ensures default_limit) has_kept
          (rw (c.split_at.ensures.front, c.split_at.ensures.back)
          (take-append-drop c.min.result c.loop-self.unread.now)) (omega arith)
          (c.advance_text.ensures.performs has_kept.adds_up.already_read has_kept.adds_up.parsed)
          (c.advance_text.ensures.reads has_kept.adds_up.already_read has_kept.adds_up.parsed);
    }
