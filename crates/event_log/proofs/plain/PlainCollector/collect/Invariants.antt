-- What is collected, and then the text of what is unread, adds up to the total text. Each round reads a byte or more.
use Rattle.event_log.proofs.Common.{AddsUpTo, empty_text, HasKept, length, List, plain_text_of, ℕ, [], ◌≡◌, ◌≤◌}
use Rattle.event_log.proofs.plain.PlainCollector.collect.Given as goal

abbrev pub invariant-loop-self : goal.invariant-loop-self
invariant-loop-self l = record {
  within : length l.unread ≤ length l.bytes;
  nothing_read : length l.unread ≡ length l.bytes → l.self ≡ empty_text;
  keeps : (total_text : List ℕ → List ℕ) → AddsUpTo plain_text_of total_text [] l.fn.parser l.bytes
      → HasKept plain_text_of total_text l.self l.parser l.unread;
}

abbrev pub decreases-loop-self : goal.decreases-loop-self
decreases-loop-self l = length l.unread
