-- The call may stop early, but only once the bell has rung, and no further event changes that.
use Rattle.std.proofs.Common.{ap, arith, Bool, drop, false, length, List, refl, sym, true, ℕ, [], ◌∙◌, ◌∷◌, ◌≡◌}
use Rattle.examples.proofs.bell.rings.Goals as goal
use Rattle.examples.specs.Bell.{rung_after}
use Rattle.vte_core.specs.EarlyStop.{resumed_stream, StopsExactly}
use Rattle.vte_core.specs.Event.{after, Event, Execute}
use Rattle.vte_core.specs.Stream.{added, default_limit, events}

stays : (event : Event) → rung_after true event ≡ true
stays (Execute byte) = refl
stays event = refl

-- A bell that has rung stays so.
stays_all : (events : List Event) → after rung_after true events ≡ true
stays_all [] = refl
stays_all (event ∷ events) = ap (λ rung. after rung_after rung events) (stays event) ∙ stays_all events

-- If the call stopped early, the bell has rung, and the bytes that follow can't change that. Otherwise all was read.
as_all : (rung : Bool) (n : ℕ) (bytes : List ℕ)
    → StopsExactly rung_after (λ has_rung. has_rung) false default_limit [] bytes rung n
    → rung ≡ after rung_after false (added default_limit [] bytes)
as_all true n bytes s = sym (stays_all (added default_limit (resumed_stream [] bytes n) (drop n bytes)))
    ∙ s.comes.rest_completes
as_all false n bytes s = s.all (grind (arith, s.comes.within, s.stops))

pub returns : goal.returns
returns c =
    let bytes = c.args.stream.now in
    as_all c.advance_until_terminated.new.performer.has_rung c.advance_until_terminated.result bytes
    (c.advance_until_terminated.ensures.stops [] c.new.ensures)
    ∙ ap (λ nothing. after rung_after false (drop (length nothing) (events default_limit bytes)))
    (c.empty_stream.ensures default_limit)
