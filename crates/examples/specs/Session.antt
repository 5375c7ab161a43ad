-- Whether a session's terminal was to ring.
use Rattle.std.specs.Prelude.{Bool, false, length, List, ℕ, [], ◌++◌, ◌≡◌}
use Rattle.examples.specs.declared.session.Session.{Session}
use Rattle.examples.specs.Page.{rung_after}
use Rattle.vte.specs.declared.ansi.laws.replays.Step.{Step}
use Rattle.vte.specs.Handler.{after}
use Rattle.vte.specs.Processor.{AreInOrder, calls_with_stops, Meaning, State, TakesSteps}
use Rattle.vte.specs.ProcessorCalls.{IsAt}
use Rattle.vte.specs.ProcessorFacts.{processor_facts}
use Rattle.vte.specs.StdSyncHandler.{pending_meaning}
use Rattle.vte.specs.Stream.{default_limit}

-- The values are whether the terminal was to ring, and whether an update is pending.
abbrev pub meaning : Meaning Bool Bool
meaning = record { limit = default_limit; step = rung_after; timeout = pending_meaning }

-- Nothing has been read, the terminal isn't to ring, and no update is pending.
abbrev pub start : State Bool Bool
start = record { parsed = []; stops = []; held = []; timeout = false; handler = false }

-- The session has made these calls of its processor, from the beginning on.
pub record HasMade (session : Session) (steps : List Step) : Type 0 where
  pub state : State Bool Bool
  pub takes : TakesSteps meaning start steps state
  pub is_at : IsAt (processor_facts (λ timeout. timeout.pending) session.processor)
      session.page.0.rung state

-- The bell has rung, or not, by the calls of a beginning of the given bytes. The others are held.
pub record RangBy (given held : List ℕ) (rung : Bool) : Type 0 where
  pub parsed : List ℕ
  pub stops : List ℕ
  pub each_once : given ≡ parsed ++ held
  pub in_order : AreInOrder 0 stops (length parsed)
  pub rung_is : rung ≡ after rung_after false (calls_with_stops default_limit parsed 0 stops)
