-- Which character was printed last.
use Rattle.std.specs.Prelude.{List, None, Option, Some, ℕ, ◌≡◌}
use Rattle.examples.specs.declared.last_printed.Watcher.{Watcher}
use Rattle.vte_core.specs.Event.{after, Event, Print}
use Rattle.vte_core.specs.Parser.{HasRead}
use Rattle.vte_core.specs.Stream.{default_limit, events}

-- The last character after one more event.
abbrev pub last_after : Option ℕ → Event → Option ℕ
last_after last (Print c) = Some c
last_after last event = last

-- The watcher has read the stream, and knows its last character.
pub record Watches (watcher : Watcher) (stream : List ℕ) : Type 0 where
  pub reads : HasRead watcher.parser stream
  pub knows : watcher.last.c ≡ after last_after None (events default_limit stream)
