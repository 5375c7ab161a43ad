-- What the parser did with a byte, or several: the events that a performer received, with the
-- count of looks, and the place at which the parser then is.
use Rattle.std.specs.Prelude.{List, Option, ℕ, ◌+◌, ◌≡◌, ◌≤◌}
use Rattle.vte_core.specs.declared.parser.machine.Machine.{Machine}
use Rattle.vte_core.specs.declared.parser.State.TheVariants.{Text}
use Rattle.vte_core.specs.declared.reader.Reader.{Reader}
use Rattle.vte_core.specs.declared.utf8.OpenCharacter.TheVariants.{Empty}
use Rattle.vte_core.specs.Event.{after, Event}
use Rattle.vte_core.specs.Looks.{looks_of}
use Rattle.vte_core.specs.private.AtPlace.{IsAtPlace}
use Rattle.vte_core.specs.private.Place.{BytesLead, Leads, Place}

-- The performer received the event, which counts one look.
pub record Reports {V : Type 0} (step : V → Event → V) (old new : V) (event : Event)
    (old_reader new_reader : Reader) : Type 0 where
  pub value : new ≡ step old event
  pub looks : looks_of new_reader ≡ looks_of old_reader + 1

-- The performer received the events, for which `count` looks are counted.
pub record ReportsAll {V : Type 0} (step : V → Event → V) (old new : V) (events : List Event)
    (count : ℕ) (old_reader new_reader : Reader) : Type 0 where
  pub value : new ≡ after step old events
  pub looks : looks_of new_reader ≡ looks_of old_reader + count

-- The performer received the events of the byte, and the parser is at the place to which it
-- leads.
pub record TakesByte {V B : Type 0} (step : V → Event → V) (old new : V) (limit : Option ℕ)
    (place : Place) (byte : ℕ) (parser : Machine B) : Type 0 where
  pub reported : List Event
  pub next : Place
  pub performed : new ≡ after step old reported
  pub is_at : IsAtPlace limit parser next
  pub leads : Leads limit place byte reported next

-- The performer received a sequence, as one event. The parser is in a text then, and freed no
-- memory.
pub record Dispatches {V B : Type 0} (step : V → Event → V) (old new : V) (event : Event)
    (parser next : Machine B) (old_reader new_reader : Reader) : Type 0 where
  pub reports : Reports step old new event old_reader new_reader
  pub in_text : next.state ≡ Text Empty
  pub keeps_memory : parser.command.capacity ≤ next.command.capacity

-- The performer received the events of the bytes, which may include ESC.
pub record TakesBytes {V B : Type 0} (step : V → Event → V) (old new : V) (limit : Option ℕ)
    (place : Place) (bytes : List ℕ) (parser : Machine B) : Type 0 where
  pub reported : List Event
  pub next : Place
  pub performed : new ≡ after step old reported
  pub is_at : IsAtPlace limit parser next
  pub leads : BytesLead limit place bytes reported next
