-- Data of a command were dropped if the store says so: by the state, and so the place, of the parser.
use Rattle.vte_core.proofs.Common.{arith, HoldsItems, InSystemCommand, InText, IsAtPlace, IsPlaceOfState, List, Machine, Option, Place, rules, SaysLoss, State, sym, SystemCommand, to_close_at, ℕ, [], ◌∷◌}
use Rattle.vte_core.proofs.lemmas.fields.PlaceOfState.{is_at-place}
use Rattle.vte_core.proofs.lemmas.fields.Stores.{stored_lost}
use Rattle.vte_core.proofs.lemmas.streams.After.{after-to_close}
use Rattle.vte_core.proofs.parser.machine.Machine.command_lost_data.Goals as goal

by_state : {B : Type 0} (limit : Option ℕ) (state : State) (parser : Machine B) (items : List ℕ)
    → IsPlaceOfState limit state parser (InSystemCommand items) → HoldsItems limit parser.command items
by_state limit SystemCommand parser items s = s
by_state limit _ parser items s = absurd s

by_place : {B : Type 0} (limit : Option ℕ) (parser : Machine B) (place : Place)
    → IsAtPlace limit parser place → SaysLoss (to_close_at limit place) parser.command.lost
by_place limit parser (InText []) s = tt
by_place limit parser (InText (a ∷ u)) s = tt
by_place limit parser (InSystemCommand items) s =
    sym (stored_lost (by_state limit parser.state parser items s.fields))
by_place limit parser _ s = tt

pub returns-clause-open : goal.returns-clause-open
returns-clause-open g c = search (rules, arith, after-to_close, is_at-place, by_place)
