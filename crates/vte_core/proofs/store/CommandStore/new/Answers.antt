-- A new store keeps no items.
use Rattle.vte_core.proofs.Common.{refl}
use Rattle.vte_core.proofs.lemmas.fields.Stores.{holds_items-nothing}
use Rattle.vte_core.proofs.store.CommandStore.new.Goals as goal

pub returns-clause-holds : goal.returns-clause-holds
returns-clause-holds g c = holds_items-nothing _ _ c.requires c.new.ensures refl
