-- An empty store keeps no items.
use Rattle.vte_core.proofs.Common.{ap, refl, ◌∙◌}
use Rattle.vte_core.proofs.lemmas.fields.Stores.{holds_items-nothing}
use Rattle.vte_core.proofs.store.CommandStore.clear.Goals as goal

pub returns-clause-holds : goal.returns-clause-holds
returns-clause-holds g c =
    let removed = c.remove_items.ensures in
    holds_items-nothing _ _ (ap (λ store. store.bytes) c.self.view_is ∙ removed.no_bytes)
    (ap (λ store. store.ends) c.self.view_is ∙ removed.no_ends) refl
