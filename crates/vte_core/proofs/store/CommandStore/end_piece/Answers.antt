-- An end is kept if there is room for it; otherwise the item changes nothing that is kept.
use Rattle.std.proofs.lemmas.Bool.{not-false}
use Rattle.vte_core.proofs.Common.{arith, eqb-false, eqb-true, HoldsItems, not-true, refl, subst, sym, [], ◌++◌, ◌∙◌, ◌∷◌}
use Rattle.vte_core.proofs.lemmas.fields.Stores.{done-complete, holds_items-done, holds_items-end, pieces_from-full}
use Rattle.vte_core.proofs.store.CommandStore.end_piece.Goals.{else-not-is_full-via-else-not-is_full, else-not-is_full-via-then-not-is_full+else-not-is_full-2}
use Rattle.vte_core.proofs.store.CommandStore.end_piece.Goals as goal

pub returns-then-not-is_full-2-clause-holds : goal.returns-then-not-is_full-2-clause-holds
returns-then-not-is_full-2-clause-holds g c = λ items keeps.
    let before = subst (λ stored. HoldsItems g.B.Buffer.limit stored items) (sym c.self.view_is) keeps in
    let not_full = eqb-false _ _ (sym c.is_full.ensures.value ∙ c.if-not-is_full.true) in
    let room = not-false _ (sym c.is_full-then-not-is_full.ensures ∙ c.if-not-is_full-2.true) in
    holds_items-end _ _ _ items (omega (arith, c.is_full.ensures.fits, not_full)) room refl
    (rw c.bytes.ensures at c.push.ensures.items) refl before

pub returns-else-not-is_full-clause-holds : goal.returns-else-not-is_full-clause-holds
returns-else-not-is_full-clause-holds g c = λ items keeps.
    let before = subst (λ stored. HoldsItems g.B.Buffer.limit stored items) (sym c.self.view_is) keeps in
    subst (λ stored. HoldsItems g.B.Buffer.limit stored (items ++ 59 ∷ [])) c.self.view_is
    (elim c.else-not-is_full.branch [
      | else-not-is_full-via-then-not-is_full+else-not-is_full-2 branch ↦
          holds_items-done
          (pieces_from-full _ _ _
          (not-true _ (sym branch.is_full-then-not-is_full.ensures ∙ branch.if-not-is_full-2.false))) before
      | else-not-is_full-via-else-not-is_full branch ↦
          let all = eqb-true _ _ (sym c.is_full.ensures.value ∙ branch.if-not-is_full.false) in
          holds_items-done (done-complete (omega (arith, all)) before) before
    ])
