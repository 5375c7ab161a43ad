-- Data are kept as far as there is room. Once there are 16 ends they only count as dropped.
use Rattle.vte_core.proofs.Common.{arith, drop, eqb-false, eqb-true, HoldsItems, length, length-drop, length-take, refl, subst, sym, take, ℕ, ◌-◌, ◌∙◌, ◌≡◌}
use Rattle.vte_core.proofs.lemmas.fields.Stores.{holds_items-later, holds_items-run}
use Rattle.vte_core.proofs.store.CommandStore.push_data.Goals.{else-not-is_full, then-not-is_full}
use Rattle.vte_core.proofs.store.CommandStore.push_data.Goals as goal

pub returns-clause-holds : goal.returns-clause-holds
returns-clause-holds g c = λ items keeps.
    let args = c.args in
    let run = take (args.to - args.from) (drop args.from args.input.bytes.now) in
    let before = subst (λ stored. HoldsItems g.B.Buffer.limit stored items) (sym c.self.view_is) keeps in
    let size : length run ≡ args.to - args.from =
    omega (arith, length-take {A = ℕ}, length-drop {A = ℕ}, c.requires.range.within, c.requires.range.in_order) in
    elim c.if-not-is_full.branch [
      -- There are fewer than 16 ends.
      | then-not-is_full branch ↦
          let not_full = eqb-false _ _ (sym c.is_full.ensures.value ∙ branch.if-not-is_full.true) in
          rw branch.self-inside-is
          (holds_items-run _ _ _ items run
          (omega (arith, c.is_full.ensures.fits, not_full)) c.requires.data branch.append.ensures.appended refl
          (rw (c.bytes.ensures, c.bytes-before.ensures, branch.self-inside-is, size) refl) before)
      -- There are 16.
      | else-not-is_full branch ↦
          let all = eqb-true _ _ (sym c.is_full.ensures.value ∙ branch.if-not-is_full.false) in
          rw branch.self-inside-is (holds_items-later _ _ _ items run (omega (arith, all)) c.requires.data refl refl
          (rw (c.bytes.ensures, c.bytes-before.ensures, branch.self-inside-is, size) refl) before)
    ]
