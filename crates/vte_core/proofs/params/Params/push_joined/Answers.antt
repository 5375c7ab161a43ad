-- The last length grows by one (`pushed-joins` of `fields/FlatGroups`): there is room, and the lengths still fit.
use Rattle.vte_core.proofs.Common.{All-push, ap, arith, count_of, greatest_number, length, lit<, None, rules, ◌≡◌, ◌≤◌}
use Rattle.vte_core.proofs.lemmas.fields.FlatGroups.{count_of-cut_by_lengths, lengths_of-push, pushed-joins}
use Rattle.vte_core.proofs.params.Params.push_joined.Goals as goal

-- There is room for the number.
pub push-requires : goal.push-requires
push-requires c =
    (lit< tt, omega (arith, count_of-cut_by_lengths c.self.invariant.lengths_fit.fit, ap count_of c.self.view_is))

-- There is room for the length.
pub push-requires-2 : goal.push-requires-2
push-requires-2 c =
    let parts = rw (c.fill_lengths.ensures, c.len.ensures.value) at c.pop.ensures.items in
    let found : c.pop.result ≡ None → length c.fill_lengths.new.lengths.items ≡ 0 = search (rules, arith) in
    let all =
    pushed-joins _ _ _ _ c.args.value c.self.invariant.lengths_fit.fit parts
    (rw (c.fill_lengths.ensures, c.len.ensures.value) at found) in (
      lit< tt,
      omega
          (arith, all.room, count_of-cut_by_lengths c.self.invariant.lengths_fit.fit, ap count_of c.self.view_is),
    )

-- The lengths are still those of the numbers.
pub invariant_of-self : goal.invariant_of-self
invariant_of-self c =
    let parts = rw (c.fill_lengths.ensures, c.len.ensures.value) at c.pop.ensures.items in
    let found : c.pop.result ≡ None → length c.fill_lengths.new.lengths.items ≡ 0 = search (rules, arith) in
    let all =
    pushed-joins _ _ _ _ c.args.value c.self.invariant.lengths_fit.fit parts
    (rw (c.fill_lengths.ensures, c.len.ensures.value) at found) in
    rw (c.push-2.ensures.items, c.push.ensures.items, c.unwrap_or-length.ensures) (record {
      lengths_fit = record { fit = rw lengths_of-push all.lengths_fit };
      small =
          All-push (λ number. number ≤ greatest_number) _ c.args.value c.self.invariant.small
          (omega (arith, c.ranges.value.fits));
    })

-- The groups are the old ones with the number.
pub returns : goal.returns
returns c =
    let parts = rw (c.fill_lengths.ensures, c.len.ensures.value) at c.pop.ensures.items in
    let found : c.pop.result ≡ None → length c.fill_lengths.new.lengths.items ≡ 0 = search (rules, arith) in
    let all =
    pushed-joins _ _ _ _ c.args.value c.self.invariant.lengths_fit.fit parts
    (rw (c.fill_lengths.ensures, c.len.ensures.value) at found) in
    rw (
      c.push-2.ensures.items,
      c.push.ensures.items,
      c.unwrap_or-length.ensures,
      lengths_of-push,
      ← c.self.view_is,
    ) all.groups
