-- A number that begins a group has a length of its own (`pushed-begins` of `fields/FlatGroups`), stored if any is.
use Rattle.vte_core.proofs.Common.{All-push, ap, arith, count_of, greatest_number, length, lit<, rules, ◌<◌, ◌≡◌, ◌≤◌}
use Rattle.vte_core.proofs.lemmas.fields.FlatGroups.{count_of-cut_by_lengths, lengths_of-push, lengths_of_stored, pushed-begins, stored_groups-push}
use Rattle.vte_core.proofs.params.Params.push.Goals as goal

-- There is room for the number.
pub push-requires : goal.push-requires
push-requires c =
    (lit< tt, omega (arith, count_of-cut_by_lengths c.self.invariant.lengths_fit.fit, ap count_of c.self.view_is))

pub push-requires-else-is_empty : goal.push-requires-else-is_empty
push-requires-else-is_empty c =
    (lit< tt, omega (arith, count_of-cut_by_lengths c.self.invariant.lengths_fit.fit, ap count_of c.self.view_is))

-- There is room for the length.
pub push-requires-else-is_empty-2 : goal.push-requires-else-is_empty-2
push-requires-else-is_empty-2 c =
    let some : 0 < length c.self.inside.lengths.items = search (rules, arith) in
    let fit = rw (lengths_of_stored _ _ some) at c.self.invariant.lengths_fit.fit in
    let all = pushed-begins _ _ c.args.value fit in
    let count = count_of-cut_by_lengths c.self.invariant.lengths_fit.fit in
    (lit< tt, omega (arith, all.room, count, ap count_of c.self.view_is))

-- The lengths are still those of the numbers.
pub invariant_of-self-else-is_empty : goal.invariant_of-self-else-is_empty
invariant_of-self-else-is_empty c =
    let some : 0 < length c.self.inside.lengths.items = search (rules, arith) in
    let fit = rw (lengths_of_stored _ _ some) at c.self.invariant.lengths_fit.fit in
    let all = pushed-begins _ _ c.args.value fit in
    rw (c.push-else-is_empty-2.ensures.items, c.push-else-is_empty.ensures.items) (record {
      lengths_fit = record { fit = rw lengths_of-push all.lengths_fit };
      small =
          All-push (λ number. number ≤ greatest_number) _ c.args.value c.self.invariant.small
          (omega (arith, c.ranges.value.fits));
    })

-- The groups are the old ones with the number.
pub returns-then-is_empty : goal.returns-then-is_empty
returns-then-is_empty c =
    let none : length c.self.inside.lengths.items ≡ 0 = search (rules, arith) in
    rw (c.push.ensures.items, c.if-joined.false, ← c.self.view_is) (stored_groups-push _ _ c.args.value none)

pub returns-else-is_empty : goal.returns-else-is_empty
returns-else-is_empty c =
    let some : 0 < length c.self.inside.lengths.items = search (rules, arith) in
    let fit = rw (lengths_of_stored _ _ some) at c.self.invariant.lengths_fit.fit in
    let all = pushed-begins _ _ c.args.value fit in
    rw (
      c.push-else-is_empty-2.ensures.items,
      c.push-else-is_empty.ensures.items,
      lengths_of-push,
      c.if-joined.false,
      ← c.self.view_is,
      lengths_of_stored _ _ some,
    ) all.groups
