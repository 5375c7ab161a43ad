-- A group of one number is written at once, and any other number by number after its count.
use Rattle.vte_c.proofs.Common.{append_assoc, arith, flat_map_more, get_or, group_bytes, length, List, refl, take, take_all, take_more, two_bytes, ℕ, [], ◌∷◌, ◌≡◌}
use Rattle.vte_c.proofs.event_writer.EventWriter.write_group.Goals as goal

group_bytes-one_number : (group : List ℕ) → length group ≡ 1 → group_bytes group ≡ 1 ∷ two_bytes (get_or group 0 0)
group_bytes-one_number [] is_one = absurd (omega (arith, is_one))
group_bytes-one_number (number ∷ []) is_one = refl
group_bytes-one_number (number ∷ next ∷ later) is_one = absurd (omega (arith, is_one))

pub returns-in-len1 : goal.returns-in-len1
returns-in-len1 c = λ buffers text holds.
    rw (group_bytes-one_number c.args.group.now (omega arith))
    (rw c.encode_single_number.ensures at (c.write.ensures.holds buffers text holds))

pub loop-number-preserved : goal.loop-number-preserved
loop-number-preserved c = λ buffers text holds.
    rw (take_more c.args.group.now c.loop-number.number-index 0 c.loop-number-test.true, ← flat_map_more)
    (c.write-end-in-loop-number.ensures.holds buffers _ (c.loop-number.invariant buffers text holds))

pub returns : goal.returns
returns c = λ buffers text holds.
    let all : take c.loop-number.number-index c.args.group.now ≡ c.args.group.now = take_all _ _ (omega arith) in
    rw (append_assoc text, all) at (c.loop-number.invariant buffers text holds)
