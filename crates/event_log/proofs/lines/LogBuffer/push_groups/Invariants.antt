-- The first group is pushed, and those passed so far, each after `;`. Those that are left have numbers.
use Rattle.event_log.proofs.Common.{after_semicolon, All, Bor, codes, ExtendsLine, flat_map, get_or, group_text, length, List, map, ℕ, [], ◌++◌, ◌<◌, ◌∷◌, ◌≡◌}
use Rattle.event_log.proofs.lines.LogBuffer.push_groups.Given as goal

abbrev pub invariant-loop-group : goal.invariant-loop-group
invariant-loop-group l =
    let first = get_or l.fn.params 0 [] in
    let passed = map (λ (group : Bor (List ℕ)). group.now) l.yielded in
    record {
      along : l.fn.params ≡ first ∷ passed ++ l.group-iterator;
      filled : All (λ group. 0 < length group) l.group-iterator;
      pushed : ExtendsLine l.fn.self (codes " [" ++ (group_text first ++ flat_map after_semicolon passed)) l.self;
    }
