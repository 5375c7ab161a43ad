-- The first number is pushed, and those passed so far, each after `:`.
use Rattle.event_log.proofs.Common.{after_colon, decimal, drop, ExtendsLine, flat_map, get_or, length, take, ◌++◌, ◌-◌}
use Rattle.event_log.proofs.lines.LogBuffer.push_numbers.Given as goal

abbrev pub invariant-loop-number : goal.invariant-loop-number
invariant-loop-number l =
    let rest = take (length l.group - 1) (drop 1 l.group) in
    ExtendsLine l.fn.self (decimal (get_or l.group 0 0) ++ flat_map after_colon (take l.number-index rest)) l.self
