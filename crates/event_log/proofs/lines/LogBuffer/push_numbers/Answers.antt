-- The first number, and then each other one after `:`, are the text of the group (`group_written`).
use Rattle.event_log.proofs.Common.{group_written}
use Rattle.event_log.proofs.lines.LogBuffer.push_numbers.Goals as goal

pub returns : goal.returns
returns c =
    let all = group_written c.args.group.now c.loop-number.number-index c.requires c.loop-number-test.false in
    rw (← all) c.loop-number.invariant
