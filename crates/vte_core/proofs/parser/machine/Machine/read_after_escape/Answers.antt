-- ESC once more changes nothing. `[` leads to a head, which is read on; any other byte is one step.
use Rattle.vte_core.proofs.Common.{arith, refl, rules}
use Rattle.vte_core.proofs.lemmas.positions.EscapeStretches.{advances-again, advances-bracket}
use Rattle.vte_core.proofs.lemmas.positions.SettledStates.{settled-same_state}
use Rattle.vte_core.proofs.lemmas.positions.Stretches.{advances-byte, advances-given, advances-nothing, advances-then, advances-to_same}
use Rattle.vte_core.proofs.parser.machine.Machine.read_after_escape.Goals as goal

pub loop-position-init : goal.loop-position-init
loop-position-init g c = search (rules, arith, advances-nothing, settled-same_state)

-- After ESC, another ESC changes nothing.
pub loop-position-preserved : goal.loop-position-preserved
loop-position-preserved g c = search (rules, arith, advances-then, advances-again)

-- `[` begins a control sequence, whose head is read next.
pub returns-then-byte-eq91-clause-advances : goal.returns-then-byte-eq91-clause-advances
returns-then-byte-eq91-clause-advances g c =
    let invariant = c.loop-position.invariant in
    advances-then invariant.advances
    (advances-then
    (advances-bracket invariant.in_state
    (omega arith) c.byte_at-byte.ensures.value invariant.may_go_on c.if-byte-eq91.true refl
    c.clear_numbers.ensures.head)
    c.read_rest_of_head.ensures.advances)

-- Any other byte is read by `read_byte_after_escape`.
pub returns-then-byte-ne-ESCAPE-clause-advances : goal.returns-then-byte-ne-ESCAPE-clause-advances
returns-then-byte-ne-ESCAPE-clause-advances g c =
    let invariant = c.loop-position.invariant in
    let read = c.read_byte_after_escape.ensures in
    advances-then invariant.advances
    (advances-given (rw invariant.in_state tt)
    (advances-byte (omega arith) c.byte_at-byte.ensures.value invariant.may_go_on read.takes read.handles.settled))

pub returns-clause-advances : goal.returns-clause-advances
returns-clause-advances g c = advances-to_same (omega arith) c.loop-position.invariant.advances
