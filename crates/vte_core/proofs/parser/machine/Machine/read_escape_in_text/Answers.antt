-- ESC in a text, and `[` after it, are two steps of one byte; then the call goes on with the head, or after ESC.
use Rattle.vte_core.proofs.Common.{arith, CollectedHead, Escape, Machine, refl}
use Rattle.vte_core.proofs.lemmas.positions.EscapeStretches.{advances-bracket}
use Rattle.vte_core.proofs.lemmas.positions.SettledStates.{place-settled_text}
use Rattle.vte_core.proofs.lemmas.positions.Stretches.{advances-byte, advances-escape, advances-then}
use Rattle.vte_core.proofs.lemmas.positions.TakenBytes.{takes_bytes-escape}
use Rattle.vte_core.proofs.parser.machine.Machine.read_escape_in_text.Goals as goal

-- The machine after the ESC.
abbrev escaped : {B : Type 0} → Machine B → CollectedHead → Machine B
escaped before collected = record { state = Escape; collected = collected; command = before.command }

pub returns-then-byte_at-eq91-clause-advances : goal.returns-then-byte_at-eq91-clause-advances
returns-then-byte_at-eq91-clause-advances g c =
    let after_escape = escaped c.args.self.now c.clear_intermediates.new.self in
    advances-then
    (advances-escape c.requires.may_read.in_state c.requires.may_read.before_end c.requires.escape
    (advances-byte {next = after_escape} c.requires.may_read.before_end refl c.requires.may_read.may_go_on
    (λ place s between. takes_bytes-escape c.requires.escape refl c.clear_intermediates.ensures place s
    (rw (place-settled_text c.requires.may_read.in_state s) refl))
    tt))
    (advances-then
    (advances-bracket {parser = after_escape} refl
    (omega arith) c.byte_at.ensures.value c.requires.may_read.may_go_on c.if-byte_at-eq91.true
    refl c.clear_numbers.ensures.head)
    c.read_short_head.ensures.advances)

pub returns-clause-advances : goal.returns-clause-advances
returns-clause-advances g c =
    advances-then
    (advances-escape c.requires.may_read.in_state c.requires.may_read.before_end c.requires.escape
    (advances-byte c.requires.may_read.before_end refl c.requires.may_read.may_go_on
    (λ place s between. takes_bytes-escape c.requires.escape refl c.clear_intermediates.ensures place s
    (rw (place-settled_text c.requires.may_read.in_state s) refl))
    tt))
    c.read_after_escape.ensures.advances
