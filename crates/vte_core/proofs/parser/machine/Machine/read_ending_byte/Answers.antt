-- The body ends. After ESC the call goes on with the byte after that.
use Rattle.vte_core.proofs.lemmas.positions.Stretches.{advances-byte, advances-given, advances-then}
use Rattle.vte_core.proofs.parser.machine.Machine.read_ending_byte.Goals as goal

pub returns-then-byte-ne-ESCAPE-clause-advances : goal.returns-then-byte-ne-ESCAPE-clause-advances
returns-then-byte-ne-ESCAPE-clause-advances g c =
    let requires = c.requires.may_read in
    let ended = c.end_sequence.ensures in
    advances-given c.requires.outside_runs
    (advances-byte requires.before_end requires.looked_at requires.may_go_on ended.takes ended.handles.settled)

pub returns-clause-advances : goal.returns-clause-advances
returns-clause-advances g c =
    let requires = c.requires.may_read in
    let ended = c.end_sequence.ensures in
    advances-then
    (advances-given c.requires.outside_runs
    (advances-byte requires.before_end requires.looked_at requires.may_go_on ended.takes ended.handles.settled))
    c.read_after_escape.ensures.advances
