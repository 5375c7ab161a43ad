-- No sequence begins at the bytes so far, unless one was found that may begin one.
use Rattle.std.proofs.Common.{IsTrue}
use Rattle.vte.proofs.ansi.updates.release.has_no_private_sequence.Given as goal
use Rattle.vte.specs.private.Hold.{HasNoPrivateSequence}

abbrev pub invariant-loop-index : goal.invariant-loop-index
invariant-loop-index l = IsTrue l.none_found → HasNoPrivateSequence l.block l.index
