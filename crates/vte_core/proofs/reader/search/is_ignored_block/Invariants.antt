-- All bytes before this one are ignored, unless one was found that is not.
use Rattle.std.proofs.Common.{IsTrue}
use Rattle.vte_core.proofs.reader.search.is_ignored_block.Given as goal
use Rattle.vte_core.specs.private.Runs.{AreIgnored}

abbrev pub invariant-loop-byte : goal.invariant-loop-byte
invariant-loop-byte l = IsTrue l.all → AreIgnored l.block 0 l.byte-index
