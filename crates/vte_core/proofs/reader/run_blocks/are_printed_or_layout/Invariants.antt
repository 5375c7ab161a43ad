-- Each byte before this one is plain, unless one was found that isn't.
use Rattle.std.proofs.Common.{true, ◌≡◌}
use Rattle.vte_core.proofs.reader.run_blocks.are_printed_or_layout.Given as goal
use Rattle.vte_core.specs.private.Automaton.{StaysBetweenCharacters}
use Rattle.vte_core.specs.private.Runs.{Each}

abbrev pub invariant-loop-byte : goal.invariant-loop-byte
invariant-loop-byte l = l.all ≡ true → Each StaysBetweenCharacters l.block 0 l.byte-index
