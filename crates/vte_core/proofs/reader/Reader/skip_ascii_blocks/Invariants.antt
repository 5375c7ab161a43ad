-- All bytes so far are printed or layout.
use Rattle.vte_core.proofs.Common.{length, ◌-◌}
use Rattle.vte_core.proofs.lemmas.bytes.Scans.{Searches}
use Rattle.vte_core.proofs.reader.Reader.skip_ascii_blocks.Given as goal
use Rattle.vte_core.specs.private.Automaton.{StaysBetweenCharacters}

abbrev pub invariant-loop-block : goal.invariant-loop-block
invariant-loop-block l = Searches StaysBetweenCharacters l.input.bytes.now l.from l.end l.initial.self l.self

abbrev pub decreases-loop-block : goal.decreases-loop-block
decreases-loop-block l = length l.input.bytes.now - l.end
