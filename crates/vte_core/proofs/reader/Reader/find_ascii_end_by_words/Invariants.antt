-- All bytes so far are printed ASCII.
use Rattle.vte_core.proofs.Common.{IsPrintedAscii, length, ◌-◌}
use Rattle.vte_core.proofs.lemmas.bytes.Scans.{Searches}
use Rattle.vte_core.proofs.reader.Reader.find_ascii_end_by_words.Given as goal

abbrev pub invariant-loop-word : goal.invariant-loop-word
invariant-loop-word l = Searches IsPrintedAscii l.input.bytes.now l.from l.end l.initial.self l.self

abbrev pub decreases-loop-word : goal.decreases-loop-word
decreases-loop-word l = length l.input.bytes.now - l.end
