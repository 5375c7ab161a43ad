-- All bytes so far are ignored.
use Rattle.vte_core.proofs.Common.{AreIgnored, looks_of, ◌+◌, ◌≡◌}
use Rattle.vte_core.proofs.reader.Reader.find_ending_byte.Given as goal

abbrev pub invariant-loop-end : goal.invariant-loop-end
invariant-loop-end l = record {
  ignored : AreIgnored l.input.bytes.now l.from l.end;
  looks : looks_of l.self + l.from ≡ looks_of l.initial.self + l.end;
}
