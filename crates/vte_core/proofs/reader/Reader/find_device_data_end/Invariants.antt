-- All bytes so far are put.
use Rattle.vte_core.proofs.Common.{ArePut, looks_of, ◌+◌, ◌≡◌}
use Rattle.vte_core.proofs.reader.Reader.find_device_data_end.Given as goal

abbrev pub invariant-loop-end : goal.invariant-loop-end
invariant-loop-end l = record {
  are_put : ArePut l.input.bytes.now l.from l.end;
  looks : looks_of l.self + l.from ≡ looks_of l.initial.self + l.end;
}
