-- All bytes so far are data of a command.
use Rattle.vte_core.proofs.Common.{looks_of, ◌+◌, ◌≡◌}
use Rattle.vte_core.proofs.reader.Reader.find_command_data_end.Given as goal
use Rattle.vte_core.specs.private.Runs.{Each}
use Rattle.vte_core.specs.SystemCommand.{IsCommandData}

abbrev pub invariant-loop-end : goal.invariant-loop-end
invariant-loop-end l = record {
  are_data : Each IsCommandData l.input.bytes.now l.from l.end;
  looks : looks_of l.self + l.from ≡ looks_of l.initial.self + l.end;
}
