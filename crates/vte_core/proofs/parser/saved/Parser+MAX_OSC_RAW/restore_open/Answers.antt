-- A parser whose fields are those that were saved has read what the saved one had.
use Rattle.vte_core.proofs.Common.{refl, rules}
use Rattle.vte_core.proofs.parser.saved.Parser+MAX_OSC_RAW.restore_open.Goals.{in-ControlSequence, in-SystemCommand, in_default}
use Rattle.vte_core.proofs.parser.saved.Parser+MAX_OSC_RAW.restore_open.Goals as goal

pub returns : goal.returns
returns c = λ stream has_read. has_read.reads (record c.args.self.now { machine = _ }) (record {
  state = search rules;
  intermediates = search rules;
  too_many_intermediates = λ has. refl;
  params = λ head groups raw. elim c.match-machine.branch [
    | in-ControlSequence w ↦ rw w.machine-is (w.from_raw_parts-machine.ensures groups
        (rw (w.collect_front.ensures, w.collect_front-in-ControlSequence.ensures) raw))
    | in-SystemCommand w ↦ search rules
    | in_default w ↦ search rules
  ];
  number = λ head. refl;
  joined = λ head. refl;
  bytes = search rules;
  ends = search rules;
  lost = search rules;
})
