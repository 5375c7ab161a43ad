-- The numbers so far are written, each after the first with a colon before it.
use Rattle.vte_core.proofs.Common.{decimal, flat_map, get_or, HasWritten, IsPlainFormatter, take, ◌++◌}
use Rattle.vte_core.proofs.lemmas.streams.ParameterTexts.{after_colon}
use Rattle.vte_core.proofs.params.GroupDisplay.fmt.Given as goal

abbrev pub invariant-loop-number : goal.invariant-loop-number
invariant-loop-number g l = IsPlainFormatter l.fn.f
    → HasWritten g.W.Write.write_str_gives l.fn.f
    (decimal (get_or l.self.0.now 0 0) ++ flat_map after_colon (take l.number-index l.rest)) l.f
