-- Each byte adds at most one byte of data to an open command, so a command that the bytes dispatch has no more than
-- was open before them and they add (`counts_data`).
use Rattle.vte_core.proofs.laws.commands_are_counted.Goals as goal
use Rattle.vte_core.proofs.lemmas.streams.StreamSteps.{counts_data}

pub returns : goal.returns
returns c = counts_data
