-- Where no further ASCII follows, the run is the first byte, which prints as a character. The longer run is
-- `report_text`'s.
use Rattle.vte_core.proofs.lemmas.positions.TextRuns.{prints-one}
use Rattle.vte_core.proofs.parser.text.print_ascii_run.Goals as goal

pub returns-in-Some-clause-prints : goal.returns-in-Some-clause-prints
returns-in-Some-clause-prints g c =
    prints-one c.requires.before_end c.requires.looked_at c.requires.printed c.from.ensures c.print_char.ensures.value

pub returns-in_default-clause-prints : goal.returns-in_default-clause-prints
returns-in_default-clause-prints g c =
    prints-one c.requires.before_end c.requires.looked_at c.requires.printed c.from.ensures c.print_char.ensures.value

pub returns-in_default-2-clause-prints : goal.returns-in_default-2-clause-prints
returns-in_default-2-clause-prints g c =
    prints-one c.requires.before_end c.requires.looked_at c.requires.printed c.from.ensures c.print_char.ensures.value
