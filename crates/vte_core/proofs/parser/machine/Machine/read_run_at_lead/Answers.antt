-- A run of text that begins here is reported at once, and is as its characters one by one (`advances-text`).
use Rattle.vte_core.proofs.Common.{arith, rules}
use Rattle.vte_core.proofs.lemmas.positions.TextRuns.{advances-text}
use Rattle.vte_core.proofs.parser.machine.Machine.read_run_at_lead.Goals as goal

pub returns-then-end-from-clause-advances : goal.returns-then-end-from-clause-advances
returns-then-end-from-clause-advances g c = search (rules, arith, advances-text)
