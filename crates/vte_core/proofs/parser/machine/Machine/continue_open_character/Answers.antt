-- Without an open character the call is at its start. With one it is after the bytes that continue it.
use Rattle.vte_core.proofs.Common.{arith, false≢true, rules, sym, ◌∙◌}
use Rattle.vte_core.proofs.lemmas.positions.AddedEvents.{reports-nothing, reports-open}
use Rattle.vte_core.proofs.lemmas.positions.CallEnds.{starts-at, starts-inside}
use Rattle.vte_core.proofs.lemmas.positions.Characters.{open-in_text}
use Rattle.vte_core.proofs.lemmas.positions.SettledStates.{settled-nothing, settled-outside, settled-same_state}
use Rattle.vte_core.proofs.parser.machine.Machine.continue_open_character.Goals as goal

-- A text without an open character.
pub returns-then-is_empty-clause-is_at_position : goal.returns-then-is_empty-clause-is_at_position
returns-then-is_empty-clause-is_at_position g c =
    search (rules, arith, starts-at, settled-same_state, settled-nothing)

-- An open character: what continues it begins inside it.
pub returns-else-is_empty-clause-is_at_position : goal.returns-else-is_empty-clause-is_at_position
returns-else-is_empty-clause-is_at_position g c =
    λ stream has_read.
    c.continue_character.ensures.completes.is_at_position _ stream c.args.self.now c.in-Text.is (starts-inside has_read)

-- Outside a text no character is open, so the call is at its start.
pub returns-in_default-clause-is_at_position : goal.returns-in_default-clause-is_at_position
returns-in_default-clause-is_at_position g c = λ stream has_read.
    starts-at (settled-outside _ c.in_default.not-Text) has_read

-- The same three, of what is reported by no run.
pub returns-then-is_empty-clause-outside_runs : goal.returns-then-is_empty-clause-outside_runs
returns-then-is_empty-clause-outside_runs g c stream has_read =
    reports-nothing
    (settled-same_state c.in-Text.is (settled-nothing c.in-Text.opened (c.is_empty.ensures.0 c.if-is_empty.true)))
    has_read

pub returns-in_default-clause-outside_runs : goal.returns-in_default-clause-outside_runs
returns-in_default-clause-outside_runs g c stream has_read =
    reports-nothing (settled-outside _ c.in_default.not-Text) has_read

pub returns-else-is_empty-clause-outside_runs : goal.returns-else-is_empty-clause-outside_runs
returns-else-is_empty-clause-outside_runs g c stream has_read =
    let reported =
    c.continue_character.ensures.completes.adds _ stream c.args.self.now c.in-Text.is (starts-inside has_read) in
    reports-open reported
    (λ closed.
    open-in_text c.args.self.now c.in-Text.is
    (λ empty. false≢true (sym c.if-is_empty.false ∙ c.is_empty.ensures.1 empty)) has_read closed)
