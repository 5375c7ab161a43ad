-- The byte after ESC by its class: a key, an intermediate, another byte that dispatches, a control, or one that is
-- dropped. In each case the state is that of the place to which the byte leads.
use Rattle.vte_core.proofs.Common.{arith, class_of, refl, rules, sym, [], ◌∙◌}
use Rattle.vte_core.proofs.lemmas.bytes.Classes.{below_40_is_escape_sequence, class-control, class-intermediate, final_ends_nothing, head_byte_below_40, head_ends_nothing, other_dispatches}
use Rattle.vte_core.proofs.lemmas.fields.PlaceOfState.{is_at-between, is_at-by}
use Rattle.vte_core.proofs.lemmas.places.PlaceLeads.{byte-executed, escape-end, escape-intermediate}
use Rattle.vte_core.proofs.lemmas.positions.EscapeStretches.{takes_bytes-dropped}
use Rattle.vte_core.proofs.lemmas.positions.SettledStates.{settled-same_state}
use Rattle.vte_core.proofs.lemmas.positions.TakenBytes.{takes-at_escape, takes-byte, takes_bytes-in}
use Rattle.vte_core.proofs.parser.machine.Machine.read_byte_after_escape.Goals as goal

-- A final byte is a key: what it begins is `begin_or_dispatch`'s.
pub returns-then-is_final-clause-takes : goal.returns-then-is_final-clause-takes
returns-then-is_final-clause-takes g c =
    let is_final = sym c.is_final.ensures ∙ c.if-is_final.true in
    takes_bytes-in c.requires.in_state (final_ends_nothing (class_of c.args.byte) is_final)
    (takes-at_escape c.args.self.now (λ holds. c.begin_or_dispatch.ensures.takes (is_at-by c.requires.in_state holds)))

-- An intermediate is the first of the sequence.
pub returns-then-is_intermediate-clause-takes : goal.returns-then-is_intermediate-clause-takes
returns-then-is_intermediate-clause-takes g c =
    let is_intermediate = class-intermediate _ (sym c.is_intermediate.ensures ∙ c.if-is_intermediate.true) in
    takes_bytes-in c.requires.in_state (rw is_intermediate refl)
    (takes-at_escape c.args.self.now (λ holds. takes-byte refl
    (record { fields = c.collect_intermediate.ensures.holds [] holds }) (escape-intermediate is_intermediate)))

-- Digits, `:`, `;` and markers dispatch: keys begin at `@`, which is later.
pub returns-then-is_head_byte-clause-takes : goal.returns-then-is_head_byte-clause-takes
returns-then-is_head_byte-clause-takes g c =
    let b = c.args.byte in
    let head = sym c.is_head_byte.ensures ∙ c.if-is_head_byte.true in
    let ends = other_dispatches (class_of b) head (sym c.is_intermediate.ensures ∙ c.if-is_intermediate.false) in
    let dispatched = c.dispatch_escape.ensures in
    takes_bytes-in c.requires.in_state (head_ends_nothing (class_of b) head)
    (takes-at_escape c.args.self.now
    (λ holds. takes-byte
    (rw (holds.kept, holds.too_many_intermediates) at dispatched.reports.value)
    (is_at-between dispatched.in_text)
    (escape-end refl ends (below_40_is_escape_sequence b (head_byte_below_40 b head)))))

-- A control is executed; the place stays after ESC.
pub returns-then-is_plain_control-clause-takes : goal.returns-then-is_plain_control-clause-takes
returns-then-is_plain_control-clause-takes g c =
    let b = c.args.byte in
    let is_control = class-control _ (sym c.is_plain_control.ensures ∙ c.if-is_plain_control.true) in
    takes_bytes-in c.requires.in_state (rw is_control refl)
    (takes-at_escape c.args.self.now
    (λ holds. takes-byte c.execute_control.ensures.value (is_at-by c.requires.in_state holds)
    (byte-executed refl is_control)))

-- The bytes that are left are DEL and 80..FF, which are dropped.
pub returns-else-is_plain_control-clause-takes : goal.returns-else-is_plain_control-clause-takes
returns-else-is_plain_control-clause-takes g c = search (rules, arith, takes_bytes-dropped)

pub returns-then-is_plain_control-clause-handles : goal.returns-then-is_plain_control-clause-handles
returns-then-is_plain_control-clause-handles g c = search (rules, arith, settled-same_state)

pub returns-then-is_head_byte-clause-handles : goal.returns-then-is_head_byte-clause-handles
returns-then-is_head_byte-clause-handles g c = search (rules, arith, settled-same_state)
