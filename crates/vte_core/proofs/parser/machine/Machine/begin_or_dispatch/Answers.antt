-- By the key after ESC: `P`, `]`, that of an ignored string, or any other, which dispatches. The place after it is that
-- shape with nothing read.
use Rattle.vte_core.proofs.Common.{arith, refl, rules, sequence_kind, ◌∙◌}
use Rattle.vte_core.proofs.lemmas.bytes.Classes.{class-final, other_key}
use Rattle.vte_core.proofs.lemmas.fields.PlaceOfState.{is_at-between, is_at-escape}
use Rattle.vte_core.proofs.lemmas.places.PlaceLeads.{escape-end, escape-key}
use Rattle.vte_core.proofs.lemmas.positions.SettledStates.{settled-same_state}
use Rattle.vte_core.proofs.lemmas.positions.TakenBytes.{takes-byte}
use Rattle.vte_core.proofs.parser.machine.Machine.begin_or_dispatch.Goals as goal
use Rattle.vte_core.specs.SequenceKind.{DeviceControl, IgnoredString, SystemCommand}

-- `P` begins a device control string.
pub returns-then-byte-eq80-clause-takes : goal.returns-then-byte-eq80-clause-takes
unfolding sequence_kind
returns-then-byte-eq80-clause-takes g c = λ s.
    takes-byte refl (record { fields = c.clear_numbers.ensures.head (is_at-escape _ s) })
    (escape-key DeviceControl (class-final _ c.requires.ends) (rw c.if-byte-eq80.true refl) refl)

-- `]` begins a command.
pub returns-then-byte-eq93-clause-takes : goal.returns-then-byte-eq93-clause-takes
unfolding sequence_kind
returns-then-byte-eq93-clause-takes g c = λ s.
    takes-byte refl (record { fields = c.clear.ensures.holds })
    (escape-key SystemCommand (class-final _ c.requires.ends) (rw c.if-byte-eq93.true refl) refl)

-- `X`, `^` and `_` begin an ignored string.
pub returns-then-begins_ignored_string-clause-takes : goal.returns-then-begins_ignored_string-clause-takes
returns-then-begins_ignored_string-clause-takes g c = λ s.
    let key =
    other_key c.args.byte c.requires.no_bracket c.if-byte-eq80.false c.if-byte-eq93.false
    ∙ rw (← c.begins_ignored_string.ensures, c.if-begins_ignored_string.true) refl in
    takes-byte refl (record { fields = tt })
    (escape-key IgnoredString (class-final _ c.requires.ends) key refl)

-- Any other key is the final byte of an escape sequence.
pub returns-else-begins_ignored_string-clause-takes : goal.returns-else-begins_ignored_string-clause-takes
returns-else-begins_ignored_string-clause-takes g c = λ s.
    let key =
    other_key c.args.byte c.requires.no_bracket c.if-byte-eq80.false c.if-byte-eq93.false
    ∙ rw (← c.begins_ignored_string.ensures, c.if-begins_ignored_string.false) refl in
    let dispatched = c.dispatch_escape.ensures in
    let holds = is_at-escape _ s in
    takes-byte
    (rw (holds.kept, holds.too_many_intermediates) at dispatched.reports.value)
    (is_at-between dispatched.in_text)
    (escape-end (class-final _ c.requires.ends) refl key)

pub returns-else-begins_ignored_string-clause-handles : goal.returns-else-begins_ignored_string-clause-handles
returns-else-begins_ignored_string-clause-handles g c = search (rules, arith, settled-same_state)
