-- Bytes of an ignored string lead back to it, one by one (`advances-ignored_bytes`); then it ends, or the bytes do.
use Rattle.vte_core.proofs.Common.{Advances, AreIgnored, arith, ChunkCall, IgnoredString, length, Machine, MayGoOn, refl, rules, suc, zero, ℕ, ◌+◌, ◌-◌, ◌≡◌, ◌≤◌}
use Rattle.vte_core.proofs.lemmas.bytes.Classes.{ends_not_cancel}
use Rattle.vte_core.proofs.lemmas.fields.PlaceOfState.{is_at-by}
use Rattle.vte_core.proofs.lemmas.places.PlaceLeads.{ignored-more}
use Rattle.vte_core.proofs.lemmas.positions.SettledStates.{settled-same_state}
use Rattle.vte_core.proofs.lemmas.positions.Stretches.{advances-given, advances-nothing, advances-then, advances-to_same}
use Rattle.vte_core.proofs.lemmas.positions.TakenBytes.{advances-in, takes-byte, takes-in_ignored}
use Rattle.vte_core.proofs.parser.machine.Machine.read_ignored_string.Goals as goal

-- A call reads n ignored bytes, which report nothing.
advances-ignored_bytes : {outside V B : Type 0} {call : ChunkCall V} {value : V} {parser : Machine B} (n i : ℕ)
    → parser.state ≡ IgnoredString → i + n ≤ length call.bytes → AreIgnored call.bytes i (i + n) → MayGoOn call value
    → Advances outside call value value i (i + n) parser parser
advances-ignored_bytes zero i in_state within are_ignored may_go_on =
    advances-to_same (omega arith) (advances-nothing (λ _. settled-same_state in_state tt))
advances-ignored_bytes {call} {parser} (suc n) i in_state within are_ignored may_go_on =
    let ordinary = are_ignored i (omega arith) (omega arith) in
    advances-to_same (omega arith) (advances-then
    (advances-given tt (advances-in in_state (omega (arith, within)) refl may_go_on ordinary
    (takes-in_ignored parser
    (takes-byte refl (is_at-by in_state tt)
    (ignored-more (ends_not_cancel _ ordinary)))) (settled-same_state in_state tt)))
    (advances-ignored_bytes n (i + 1) in_state (omega (arith, within))
    (λ k low high. are_ignored k (omega (arith, low)) (omega (arith, high))) may_go_on))

advances-ignored : {outside V B : Type 0} {call : ChunkCall V} {value : V} {i j : ℕ} {parser : Machine B}
    → parser.state ≡ IgnoredString → i ≤ j → j ≤ length call.bytes → AreIgnored call.bytes i j → MayGoOn call value
    → Advances outside call value value i j parser parser
advances-ignored {i} {j} in_state in_order within are_ignored may_go_on =
    advances-to_same (omega (arith, in_order))
    (advances-ignored_bytes (j - i) i in_state (omega (arith, in_order, within))
    (λ k from to. are_ignored k from (omega (arith, in_order, to))) may_go_on)

pub returns-in-None-clause-advances : goal.returns-in-None-clause-advances
returns-in-None-clause-advances g c = search (rules, arith, advances-ignored)

pub returns-in-Some-clause-advances : goal.returns-in-Some-clause-advances
returns-in-Some-clause-advances g c = search (rules, arith, advances-then, advances-ignored)
