-- Bytes after ESC that begin no string: ESC once more (`advances-again`) and dropped bytes (`takes_bytes-dropped`)
-- leave the place as it is, and `[` leads to an empty head (`advances-bracket`).
use Rattle.vte_core.proofs.Common.{Advances, AtEscape, ChunkCall, class_of, ControlSequence, ends_sequence, Entry, Escape, Event, false, HoldsHead, HoldsIntermediates, InControlSequence, is_final, is_head_byte, is_plain_control, IsAtPlace, IsPlaceOfState, IsSettledPlace, length, Machine, MayGoOn, Option, Place, refl, sequence_kind, slice_index, TakesBytes, ℕ, [], ◌+◌, ◌<◌, ◌∷◌, ◌≡◌}
use Rattle.vte_core.proofs.lemmas.bytes.Classes.{other_is_dropped}
use Rattle.vte_core.proofs.lemmas.fields.PlaceOfState.{is_at-by, is_at-in}
use Rattle.vte_core.proofs.lemmas.places.PlaceLeads.{byte-dropped, escape-key}
use Rattle.vte_core.proofs.lemmas.positions.SettledStates.{settled-same_state}
use Rattle.vte_core.proofs.lemmas.positions.Stretches.{advances-byte, advances-given}
use Rattle.vte_core.proofs.lemmas.positions.TakenBytes.{advances-in, takes-at_escape, takes-byte, takes_bytes-escape, takes_bytes-in}

takes-escape : {V B : Type 0} {step : V → Event → V} {value : V} {limit : Option ℕ} {b : ℕ} {parser : Machine B}
    {place : Place} → parser.state ≡ Escape → b ≡ 0x1b
    → IsAtPlace limit parser place → IsPlaceOfState limit Escape parser place
    → TakesBytes step value value limit place (b ∷ []) parser
takes-escape {place = AtEscape} in_state is_escape is_at by =
    takes_bytes-escape is_escape in_state by AtEscape is_at refl
takes-escape in_state is_escape is_at by = absurd by

-- After ESC, another ESC changes nothing.
pub advances-again : {outside V B : Type 0} {call : ChunkCall V} {value : V} {i b : ℕ} {parser : Machine B}
    → parser.state ≡ Escape → i < length call.bytes → b ≡ slice_index call.bytes i → MayGoOn call value → b ≡ 0x1b
    → Advances outside call value value i (i + 1) parser parser
advances-again {call} {value} {b} {parser} in_state before_end byte_is may_go_on same =
    advances-given (rw in_state tt) (advances-byte before_end byte_is may_go_on
    (λ place is_at settled. takes-escape in_state same is_at (is_at-in in_state is_at))
    (settled-same_state in_state tt))

-- After ESC, DEL and 80..FF are dropped.
pub takes_bytes-dropped : {V B : Type 0} {step : V → Event → V} {value : V} {limit : Option ℕ} {b : ℕ}
    {parser : Machine B}
    → parser.state ≡ Escape → is_head_byte (class_of b) ≡ false → is_final (class_of b) ≡ false
    → ends_sequence (class_of b) ≡ false → is_plain_control (class_of b) ≡ false
    → (place : Place) → IsAtPlace limit parser place → IsSettledPlace place
    → TakesBytes step value value limit place (b ∷ []) parser
takes_bytes-dropped {limit} {b} {parser} in_state head final ordinary control =
    let dropped = other_is_dropped (class_of b) head final ordinary control in
    takes_bytes-in in_state ordinary
    (takes-at_escape parser
    (λ holds. takes-byte refl (is_at-by in_state holds) (byte-dropped refl refl dropped)))

-- After ESC, `[` begins a control sequence.
pub advances-bracket : {outside V B : Type 0} {call : ChunkCall V} {value : V} {i b : ℕ} {parser next : Machine B}
    → parser.state ≡ Escape → i < length call.bytes → b ≡ slice_index call.bytes i → MayGoOn call value → b ≡ 0x5b
    → next.state ≡ ControlSequence Entry → (HoldsIntermediates parser.collected [] → HoldsHead next.collected Entry [])
    → Advances outside call value value i (i + 1) parser next
unfolding class_of sequence_kind
advances-bracket {call} {parser} in_state before_end byte_is may_go_on bracket state holds =
    advances-given tt (advances-in in_state before_end byte_is may_go_on (rw bracket refl)
    (takes-at_escape parser
    (λ before. takes-byte {reported = []} {next = InControlSequence []} refl (is_at-by state (holds before))
    (rw bracket (escape-key _ refl refl refl)))) (settled-same_state state tt))
