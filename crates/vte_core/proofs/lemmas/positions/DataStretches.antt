-- Stretches of data: `advances-items`: data bytes of a command, which are stored; `advances-put`, `advances-data`: a
-- byte and bytes of a device control string, which are put.
use Rattle.vte_core.proofs.Common.{Advances, after, AnyEvents, ArePut, arith, ChunkCall, class_of, DeviceData, drop, drop_more, false, false≢true, HoldsItems, InSystemCommand, is_device_data, IsAtPosition, IsDeviceData, length, List, Machine, map, MayGoOn, ProgressAt, Put, refl, rules, slice_index, subst, suc, sym, SystemCommand, take, true, zero, ℕ, [], ◌++◌, ◌+◌, ◌-◌, ◌<◌, ◌∙◌, ◌∷◌, ◌≡◌, ◌≤◌}
use Rattle.vte_core.proofs.lemmas.bytes.Classes.{data_ends_nothing}
use Rattle.vte_core.proofs.lemmas.fields.PlaceOfState.{holds_items-same, in_command, is_at-by}
use Rattle.vte_core.proofs.lemmas.places.PlaceLeads.{data-put}
use Rattle.vte_core.proofs.lemmas.positions.AddedEvents.{adds-same, recorded-at, reported-at}
use Rattle.vte_core.proofs.lemmas.positions.Progress.{progress-items}
use Rattle.vte_core.proofs.lemmas.positions.SettledStates.{settled-same_state}
use Rattle.vte_core.proofs.lemmas.positions.Stretches.{advances-nothing, advances-then, advances-to_same, advances-without_promise}
use Rattle.vte_core.proofs.lemmas.positions.TakenBytes.{advances-in, takes-byte, takes-in_data}
use Rattle.vte_core.specs.declared.reader.Reader.{Reader}
use Rattle.vte_core.specs.private.Prelude.{FindsEnd, IsCommandData, MayReadAt, SameItems, StoredCommand}

-- ---- data bytes of a command

-- After memory was taken, the parser holds `command`.
module _ {V B : Type 0} {call : ChunkCall V} {i j : ℕ} {parser next : Machine B} {command : StoredCommand}
    {earlier later : Reader} where
  is_at-items : {old value : V} {stream : List ℕ} → parser.state ≡ SystemCommand → MayGoOn call value
      → FindsEnd IsCommandData call.bytes i j earlier later → next.state ≡ SystemCommand
      → SameItems parser.command command
      → ((items : List ℕ) → HoldsItems call.limit command items
      → HoldsItems call.limit next.command (items ++ take (j - i) (drop i call.bytes)))
      → IsAtPosition call old value stream i parser → IsAtPosition call old value stream j next
  is_at-items {old} {value} {stream} in_state may_go_on found is_in_state same holds position =
      let at_command = in_command in_state position.is_at in
      let here : ProgressAt call old value stream i (InSystemCommand at_command.items) =
      subst (ProgressAt call old value stream i) at_command.same position.progress in
      let end : i + (j - i) ≡ j = omega (arith, found.in_order) in
      let come =
      progress-items (j - i) at_command.items (omega (arith, found.within, end))
      (λ n from to. (found.passed n from (omega (arith, to, end))).0) may_go_on here in
      record {
        place = InSystemCommand (at_command.items ++ take (j - i) (drop i call.bytes));
        is_at = is_at-by is_in_state (holds at_command.items (holds_items-same same at_command.keeps));
        settled = λ _. tt;
        progress = rw end at come;
      }

module _ {V B : Type 0} {call : ChunkCall V} {i j : ℕ} {parser next : Machine B} {command : StoredCommand}
    {earlier later : Reader} where
  pub advances-items : {outside : Type 0} {value : V} → MayReadAt call value SystemCommand parser i
      → FindsEnd IsCommandData call.bytes i j earlier later → next.state ≡ SystemCommand
      → SameItems parser.command command
      → ((items : List ℕ) → HoldsItems call.limit command items
      → HoldsItems call.limit next.command (items ++ take (j - i) (drop i call.bytes)))
      → Advances outside call value value i j parser next
  advances-items may_read found in_state same holds = record {
    is_at_position =
        λ old stream position. is_at-items may_read.in_state may_read.may_go_on found in_state same holds position;
    settled = λ _. settled-same_state in_state tt;
    outside_runs = λ _ old stream position.
        adds-same (reported-at
        (is_at-items {next = next} may_read.in_state (λ asks. absurd (false≢true asks)) found in_state same holds
        (recorded-at position)));
  }

-- ---- data that are put

pub advances-put : {V B : Type 0} {call : ChunkCall V} {old new : V} {i b : ℕ} {parser : Machine B}
    → parser.state ≡ DeviceData → i < length call.bytes → b ≡ slice_index call.bytes i → MayGoOn call old
    → is_device_data (class_of b) ≡ true → new ≡ after call.step old (Put b ∷ [])
    → Advances AnyEvents call old new i (i + 1) parser parser
advances-put {parser} in_state before_end byte_is may_go_on put performed =
    advances-without_promise
    (advances-in in_state before_end byte_is may_go_on (data_ends_nothing _ put)
    (takes-in_data parser (takes-byte performed (is_at-by in_state tt) (data-put put)))
    (settled-same_state in_state tt))

-- A call that asks nothing goes on by a stretch at a time: bytes that lead back to the same place.

advances-data_bytes : {V B : Type 0} {call : ChunkCall V} {value : V} {parser : Machine B} (n i : ℕ)
    → parser.state ≡ DeviceData → i + n ≤ length call.bytes → ArePut call.bytes i (i + n) → call.may_stop ≡ false
    → Advances AnyEvents call value (after call.step value (map Put (take n (drop i call.bytes)))) i (i + n) parser
    parser
advances-data_bytes zero i in_state within are_put never_stops =
    advances-to_same (omega arith) (advances-nothing (λ _. settled-same_state in_state tt))
advances-data_bytes {call} {parser} (suc n) i in_state within are_put never_stops =
    let here : i < length call.bytes = omega (arith, within) in
    let b : ℕ = slice_index call.bytes i in
    let put = are_put i (omega arith) (omega arith) in
    rw (drop_more call.bytes i 0 here) (advances-to_same (omega arith) (advances-then
    (advances-put in_state here refl (λ asks. absurd (false≢true (sym never_stops ∙ asks))) put refl)
    (advances-data_bytes n (i + 1) in_state (omega (arith, within))
    (λ k low high. are_put k (omega (arith, low)) (omega (arith, high))) never_stops)))

pub advances-data : {V B : Type 0} {call : ChunkCall V} {old new : V} {i j : ℕ} {parser : Machine B}
    → parser.state ≡ DeviceData → i ≤ j → j ≤ length call.bytes → ArePut call.bytes i j → call.may_stop ≡ false
    → new ≡ after call.step old (map Put (take (j - i) (drop i call.bytes)))
    → Advances AnyEvents call old new i j parser parser
advances-data {call} {old} {i} {j} {parser} in_state in_order within are_put never_stops performed =
    subst (λ value. Advances AnyEvents call old value i j parser parser) (sym performed)
    (advances-to_same (omega (arith, in_order))
    (advances-data_bytes (j - i) i in_state (omega (arith, in_order, within))
    (λ k from to. are_put k from (omega (arith, in_order, to))) never_stops))

-- If a byte is put, and those after it are, all of them are.
pub first-put : (bytes : List ℕ) {from end b : ℕ} → b ≡ slice_index bytes from → IsDeviceData b
    → ArePut bytes (from + 1) end
    → ArePut bytes from end
first-put bytes {from} {end} byte_is put rest = search (rules, arith)
