-- What a store holds: how many bytes, and which pieces. The invariant `HoldsItems` says what more items give, and each
-- byte either joins the last piece, ends it, or is dropped.
--
-- `pieces_from-X`: the pieces if X follows; `piece_ends-X`: where pieces end; `keeps-X`: what is kept after X
-- (`HoldsItems`).
use Rattle.std.proofs.lemmas.List.Elements.{filter-append}
use Rattle.std.proofs.lemmas.List.Folds.{concat-append}
use Rattle.std.specs.Prelude.{nat_lt, ◌||◌}
use Rattle.vte_core.proofs.Common.{All, All-head, All-tail, ap, append-nil, append_assoc, arith, Bool, cases_Bool, concat, cut_data, cut_pieces, drop, drop-append-le, ends_after, false, filter, fitting, has_room, HoldsItems, inl, inr, is_data_item, kept_after, kept_items, length, length-append, length-drop, length-take, List, loses_data, ltb-true, max_pieces, nat_tests, ne_eqb, None, Option, pieces_from, pieces_of, PiecesEnd, refl, rules, semicolon, slice_range, Some, StoredCommand, suc, sym, take, take-append-le, take-nil, take_all, true, zero, ℕ, [], ◌++◌, ◌+◌, ◌-◌, ◌<◌, ◌∙◌, ◌∷◌, ◌≡◌, ◌≢◌, ◌≤◌}
use Rattle.vte_core.proofs.lemmas.fields.Pieces.{cut_at_ends}

-- An item is a data byte if it isn't a semicolon.
abbrev IsDataItem : ℕ → Type 0
IsDataItem b = b ≢ semicolon

-- ---- the pieces if items follow, item by item

module _ (limit : Option ℕ) (bytes ends : List ℕ) where
  pieces_from-nothing : pieces_from limit bytes ends [] ≡ cut_pieces bytes ends
  pieces_from-nothing = rw (append-nil bytes, append-nil ends) refl

  -- Without room, nothing more is kept.
  pub pieces_from-full : has_room limit (length bytes) ≡ false → (more : List ℕ)
      → pieces_from limit bytes ends more ≡ cut_pieces bytes ends
  pieces_from-full full [] = pieces_from-nothing
  pieces_from-full full (item ∷ more) = rw (full, append-nil bytes, append-nil ends) refl

  pieces_from-byte : has_room limit (length bytes) ≡ true → (item : ℕ) → item ≢ semicolon → (more : List ℕ) →
      pieces_from limit bytes ends (item ∷ more) ≡ pieces_from limit (bytes ++ item ∷ []) ends more
  pieces_from-byte room item other more = search (rules, arith, ne_eqb, length-append, append_assoc)

fitting-nothing : (limit : Option ℕ) (count : ℕ) → fitting limit count [] ≡ []
fitting-nothing None count = refl
fitting-nothing (Some limit) count = take-nil (limit - count)

fitting-room : (limit : Option ℕ) (count b : ℕ) (run : List ℕ) → has_room limit count ≡ true
    → fitting limit count (b ∷ run) ≡ b ∷ fitting limit (count + 1) run
fitting-room None count b run room = refl
fitting-room (Some limit) count b run room =
    let next : limit - count ≡ suc (limit - (count + 1)) = omega (arith, ltb-true count limit room) in rw next refl

fitting-full : (limit : Option ℕ) (count : ℕ) (run : List ℕ) → has_room limit count ≡ false
    → fitting limit count run ≡ []
fitting-full limit count run full = search (rules, arith)

-- Data bytes are kept as far as there is room.
pieces_from-run : (limit : Option ℕ) (bytes ends run more : List ℕ) → All IsDataItem run →
    pieces_from limit bytes ends (run ++ more)
    ≡ pieces_from limit (bytes ++ fitting limit (length bytes) run) ends more
pieces_from-run limit bytes ends [] more are_data = rw (fitting-nothing limit (length bytes), append-nil bytes) refl
pieces_from-run limit bytes ends (b ∷ run) more are_data =
    let rest = pieces_from-run limit (bytes ++ b ∷ []) ends run more (All-tail IsDataItem b run are_data) in
    elim (cases_Bool (has_room limit (length bytes))) [
      | inl room ↦
          let one = pieces_from-byte limit bytes ends room b (All-head IsDataItem b run are_data) (run ++ more) in
          let kept = fitting-room limit (length bytes) b run room in
          let same : bytes ++ fitting limit (length bytes) (b ∷ run)
          ≡ (bytes ++ b ∷ []) ++ fitting limit (length (bytes ++ b ∷ [])) run =
          rw (kept, length-append bytes (b ∷ []), append_assoc bytes (b ∷ [])) refl in
          rw same (one ∙ rest)
      | inr full ↦
          let same = pieces_from-full limit bytes ends full in
          rw (fitting-full limit (length bytes) (b ∷ run) full, append-nil bytes)
          (same ((b ∷ run) ++ more) ∙ sym (same more))
    ]

-- ---- where pieces end

-- A data byte belongs to the piece after the last end.
piece_ends-more : (left start : ℕ) (ends : List ℕ) (count more : ℕ) → length ends < left
    → PiecesEnd left start ends count → PiecesEnd left start ends (count + more)
piece_ends-more zero start ends count more at_most pieces_end = absurd (omega arith)
piece_ends-more (suc left) start [] count more at_most pieces_end = omega arith
piece_ends-more (suc left) start (end ∷ ends) count more at_most pieces_end =
    (pieces_end.0, piece_ends-more left end ends count more (omega arith) pieces_end.1)

piece_ends-push : (left start : ℕ) (ends : List ℕ) (count : ℕ) → length ends < left → PiecesEnd left start ends count
    → PiecesEnd left start (ends ++ count ∷ []) count
piece_ends-push zero start ends count at_most pieces_end = absurd (omega arith)
piece_ends-push (suc zero) start [] count at_most pieces_end = (pieces_end, refl)
piece_ends-push (suc (suc left)) start [] count at_most pieces_end = (pieces_end, omega arith)
piece_ends-push (suc left) start (end ∷ ends) count at_most pieces_end =
    (pieces_end.0, piece_ends-push left end ends count (omega arith) pieces_end.1)

piece_ends-within : (left start : ℕ) (ends : List ℕ) (count : ℕ) → PiecesEnd left start ends count → start ≤ count
piece_ends-within zero start [] count pieces_end = omega arith
piece_ends-within zero start (end ∷ ends) count pieces_end = absurd pieces_end
piece_ends-within (suc left) start [] count pieces_end = pieces_end
piece_ends-within (suc left) start (end ∷ ends) count pieces_end =
    omega (arith, pieces_end.0, piece_ends-within left end ends count pieces_end.1)

-- All bytes are in the pieces.
piece_ends-stored : (left start : ℕ) (bytes ends : List ℕ) → PiecesEnd left start ends (length bytes)
    → start + length (concat (take left (cut_data start bytes ends))) ≡ length bytes
piece_ends-stored zero start bytes [] pieces_end = omega (arith, pieces_end)
piece_ends-stored zero start bytes (end ∷ ends) pieces_end = absurd pieces_end
piece_ends-stored (suc left) start bytes [] pieces_end = search (rules, arith, take-nil, append-nil, length-drop)
piece_ends-stored (suc left) start bytes (end ∷ ends) pieces_end =
    search (
      rules,
      arith,
      (piece_ends-stored left end bytes ends pieces_end.1),
      piece_ends-within,
      length-append,
      length-take,
      length-drop,
    )

slice_within : (start end : ℕ) (bytes more : List ℕ) → start ≤ end → end ≤ length bytes
    → slice_range (bytes ++ more) start end ≡ slice_range bytes start end
slice_within start end bytes more order within = search (rules, arith, drop-append-le, take-append-le, length-drop)

-- After the last piece, further bytes and ends make no difference.
piece_ends-complete : (start : ℕ) (bytes ends more later : List ℕ) → PiecesEnd (length ends) start ends (length bytes) →
    take (length ends) (cut_data start (bytes ++ more) (ends ++ later)) ≡ take (length ends) (cut_data start bytes ends)
piece_ends-complete start bytes [] more later pieces_end = refl
piece_ends-complete start bytes (end ∷ ends) more later pieces_end =
    search (rules, arith, (piece_ends-complete end bytes ends more later pieces_end.1), slice_within, piece_ends-within)

-- ---- how many data bytes came, and whether some were dropped

data-run : (run : List ℕ) → All IsDataItem run → filter is_data_item run ≡ run
data-run [] are_data = refl
data-run (b ∷ run) are_data =
    rw (ne_eqb b semicolon (All-head IsDataItem b run are_data), data-run run (All-tail IsDataItem b run are_data)) refl

count-run : (items run : List ℕ) → All IsDataItem run
    → length (filter is_data_item (items ++ run)) ≡ length (filter is_data_item items) + length run
count-run items run are_data =
    rw (filter-append is_data_item items run, data-run run are_data) (length-append (filter is_data_item items) run)

count-end : (items : List ℕ)
    → length (filter is_data_item (items ++ semicolon ∷ [])) ≡ length (filter is_data_item items)
count-end items = rw (filter-append is_data_item items (semicolon ∷ []), append-nil (filter is_data_item items)) refl

-- The flag of a store that had `before` of `count` data bytes, and holds `after` of them when n
-- more have come.
lost-more : (before after count n : ℕ) {old new : Bool} → before ≤ count → before ≤ after → after ≤ before + n
    → old ≡ nat_lt before count
    → new ≡ (old || nat_lt (after - before) n) → new ≡ nat_lt after (count + n)
lost-more before after count n stored_at_most low high old_is new_is =
    grind (arith, nat_tests, stored_at_most, low, high, old_is, new_is)

length-fitting : (limit : Option ℕ) (count : ℕ) (run : List ℕ) → length (fitting limit count run) ≤ length run
length-fitting None count run = omega arith
length-fitting (Some limit) count run = omega (arith, length-take (limit - count) run)

-- ---- what a store holds after more items (`HoldsItems`)

-- Data bytes join the last piece as far as there is room, and `;` ends it. After 16 ends no item counts.

pub holds_items-nothing : (limit : Option ℕ) (stored : StoredCommand) → stored.bytes ≡ [] → stored.ends ≡ []
    → stored.lost ≡ false
    → HoldsItems limit stored []
unfolding pieces_of kept_items
holds_items-nothing limit stored no_bytes no_ends none_lost = search (rules, arith, cut_at_ends)

-- No further item counts.
abbrev IsDone : Option ℕ → StoredCommand → Type 0
IsDone limit stored =
    (more : List ℕ) → pieces_from limit stored.bytes stored.ends more ≡ cut_pieces stored.bytes stored.ends

-- After 16 ends, no further item counts.
pub done-complete : {limit : Option ℕ} {stored : StoredCommand} {items : List ℕ} → length stored.ends ≡ max_pieces
    → HoldsItems limit stored items → IsDone limit stored
done-complete {limit} {stored} complete holds more =
    let kept = kept_after limit (length stored.bytes) more in
    rw complete at (piece_ends-complete 0 stored.bytes stored.ends (filter is_data_item kept)
    (ends_after (length stored.bytes) kept) (rw complete holds.end))

pieces_of-done : {limit : Option ℕ} {stored : StoredCommand} {items : List ℕ} (more : List ℕ) → IsDone limit stored
    → HoldsItems limit stored items
    → (later : List ℕ) → pieces_of limit ((items ++ more) ++ later) ≡ pieces_from limit stored.bytes stored.ends later
pieces_of-done {items} more done holds later =
    rw (append_assoc items more later) (holds.same_pieces (more ++ later) ∙ done (more ++ later) ∙ sym (done later))

-- After 16 ends, data bytes are dropped.
pub holds_items-later : (limit : Option ℕ) (old new : StoredCommand) (items run : List ℕ) → length old.ends ≡ max_pieces
    → All IsDataItem run
    → new.bytes ≡ old.bytes → new.ends ≡ old.ends
    → new.lost ≡ (old.lost || nat_lt (length new.bytes - length old.bytes) (length run))
    → HoldsItems limit old items → HoldsItems limit new (items ++ run)
holds_items-later limit old new items run complete are_data bytes ends lost holds =
    search (rules, arith, pieces_of-done, done-complete, count-run, lost-more)

-- If no more items count, a `;` changes nothing.
pub holds_items-done : {limit : Option ℕ} {stored : StoredCommand} {items : List ℕ} → IsDone limit stored
    → HoldsItems limit stored items
    → HoldsItems limit stored (items ++ semicolon ∷ [])
holds_items-done {items} done holds = search (rules, arith, pieces_of-done, count-end)

-- Before 16 ends, data bytes are kept as far as there is room.
pub holds_items-run : (limit : Option ℕ) (old new : StoredCommand) (items run : List ℕ) → length old.ends < max_pieces
    → All IsDataItem run
    → new.bytes ≡ old.bytes ++ fitting limit (length old.bytes) run → new.ends ≡ old.ends
    → new.lost ≡ (old.lost || nat_lt (length new.bytes - length old.bytes) (length run))
    → HoldsItems limit old items
    → HoldsItems limit new (items ++ run)
holds_items-run limit old new items run at_most are_data bytes ends lost holds =
    search (rules, arith, piece_ends-more, length-append, length-fitting, append_assoc, pieces_from-run, count-run)

-- Before 16 ends, a `;` ends a piece if there is room.
pub holds_items-end : (limit : Option ℕ) (old new : StoredCommand) (items : List ℕ) → length old.ends < max_pieces
    → has_room limit (length old.bytes) ≡ true
    → new.bytes ≡ old.bytes → new.ends ≡ old.ends ++ length old.bytes ∷ [] → new.lost ≡ old.lost
    → HoldsItems limit old items
    → HoldsItems limit new (items ++ semicolon ∷ [])
holds_items-end limit old new items at_most room bytes ends lost holds =
    search (rules, arith, append_assoc, piece_ends-push, count-end)

-- The pieces are what a store's ends make of its bytes.
pub stored_pieces : {limit : Option ℕ} {stored : StoredCommand} {items : List ℕ} → HoldsItems limit stored items
    → pieces_of limit items ≡ cut_pieces stored.bytes stored.ends
stored_pieces {limit} {stored} holds =
    rw append-nil at (holds.same_pieces [] ∙ pieces_from-nothing limit stored.bytes stored.ends)

-- The pieces have all bytes of the store.
pub stored_length : {limit : Option ℕ} {stored : StoredCommand} {items : List ℕ} → HoldsItems limit stored items
    → length stored.bytes ≡ length (concat (pieces_of limit items))
stored_length {stored} holds =
    rw (stored_pieces holds) (omega (arith, piece_ends-stored max_pieces 0 stored.bytes stored.ends holds.end))

-- A store knows whether data bytes were dropped.
pub stored_lost : {limit : Option ℕ} {stored : StoredCommand} {items : List ℕ} → HoldsItems limit stored items
    → loses_data limit items ≡ stored.lost
unfolding loses_data
stored_lost {limit} {stored} {items} holds = rw (stored_length holds) at (sym holds.lost)

-- ---- one more data byte of an open command

-- With fewer than 16 `;` the byte joins the last piece, and the others stay.

-- One more byte continues the last piece of the stored bytes.
record ContinuesPiece (start : ℕ) (bytes ends : List ℕ) (byte : ℕ) : Type 0 where
  pieces : List (List ℕ)
  last : List ℕ
  ended : length pieces ≡ length ends
  before : cut_data start bytes ends ≡ pieces ++ last ∷ []
  later : cut_data start (bytes ++ byte ∷ []) ends ≡ pieces ++ (last ++ byte ∷ []) ∷ []

piece-goes_on : (left start : ℕ) (bytes ends : List ℕ) (byte : ℕ) → PiecesEnd left start ends (length bytes)
    → ContinuesPiece start bytes ends byte
piece-goes_on left start bytes [] byte pieces_end =
    let within = piece_ends-within left start [] (length bytes) pieces_end in
    record {
      pieces = [];
      last = drop start bytes;
      ended = refl;
      before = refl;
      later = rw (drop-append-le start bytes (byte ∷ []) within) refl;
    }
piece-goes_on zero start bytes (end ∷ ends) byte pieces_end = absurd pieces_end
piece-goes_on (suc left) start bytes (end ∷ ends) byte pieces_end =
    let on = piece-goes_on left end bytes ends byte pieces_end.1 in
    let slice =
    slice_within start end bytes (byte ∷ []) pieces_end.0
    (piece_ends-within left end ends (length bytes) pieces_end.1) in
    record {
      pieces = slice_range bytes start end ∷ on.pieces;
      last = on.last;
      ended = ap suc on.ended;
      before = ap (λ pieces. slice_range bytes start end ∷ pieces) on.before;
      later = rw slice (ap (λ pieces. slice_range bytes start end ∷ pieces) on.later);
    }

-- An open command with fewer than 16 `;`: a data byte goes to the piece after them.
pub record IsOpenFor (items : List ℕ) (byte : ℕ) : Type 0 where
  pub pieces : List (List ℕ)
  pub last : List ℕ
  pub at_most : length pieces < max_pieces
  pub before : pieces_of None items ≡ pieces ++ last ∷ []
  pub later : pieces_of None (items ++ byte ∷ []) ≡ pieces ++ (last ++ byte ∷ []) ∷ []
  pub lost : loses_data None (items ++ byte ∷ []) ≡ loses_data None items

pieces-at_most : (pieces : List (List ℕ)) (last : List ℕ) → length pieces < max_pieces
    → take max_pieces (pieces ++ last ∷ []) ≡ pieces ++ last ∷ []
pieces-at_most pieces last at_most =
    take_all max_pieces (pieces ++ last ∷ []) (omega (arith, length-append pieces (last ∷ [])))

concat-last : (pieces : List (List ℕ)) (last : List ℕ)
    → length (concat (pieces ++ last ∷ [])) ≡ length (concat pieces) + length last
concat-last pieces last = rw (concat-append pieces (last ∷ []), append-nil last) (length-append (concat pieces) last)

-- One more data byte that is in a piece isn't dropped.
loses_data-same : (items : List ℕ) (byte : ℕ) (pieces : List (List ℕ)) (last : List ℕ)
    → pieces_of None items ≡ pieces ++ last ∷ []
    → pieces_of None (items ++ byte ∷ []) ≡ pieces ++ (last ++ byte ∷ []) ∷ [] → byte ≢ semicolon
    → loses_data None (items ++ byte ∷ []) ≡ loses_data None items
unfolding loses_data
loses_data-same items byte pieces last before later other = search (rules, arith, count-run, concat-last, length-append)

pub open_for : {stored : StoredCommand} {items : List ℕ} {byte : ℕ} → HoldsItems None stored items
    → length stored.ends < max_pieces
    → byte ≢ semicolon → IsOpenFor items byte
open_for {stored} {items} {byte} holds at_most other =
    let continues = piece-goes_on max_pieces 0 stored.bytes stored.ends byte holds.end in
    let few : length continues.pieces < max_pieces = omega (arith, continues.ended) in
    let more =
    holds.same_pieces (byte ∷ []) ∙ pieces_from-byte None stored.bytes stored.ends refl byte other []
    ∙ pieces_from-nothing None (stored.bytes ++ byte ∷ []) stored.ends in
    let before =
    stored_pieces holds ∙ ap (take max_pieces) continues.before ∙ pieces-at_most continues.pieces continues.last few in
    let later =
    more ∙ ap (take max_pieces) continues.later ∙ pieces-at_most continues.pieces (continues.last ++ byte ∷ []) few in
    record {
      pieces = continues.pieces;
      last = continues.last;
      at_most = few;
      before = before;
      later = later;
      lost = loses_data-same items byte continues.pieces continues.last before later other;
    }
