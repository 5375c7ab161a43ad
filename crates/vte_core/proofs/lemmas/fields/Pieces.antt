-- What is kept of the items of a command, and the pieces of what is kept. By induction over the items, with the piece
-- that is open carried along.
use Rattle.std.proofs.Common.{append-nil, drop_at, ◌==◌}
use Rattle.std.proofs.lemmas.List.{length-map, map_push, take_more_set}
use Rattle.std.proofs.lemmas.List.Folds.{concat-append}
use Rattle.std.proofs.lemmas.List.Splits.{length-slice_split, slice_split_at, slice_split_none}
use Rattle.vte_core.proofs.Common.{All, All-push, ap, append_assoc, arith, Bool, Bor, cases_Bool, common_steps, concat, cut_data, drop, drop_all, ends_after, eqb, false, filter, FitsLimit, inl, inr, is_data_item, kept_after, kept_items, length, length-append, length-take, List, ltb-true, map, max_pieces, None, onto_first, Option, pieces_of, refl, rules, semicolon, set, slice_split, Some, suc, sym, take, take-append-drop, take_all, take_at, true, zero, ℕ, [], ◌++◌, ◌+◌, ◌<◌, ◌∙◌, ◌∷◌, ◌≡◌, ◌≤◌}

-- ---- the pieces of a text are its data bytes, cut at each `;`

-- The ends cut data into the pieces of the text; `prefix` is the beginning of the piece that the text continues.
cut_onto : (earlier prefix text : List ℕ) → All (λ b. (b == semicolon) ≡ false) prefix →
    cut_data (length earlier) (earlier ++ (prefix ++ filter is_data_item text))
    (ends_after (length earlier + length prefix) text)
    ≡ slice_split (λ b. b == semicolon) (prefix ++ text)
cut_onto earlier prefix [] none_ends =
    let all = drop_at earlier (prefix ++ []) (length earlier) refl in
    rw (all, append-nil prefix) (sym (slice_split_none (λ b. b == semicolon) prefix none_ends))
cut_onto earlier prefix (item ∷ text) none_ends =
    by_test (item == semicolon) refl (λ earlier prefix none_ends. cut_onto earlier prefix text none_ends)
  where
    by_test : (is_end : Bool) → (item == semicolon) ≡ is_end
        → ((earlier prefix : List ℕ) → All (λ b. (b == semicolon) ≡ false) prefix →
        cut_data (length earlier) (earlier ++ (prefix ++ filter is_data_item text))
        (ends_after (length earlier + length prefix) text)
        ≡ slice_split (λ b. b == semicolon) (prefix ++ text))
        → cut_data (length earlier) (earlier ++ (prefix ++ filter is_data_item (item ∷ text)))
        (ends_after (length earlier + length prefix) (item ∷ text))
        ≡ slice_split (λ b. b == semicolon) (prefix ++ item ∷ text)
    by_test true tests rests =
        -- A `;` ends the piece, and the next one begins with nothing.
        let more = rests (earlier ++ prefix) [] (λ k d lt. absurd (omega arith)) in
        let first = slice_split_at (λ b. b == semicolon) prefix item text none_ends tests in
        let later = filter is_data_item text in
        let counted = length-append earlier prefix in
        let joined = append_assoc earlier prefix later in
        let all = drop_at earlier (prefix ++ later) (length earlier) refl in
        let cut = take_at prefix later (length prefix) refl in
        grind (arith, more, first, counted, joined, all, cut)
    by_test false tests rests =
        -- Any other item continues the piece.
        let more =
        rests earlier (prefix ++ item ∷ []) (All-push (λ b. (b == semicolon) ≡ false) prefix item none_ends tests) in
        let counted = length-append prefix (item ∷ []) in
        let joined = append_assoc prefix (item ∷ []) (filter is_data_item text) in
        let same = append_assoc prefix (item ∷ []) text in
        grind (arith, more, counted, joined, same)

pub cut_at_ends : (text : List ℕ)
    → slice_split (λ b. b == semicolon) text ≡ cut_data 0 (filter is_data_item text) (ends_after 0 text)
cut_at_ends text = sym (cut_onto [] [] text (λ k d lt. absurd (omega arith)))

-- ---- how many pieces there are, and how many bytes they have

length-cut_data : (start : ℕ) (bytes ends : List ℕ) → length (cut_data start bytes ends) ≡ length ends + 1
length-cut_data start bytes [] = refl
length-cut_data start bytes (end ∷ ends) = omega (arith, length-cut_data end bytes ends)

length-onto_first : (item : ℕ) (pieces : List (List ℕ))
    → length (concat (onto_first item pieces)) ≡ length (concat pieces) + 1
length-onto_first item pieces = search (rules, arith)

-- All pieces of a text together have as many bytes as it has data bytes.
pieces_length : (text : List ℕ)
    → length (concat (slice_split (λ b. b == semicolon) text)) ≡ length (filter is_data_item text)
pieces_length [] = refl
pieces_length (item ∷ text) = search (rules, arith, (pieces_length text), length-onto_first)

length-concat_take : (n : ℕ) (pieces : List (List ℕ)) → length (concat (take n pieces)) ≤ length (concat pieces)
length-concat_take n pieces =
    let joined = ap concat (sym (take-append-drop n pieces)) ∙ concat-append (take n pieces) (drop n pieces) in
    omega (arith, ap length joined, length-append (concat (take n pieces)) (concat (drop n pieces)))

kept-fits : (limit count : ℕ) (items : List ℕ) → count ≤ limit
    → count + length (filter is_data_item (kept_after (Some limit) count items)) ≤ limit
kept-fits limit count [] within = omega arith
kept-fits limit count (item ∷ items) within =
    let byte = kept-fits limit (count + 1) items in
    let end = kept-fits limit count items within in
    grind (arith, byte, end, ltb-true)

-- A command has at least one piece and at most 16, which fit into the buffer.
pub pieces_fit : (limit : Option ℕ) (items : List ℕ) → FitsLimit limit (pieces_of limit items)
unfolding pieces_of kept_items
pieces_fit None items = tt
pieces_fit (Some limit) items = search (rules, arith, length-concat_take, kept-fits, pieces_length)

pub few_pieces : (limit : Option ℕ) (items : List ℕ) → length (pieces_of limit items) ≤ max_pieces
unfolding pieces_of
few_pieces limit items =
    omega (arith, length-take max_pieces (slice_split (λ b. b == semicolon) (kept_items limit items)))

pub some_pieces : (limit : Option ℕ) (items : List ℕ) → 0 < length (pieces_of limit items)
unfolding pieces_of
some_pieces limit items = search (rules, arith, length-take, length-slice_split)

-- ---- one more item of a command is at most one more data byte

-- How many bytes the first n pieces have.
abbrev first_pieces_size : ℕ → List (List ℕ) → ℕ
first_pieces_size n pieces = length (concat (take n pieces))

onto_first_size : (n b : ℕ) (pieces : List (List ℕ))
    → first_pieces_size (suc n) (onto_first b pieces) ≡ first_pieces_size (suc n) pieces + 1
onto_first_size n b pieces = search (rules, arith)

split_push : (n : ℕ) (splits : ℕ → Bool) (items : List ℕ) (item : ℕ)
    → first_pieces_size n (slice_split splits (items ++ item ∷ [])) ≤ first_pieces_size n (slice_split splits items) + 1
split_push zero splits items item = omega arith
split_push (suc n) splits [] item = elim (cases_Bool (splits item)) [
  | inl cuts ↦ rw cuts (grind (arith, common_steps))
  | inr joins ↦ rw joins (grind (arith, common_steps))
]
split_push (suc n) splits (b ∷ items) item =
    search (rules, arith, (split_push (suc n) splits items item), (split_push n splits items item), onto_first_size)

kept-all : (items : List ℕ) (count : ℕ) → kept_after None count items ≡ items
kept-all [] count = refl
kept-all (item ∷ items) count = ap (λ those. item ∷ those) (kept-all items _)

-- How much data is kept of a command with these items.
abbrev kept_size : List ℕ → ℕ
kept_size items = length (concat (pieces_of None items))

pub pieces_push : (items : List ℕ) (item : ℕ) → kept_size (items ++ item ∷ []) ≤ kept_size items + 1
unfolding pieces_of kept_items
pieces_push items item =
    rw (kept-all items 0, kept-all (items ++ item ∷ []) 0) (split_push max_pieces (λ b. eqb b semicolon) items item)

-- ---- the slices of a dispatch

-- The slices are the pieces that the ends cut: with fewer than 16 ends, one more piece is after the last.

-- The bytes that slices show.
abbrev pub contents : List (Bor (List ℕ)) → List (List ℕ)
contents slices = map (λ slice. slice.now) slices

-- After the last of fewer than 16 ends there is one more piece.
pub contents_last : (slices later : List (Bor (List ℕ))) (slice : Bor (List ℕ)) (bytes ends : List ℕ)
    (start index : ℕ) →
    index ≡ length ends → length ends < max_pieces → length slices ≡ max_pieces →
    later ≡ set slices (length ends) slice → slice.now ≡ drop start bytes →
    contents (take index slices) ++ cut_data start bytes (drop index ends) ≡ cut_data 0 bytes ends →
    contents (take (length ends + 1) later) ≡ take max_pieces (cut_data 0 bytes ends)
contents_last slices later slice bytes ends start index at_end at_most all written last_is cut =
    -- The last slice comes after those that end at an end.
    let taken = take_more_set slices (length ends) slice (omega arith) in
    let pushed = map_push (λ (slice : Bor (List ℕ)). slice.now) (take (length ends) slices) slice in
    -- No end is left, so the rest of the bytes is one piece.
    let left = drop_all index ends (omega arith) in
    -- Fewer than 16 ends cut at most 16 pieces, so all of them count.
    let all_count = take_all max_pieces (cut_data 0 bytes ends) (omega (arith, length-cut_data 0 bytes ends)) in
    rw (written, taken, pushed, last_is, all_count) (rw (left, at_end) at cut)

-- 16 ends leave no place for what is after them.
pub contents_all : (slices : List (Bor (List ℕ))) (bytes ends : List ℕ) (start index : ℕ) →
    index ≡ length ends → length ends ≡ max_pieces → length slices ≡ max_pieces →
    contents (take index slices) ++ cut_data start bytes (drop index ends) ≡ cut_data 0 bytes ends →
    contents (take (length ends) slices) ≡ take max_pieces (cut_data 0 bytes ends)
contents_all slices bytes ends start index at_end many all cut =
    let left = length-map (take index slices) (λ (slice : Bor (List ℕ)). slice.now) in
    let counted = length-take index slices in
    let first =
    take_at (contents (take index slices)) (cut_data start bytes (drop index ends)) max_pieces (omega arith) in
    rw (← at_end) (sym first ∙ ap (take max_pieces) cut)
