-- The stored part of an operating system command.
use Rattle.std.specs.List.{filter, slice_range}
use Rattle.std.specs.List.Sorted.{IsNonDecreasing}
use Rattle.std.specs.Prelude.{All, Bool, drop, false, if◌then◌else◌, length, List, nat_lt, None, Option, Some, suc, take, true, zero, ℕ, [], ⊤, ◌++◌, ◌+◌, ◌-◌, ◌<◌, ◌==◌, ◌∷◌, ◌≡◌, ◌≤◌}
use Rattle.vte_core.specs.CommandMemory.{StoredCommand}
use Rattle.vte_core.specs.Parameters.{semicolon}
use Rattle.vte_core.specs.SystemCommand.{is_data_item, kept_after, max_pieces, pieces_of}

-- For each `;` of a text, how many data bytes come before it, starting from `count`.
abbrev pub ends_after : ℕ → List ℕ → List ℕ
ends_after count [] = []
ends_after count (item ∷ items) =
    if item == semicolon then count ∷ ends_after count items else ends_after (count + 1) items

-- The bytes of `run` for which there is room after `count` bytes.
abbrev pub fitting : Option ℕ → ℕ → List ℕ → List ℕ
fitting None count run = run
fitting (Some limit) count run = take (limit - count) run

-- There is memory for `more` bytes after `count` of them. With a limit there always is.
abbrev pub HasCapacity : Option ℕ → ℕ → ℕ → ℕ → Type 0
HasCapacity None capacity count more = count + more ≤ capacity
HasCapacity (Some limit) capacity count more = ⊤

-- The answer of a function that allocates for `more` bytes after `count` of them. There was
-- memory for `had` bytes, and now is for `has`.
pub record ReservesCapacity (limit : Option ℕ) (count more had has : ℕ)
    (answer : Bool) : Type 0 where
  pub grows : had ≤ has
  pub suffices : answer ≡ true → HasCapacity limit has count more
  pub unlimited : answer ≡ false → limit ≡ None
  pub some : answer ≡ false → 0 < more
  pub lacks_memory : answer ≡ false → has < count + more

-- The data, cut at the ends; the first piece begins at `start`.
abbrev pub cut_data : ℕ → List ℕ → List ℕ → List (List ℕ)
cut_data start bytes [] = drop start bytes ∷ []
cut_data start bytes (end ∷ ends) = slice_range bytes start end ∷ cut_data end bytes ends

-- The pieces that are kept: the first 16.
abbrev pub cut_pieces : List ℕ → List ℕ → List (List ℕ)
cut_pieces bytes ends = take max_pieces (cut_data 0 bytes ends)

-- The pieces of what is stored and of the items that follow.
abbrev pub pieces_from : Option ℕ → List ℕ → List ℕ → List ℕ → List (List ℕ)
pieces_from limit bytes ends more =
    let kept = kept_after limit (length bytes) more in
    cut_pieces (bytes ++ filter is_data_item kept) (ends ++ ends_after (length bytes) kept)

-- The ends of at most `left` pieces of `count` bytes, in order, from `start` on. If `left` pieces
-- end, no byte follows the last.
abbrev pub PiecesEnd : ℕ → ℕ → List ℕ → ℕ → Type 0
PiecesEnd zero start [] count = start ≡ count
PiecesEnd zero start (end ∷ ends) count = ⊥
PiecesEnd (suc left) start [] count = start ≤ count
PiecesEnd (suc left) start (end ∷ ends) count = (start ≤ end) × PiecesEnd left end ends count

-- The store continues as one that has taken the items: whatever follows, the pieces are the same.
-- Each byte is in one of the first 16.
pub record HoldsItems (limit : Option ℕ) (stored : StoredCommand) (items : List ℕ) : Type 0 where
  pub same_pieces : (more : List ℕ)
      → pieces_of limit (items ++ more) ≡ pieces_from limit stored.bytes stored.ends more
  pub end : PiecesEnd max_pieces 0 stored.ends (length stored.bytes)
  pub fewer : length stored.bytes ≤ length (filter is_data_item items)
  pub lost : stored.lost ≡ nat_lt (length stored.bytes) (length (filter is_data_item items))

-- The stores differ at most in their capacity.
pub record SameItems (old new : StoredCommand) : Type 0 where
  pub bytes : new.bytes ≡ old.bytes
  pub ends : new.ends ≡ old.ends
  pub lost : new.lost ≡ old.lost

-- The ends of at most 16 pieces, in order and within the bytes.
pub record ArePieceEnds (bytes ends : List ℕ) : Type 0 where
  pub at_most : length ends ≤ max_pieces
  pub in_order : IsNonDecreasing ends
  pub within : All (λ end. end ≤ length bytes) ends
