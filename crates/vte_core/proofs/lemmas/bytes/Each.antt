-- Stretches of bytes from one position to another, and what each of their bytes meets (`Each`): `each-X`, what each
-- byte of X meets. By cases of the position.
use Rattle.std.proofs.lemmas.List.{length-drop, length-take}
use Rattle.std.proofs.lemmas.Simd.{get_or-chunk}
use Rattle.std.specs.Array.{IsFirstChunk}
use Rattle.vte_core.proofs.Common.{ap, arith, drop, drop-drop, drop_more, get_or, length, List, refl, rules, slice_index, subst, take, take-add, take_rest, ℕ, [], ◌++◌, ◌+◌, ◌-◌, ◌<◌, ◌∙◌, ◌∷◌, ◌≡◌, ◌≤◌}
use Rattle.vte_core.specs.private.Runs.{Each}

-- A stretch of one byte, as a list.
pub one_byte : (bytes : List ℕ) (from b : ℕ) → from < length bytes → b ≡ slice_index bytes from
    → take (from + 1 - from) (drop from bytes) ≡ b ∷ []
one_byte bytes from b before_end byte_is =
    let same : from + 1 - from ≡ 1 = omega arith in rw (same, drop_more bytes from 0 before_end, byte_is) refl

-- Two stretches, one after the other.
pub slice-then : (bytes : List ℕ) (i j k : ℕ) → i ≤ j → j ≤ k
    → take (k - i) (drop i bytes) ≡ take (j - i) (drop i bytes) ++ take (k - j) (drop j bytes)
slice-then bytes i j k low high =
    let whole : k - i ≡ (j - i) + (k - j) = omega (arith, low, high) in
    let here : i + (j - i) ≡ j = omega (arith, low) in
    rw (whole, take-add (j - i) (k - j) (drop i bytes), drop-drop (j - i) i bytes, here) refl

-- What holds of a byte holds of its stretch, and what holds of two stretches holds of both together.
pub each-one : (holds : ℕ → Type 0) (bytes : List ℕ) (from : ℕ) → holds (slice_index bytes from)
    → Each holds bytes from (from + 1)
each-one holds bytes from one k low high = search (rules, arith)

pub each-both : (holds : ℕ → Type 0) (bytes : List ℕ) (i j k : ℕ) → Each holds bytes i j → Each holds bytes j k
    → Each holds bytes i k
each-both holds bytes i j k prefix back m low high = search (rules, arith)

-- What holds of each byte of a stretch, and of the byte after it, holds of each byte of both.
pub each-next : (holds : ℕ → Type 0) (bytes : List ℕ) (from end b : ℕ) → Each holds bytes from end
    → b ≡ slice_index bytes end → holds b → Each holds bytes from (end + 1)
each-next holds bytes from end b all byte_is one = search (rules, arith)

-- The first chunk from a position on consists of the next n bytes.
pub prefix-block : (bytes block : List ℕ) (from n : ℕ) → from ≤ length bytes
    → IsFirstChunk (take (length bytes - from) (drop from bytes)) block n
    → (from + n ≤ length bytes) × (block ≡ take n (drop from bytes))
prefix-block bytes block from n within first = search (rules, arith, length-take, length-drop, take_rest)

-- Byte k of a block is the byte k places after the block's start.
pub block-byte : (bytes block : List ℕ) (from n k : ℕ) → block ≡ take n (drop from bytes) → k < n
    → get_or block k 0 ≡ get_or bytes (from + k) 0
block-byte bytes block from n k block_is below = ap (λ xs. get_or xs k 0) block_is ∙ get_or-chunk from n bytes k 0 below

-- What holds of the first bytes of a block holds of the same bytes of the input.
pub each-block : (holds : ℕ → Type 0) (bytes block : List ℕ) (from n m : ℕ) → block ≡ take n (drop from bytes) → m ≤ n
    → Each holds block 0 m → Each holds bytes from (from + m)
each-block holds bytes block from n m block_is at_most all k low high =
    let same : get_or block (k - from) 0 ≡ get_or bytes k 0 =
    block-byte bytes block from n (k - from) block_is (omega (arith, low, high, at_most)) ∙ ap (λ i. get_or bytes i 0)
    (let p : from + (k - from) ≡ k = omega (arith, low) in p) in
    subst holds same (all (k - from) (omega arith) (omega (arith, low, high)))
