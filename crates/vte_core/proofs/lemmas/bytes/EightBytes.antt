-- Eight bytes as a word, and the marks of those that are no printed ASCII. Bit by bit: a borrow reaches a byte only
-- from a byte below it that is marked itself, so up to the first mark none is missed.
use Rattle.std.proofs.Common.{ap, arith, get_or, length, List, nat_eq, refl, subst, suc, true, w64, zero, ℕ, ◌%◌, ◌*◌, ◌+◌, ◌<◌, ◌^◌, ◌≡◌, ◌≤◌}
use Rattle.std.proofs.lemmas.Bool.{agree_below_at, eqb-true}
use Rattle.std.proofs.lemmas.Nat.{and_le_r, le_bytes_8}
use Rattle.std.proofs.lemmas.Nat.Bits.{bit_at-lt, bit_at_and, bit_at_or}
use Rattle.std.specs.Int.{bit_at, from_le_bytes, to_le_bytes}
use Rattle.std.specs.Prelude.{bit_and, bit_or}
use Rattle.vte_core.specs.private.Runs.{ArePrintedAscii, IsPrintedAscii}

-- 0x20 is subtracted from each byte: 0xdfdfdfdfdfdfdfe0 is 2 ^ 64 - 0x2020202020202020.
abbrev pub less : ℕ → ℕ
less word = (word + 0xdfdfdfdfdfdfdfe0) % 2 ^ 64

-- Bit 7 of each byte.
abbrev mask : ℕ
mask = 0x8080808080808080

-- Bit 7 of each byte that is below 20 or from 80 on; above one below 20, perhaps of others too.
abbrev marks_of : ℕ → ℕ
marks_of word = bit_and (bit_or (less word) word) mask

mask_at : (k : ℕ) → k < 8 → bit_at mask (8 * k + 7) ≡ 1
mask_at k low = eqb-true _ _ (agree_below_at (λ k. nat_eq (bit_at mask (8 * k + 7)) 1) (λ k. true) 8 k refl low)

-- A byte is printed ASCII if neither number has a 1 at its bit 7.
byte-unmarked : (word k : ℕ) → word < 2 ^ 64 → k < 8 → bit_at (less word) (8 * k + 7) ≡ 0
    → bit_at word (8 * k + 7) ≡ 0 → IsPrintedAscii (get_or (to_le_bytes w64 word) k 0)
byte-unmarked word zero fits low less_clear word_clear =
    (omega (arith, fits, less_clear, word_clear), omega (arith, fits, less_clear, word_clear))
byte-unmarked word (suc zero) fits low less_clear word_clear =
    (omega (arith, fits, less_clear, word_clear), omega (arith, fits, less_clear, word_clear))
byte-unmarked word (suc (suc zero)) fits low less_clear word_clear =
    (omega (arith, fits, less_clear, word_clear), omega (arith, fits, less_clear, word_clear))
byte-unmarked word (suc (suc (suc zero))) fits low less_clear word_clear =
    (omega (arith, fits, less_clear, word_clear), omega (arith, fits, less_clear, word_clear))
byte-unmarked word (suc (suc (suc (suc zero)))) fits low less_clear word_clear =
    (omega (arith, fits, less_clear, word_clear), omega (arith, fits, less_clear, word_clear))
byte-unmarked word (suc (suc (suc (suc (suc zero))))) fits low less_clear word_clear =
    (omega (arith, fits, less_clear, word_clear), omega (arith, fits, less_clear, word_clear))
byte-unmarked word (suc (suc (suc (suc (suc (suc zero)))))) fits low less_clear word_clear =
    (omega (arith, fits, less_clear, word_clear), omega (arith, fits, less_clear, word_clear))
byte-unmarked word (suc (suc (suc (suc (suc (suc (suc zero))))))) fits low less_clear word_clear =
    (omega (arith, fits, less_clear, word_clear), omega (arith, fits, less_clear, word_clear))
byte-unmarked word (suc (suc (suc (suc (suc (suc (suc (suc k)))))))) fits low less_clear word_clear =
    absurd (omega (arith, low))

pub marks-fit : (word : ℕ) → marks_of word < 2 ^ 64
marks-fit word = omega (arith, and_le_r (bit_or (less word) word) mask)

-- The first n bytes are printed ASCII if none of them is marked.
pub prefix-printed : (bytes : List ℕ) {word : ℕ} (n : ℕ) → ((i : ℕ) → get_or bytes i 0 < 256) → length bytes ≡ 8
    → word < 2 ^ 64
    → word ≡ from_le_bytes w64 bytes → n ≤ 8 → ((i : ℕ) → i < 8 * n → bit_at (marks_of word) i ≡ 0)
    → ArePrintedAscii bytes 0 n
prefix-printed bytes {word} n are_bytes long fits is_word most zeros k _ at_most =
    let low : k < 8 = omega (arith, at_most, most) in
    let clear = zeros (8 * k + 7) (omega (arith, at_most)) in
    let either = bit_at_or (less word) word (8 * k + 7) in
    let both = bit_at_and (bit_or (less word) word) mask (8 * k + 7) in
    let small = bit_at-lt (bit_or (less word) word) (8 * k + 7) in
    subst IsPrintedAscii (ap (λ xs. get_or xs k 0) (le_bytes_8 bytes word long are_bytes is_word))
    (byte-unmarked word k fits low (omega (arith, clear, both, either, small, mask_at k low))
    (omega (arith, clear, both, either, small, mask_at k low)))
