-- A byte is its flags and its other bits, and all flags are set exactly if setting them changes nothing: by laws of std
-- about bits.
use Rattle.std.proofs.Common.{ap, arith, sym, ℕ, ◌+◌, ◌<◌, ◌∙◌, ◌≡◌}
use Rattle.std.proofs.lemmas.Nat.{and-not, and_comm, and_or_self, or_comm}
use Rattle.std.specs.Int.Bits.{or_add_and}
use Rattle.std.specs.Int.RustNames.{bit_and, bit_or}

-- A byte is its flags and its other bits.
pub bits-parts : (bits : ℕ) → bits < 256 → bit_and bits 0xe0 + bit_and bits 0x1f ≡ bits
bits-parts bits fits = (λ i. and_comm bits 0xe0 i + and_comm bits 0x1f i) ∙ and-not 8 0x1f bits (omega arith) fits

-- All flags are set if setting them changes nothing.
pub all_set : (bits : ℕ) → bit_or 0x1f bits ≡ bits → bit_and bits 0x1f ≡ 0x1f
all_set bits unchanged = ap (λ n. bit_and n 0x1f) (sym unchanged ∙ or_comm 0x1f bits) ∙ and_or_self 0x1f bits

-- If all flags are set, setting them changes nothing.
pub set_all : (bits : ℕ) → bit_and bits 0x1f ≡ 0x1f → bit_or 0x1f bits ≡ bits
set_all bits are_set =
    let sum = or_add_and 0x1f bits in let turned = and_comm 0x1f bits in omega arith
