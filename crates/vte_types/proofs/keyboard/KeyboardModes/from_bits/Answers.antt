-- A byte is its flags and its other bits (`Bits`), so it is a set exactly if no other bit is set.
use Rattle.std.proofs.Common.{ap, arith, Bool, eqb, false, None, Option, refl, rules, Some, true, ℕ, ◌+◌, ◌≡◌, ◌≢◌}
use Rattle.std.proofs.lemmas.Bool.Decides.{nat_tests}
use Rattle.std.specs.Int.RustNames.{bit_and}
use Rattle.std.specs.Prelude.{IfSome, if◌then◌else◌, IsNone, IsSome}
use Rattle.bitflags.proofs.OnLiterals.{bitflags_on_literals}
use Rattle.vte_types.proofs.keyboard.KeyboardModes.from_bits.Goals as goal
use Rattle.vte_types.proofs.lemmas.Bits.{bits-parts}
use Rattle.vte_types.specs.declared.keyboard.KeyboardModes.{KeyboardModes}
use Rattle.vte_types.specs.Keyboard.{bits_of, modes_of_bits}

-- The answer depends on whether another bit is set.
by_others : (bits others flags : ℕ) (result : Option KeyboardModes) → others + flags ≡ bits
    → IfSome result (λ modes. bits_of modes ≡ bits)
    → (flags ≡ bits → IsSome result) → (flags ≢ bits → IsNone result) → (t : Bool) → eqb others 0 ≡ t
    → result ≡ (if t then Some (modes_of_bits bits) else None)
by_others bits others flags None sum value known unknown true test =
    let all : flags ≡ bits = grind (arith, nat_tests) in search (rules, known all)
by_others bits others flags (Some modes) sum value known unknown true test =
    ap (λ bits. Some (modes_of_bits bits)) value
by_others bits others flags None sum value known unknown false test = refl
by_others bits others flags (Some modes) sum value known unknown false test =
    let not_all : flags ≢ bits = grind (arith, nat_tests) in search (rules, unknown not_all)

pub returns : goal.returns
unfolding bitflags_on_literals
returns c =
    by_others c.args.bits (bit_and c.args.bits 0xe0) (bit_and c.args.bits 0x1f) _ (bits-parts c.args.bits (omega arith))
    (c.from_bits.ensures.value tt)
    (c.from_bits.ensures.known tt).1 (c.from_bits.ensures.unknown tt) _ refl
