-- No mark: all eight bytes are printed. Otherwise the lowest mark is at the first that is not (`bytes/EightBytes`).
use Rattle.std.proofs.Common.{arith, w64}
use Rattle.std.proofs.lemmas.Nat.Bits.{bit_at-trailing_zeros, bit_at-zero}
use Rattle.vte_core.proofs.Common.{rules}
use Rattle.vte_core.proofs.lemmas.bytes.EightBytes.{marks-fit, prefix-printed}
use Rattle.vte_core.proofs.reader.run_end.find_printed_ascii_end.Goals as goal

pub returns-then-marks-eq0 : goal.returns-then-marks-eq0
returns-then-marks-eq0 c = search (rules, arith, prefix-printed, bit_at-zero)

pub returns : goal.returns
returns c =
    let digits = c.from_le_bytes-bytes in
    let lowest =
    bit_at-trailing_zeros w64 _ (omega (arith, c.if-marks-eq0.false)) (omega (arith, marks-fit digits.result)) in (
      omega (arith, lowest.0),
      prefix-printed _ _ c.fits-word c.told-word digits.type_inv digits.ensures
          (omega (arith, lowest.0)) (λ i low. lowest.2 i (omega (arith, low))),
    )
