-- With intermediates and a final byte that no arm names, there is no row, and so no call.
use Rattle.std.specs.Prelude.{length, List, Option, ℕ, [], ◌∷◌, ◌≡◌, ◌≢◌, ◌≤◌}
use Rattle.vte.proofs.ansi.calls.control_sequence.perform_control_sequence.Goals.{else-this-lt110+else-this-lt112+else-this-lt113+else-this-lt114+else-this-lt117+else-this-lt118, else-this-lt110+else-this-lt112+else-this-lt113+else-this-lt114+then-this-lt117, else-this-lt110+then-this-lt112, then-this-lt110+else-this-lt87+else-this-lt88+then-this-lt107, then-this-lt110+then-this-lt87}
use Rattle.vte.proofs.ansi.calls.control_sequence.perform_control_sequence.Goals as goal
use Rattle.vte.proofs.Common.{arith, refl, rules}
use Rattle.vte.specs.ControlSequenceCalls.{control_sequence_calls}

-- Each shape of the intermediates by itself.
no_row : (last : Option ℕ) (groups : List (List ℕ)) (byte : ℕ) (more : List ℕ) (final : ℕ)
    → (byte ∷ more ≡ 0x3f ∷ [] → final ≢ 0x68) → final ≢ 0x57 → final ≢ 0x63 → final ≢ 0x6b → final ≢ 0x6c
    → final ≢ 0x6d → final ≢ 0x70 → final ≢ 0x71 → final ≢ 0x75
    → control_sequence_calls last groups (byte ∷ more) final ≡ []
no_row last groups byte [] final h a b c d e f g i = grind (arith, rules)
no_row last groups byte (next ∷ []) final h a b c d e f g i = grind (arith, rules)
no_row last groups byte (next ∷ third ∷ more) final h a b c d e f g i = grind (arith, rules)

-- The same, of intermediates that aren't empty.
no_calls : (last : Option ℕ) (groups : List (List ℕ)) (intermediates : List ℕ) (final : ℕ)
    → 1 ≤ length intermediates → (intermediates ≡ 0x3f ∷ [] → final ≢ 0x68) → final ≢ 0x57 → final ≢ 0x63 → final ≢ 0x6b
    → final ≢ 0x6c → final ≢ 0x6d → final ≢ 0x70 → final ≢ 0x71 → final ≢ 0x75
    → control_sequence_calls last groups intermediates final ≡ []
no_calls last groups [] final some h a b c d e f g i = absurd (omega (arith, some))
no_calls last groups (byte ∷ more) final some h a b c d e f g i = no_row last groups byte more final h a b c d e f g i

-- On each way to the last arm, the final byte is none of those.
pub returns-in_default-17 : goal.returns-in_default-17
returns-in_default-17 g c = elim c.if-this-lt110.branch [
  | then-this-lt110+then-this-lt87 w ↦
      rw (no_calls _ _ _ c.args.action c.in_default.len_at_least c.requires.sets_no_private_mode
      (omega (arith, w)) (omega (arith, w)) (omega (arith, w)) (omega (arith, w))
      (omega (arith, w)) (omega (arith, w)) (omega (arith, w)) (omega (arith, w))) refl
  | then-this-lt110+else-this-lt87+else-this-lt88+then-this-lt107 w ↦
      rw (no_calls _ _ _ c.args.action c.in_default.len_at_least c.requires.sets_no_private_mode
      (omega (arith, w)) (omega (arith, w)) (omega (arith, w)) (omega (arith, w))
      (omega (arith, w)) (omega (arith, w)) (omega (arith, w)) (omega (arith, w))) refl
  | else-this-lt110+then-this-lt112 w ↦
      rw (no_calls _ _ _ c.args.action c.in_default.len_at_least c.requires.sets_no_private_mode
      (omega (arith, w)) (omega (arith, w)) (omega (arith, w)) (omega (arith, w))
      (omega (arith, w)) (omega (arith, w)) (omega (arith, w)) (omega (arith, w))) refl
  | else-this-lt110+else-this-lt112+else-this-lt113+else-this-lt114+then-this-lt117 w ↦
      rw (no_calls _ _ _ c.args.action c.in_default.len_at_least c.requires.sets_no_private_mode
      (omega (arith, w)) (omega (arith, w)) (omega (arith, w)) (omega (arith, w))
      (omega (arith, w)) (omega (arith, w)) (omega (arith, w)) (omega (arith, w))) refl
  | else-this-lt110+else-this-lt112+else-this-lt113+else-this-lt114+else-this-lt117+else-this-lt118 w ↦
      rw (no_calls _ _ _ c.args.action c.in_default.len_at_least c.requires.sets_no_private_mode
      (omega (arith, w)) (omega (arith, w)) (omega (arith, w)) (omega (arith, w))
      (omega (arith, w)) (omega (arith, w)) (omega (arith, w)) (omega (arith, w))) refl
]
