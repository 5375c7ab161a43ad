-- A byte that passes the tests of the code fits after the three before it (`Fits`), so it leads on from each state that
-- they allow (`allowed-after`).
use Rattle.std.proofs.Common.{nat_eq, nat_lt}
use Rattle.std.proofs.lemmas.Bool.{or_parts}
use Rattle.std.proofs.Math.Bool.{beq}
use Rattle.vte_core.proofs.Common.{and_parts, arith, Bool, false, nat_le, nat_tests, not, not-true, refl, sym, true, ℕ, ◌&&◌, ◌||◌, ◌≡◌}
use Rattle.vte_core.proofs.lemmas.automaton_states.Windows.{allowed-after}
use Rattle.vte_core.proofs.reader.run_blocks.may_follow.Goals as goal

beq-same : (left right : Bool) → beq left right ≡ true → left ≡ right
beq-same true true equal = refl
beq-same true false equal = sym equal
beq-same false true equal = equal
beq-same false false equal = refl

record Passes (opened continues unused other excluded : Bool) : Type 0 where
  is_opened : opened ≡ continues
  is_unused : unused ≡ false
  is_other : other ≡ false
  is_excluded : excluded ≡ false

passes : (opened continues unused other excluded : Bool)
    → (beq opened continues && not ((unused || other) || excluded)) ≡ true
    → Passes opened continues unused other excluded
passes opened continues unused other excluded all =
    let parts = and_parts _ _ all in
    let last = or_parts _ _ (not-true _ parts.1) in
    let first = or_parts _ _ last.0 in
    record { is_opened = beq-same _ _ parts.0; is_unused = first.0; is_other = first.1; is_excluded = last.1 }

pub returns : goal.returns
returns c = λ all.
    let three_back : ℕ = c.args.three_back in
    let two_back : ℕ = c.args.two_back in
    let one_back : ℕ = c.args.one_back in
    let b : ℕ = c.args.byte in
    -- These are the tests of the code, by name.
    let low : Bool = nat_le 0x80 b && nat_lt b 0xa0 in
    let lowest : Bool = nat_le 0x80 b && nat_lt b 0x90 in
    let e0 : Bool = (nat_eq one_back 0xe0 || nat_eq one_back 0xc2) && low in
    let ed : Bool = nat_eq one_back 0xed && not low in
    let f0 : Bool = nat_eq one_back 0xf0 && lowest in
    let f4 : Bool = nat_eq one_back 0xf4 && not lowest in
    -- All of them pass: the byte is a continuation exactly if a character is open, and no exception applies.
    let passed =
    passes (nat_le 1 c.max-is_open.result) c.is_continuation.result
    (nat_eq b 0xc0 || nat_eq b 0xc1)
    ((nat_lt b 0x20 || nat_le 0xf5 b) && not (c.is_layout.result && c.args.layout))
    (((e0 || ed) || f0) || f4) all in
    -- So none of the four exceptions applies by itself.
    let third = or_parts ((e0 || ed) || f0) f4 passed.is_excluded in
    let second = or_parts (e0 || ed) f0 third.0 in
    let first = or_parts e0 ed second.0 in
    let continues = c.is_continuation.ensures in
    -- Therefore the byte fits after the three before it (`Fits`), and each state that they allow leads on.
    record {
      leads = allowed-after three_back two_back one_back b (record {
        begins_outside = λ no_more. grind (arith, nat_tests, passed.is_opened, no_more, continues);
        continues_inside = λ more low below. grind (arith, nat_tests, passed.is_opened, more, low, below, continues);
        control_is_layout = λ below. grind (arith, nat_tests, passed.is_other, below, c.is_layout.ensures);
        lead_is_used = λ above. grind (arith, nat_tests, passed.is_unused, passed.is_other, above, c.is_layout.ensures);
        from_a0_after_e0 = λ is_e0. grind (arith, nat_tests, passed.is_opened, continues, first.0, is_e0);
        below_a0_after_ed = λ is_ed. grind (arith, nat_tests, passed.is_opened, continues, first.1, is_ed);
        from_90_after_f0 = λ is_f0. grind (arith, nat_tests, passed.is_opened, continues, second.1, is_f0);
        below_90_after_f4 = λ is_f4. grind (arith, nat_tests, passed.is_opened, continues, third.1, is_f4);
        from_a0_after_c2 = λ is_c2. grind (arith, nat_tests, passed.is_opened, continues, first.0, is_c2);
      });
      above = λ no_layout. grind (arith, nat_tests, passed.is_other, no_layout);
    }
