-- The search of std, in the rest of the bytes from a position on: no byte before what it finds is ESC.
use Rattle.vte_core.proofs.Common.{ap, arith, drop, eqb-true, get_or, get_or-drop, length, List, nat_tests, refl, rules, sym, take, take_rest, ℕ, ◌+◌, ◌-◌, ◌∙◌, ◌≡◌}
use Rattle.vte_core.proofs.reader.Reader.find_escape.Goals as goal

rest-byte : (bytes : List ℕ) (from i k : ℕ) → from + i ≡ k
    → get_or (take (length bytes - from) (drop from bytes)) i 0 ≡ get_or bytes k 0
rest-byte bytes from i k place =
    ap (λ rest. get_or rest i 0) (take_rest bytes from) ∙ get_or-drop from bytes i 0 ∙ ap (λ k. get_or bytes k 0) place

pub returns-in-Some : goal.returns-in-Some
returns-in-Some c =
    let first = c.in-Some.ensures in
    record {
      in_order = omega arith;
      within = search rules;
      passed = λ k low high is_escape.
          let not_escape = first.0.before (k - c.args.from) (omega arith) (omega (arith, low, high)) in
          let is_there =
          rest-byte c.args.input.bytes.now c.args.from (k - c.args.from) k (omega (arith, low)) ∙ is_escape in
          grind (arith, nat_tests);
      ended =
          λ before_end not_escape.
          not_escape
          (sym (rest-byte c.args.input.bytes.now c.args.from c.in-Some.distance _ refl) ∙ eqb-true _ _ first.1);
      looks = search rules;
    }

pub returns-in-None : goal.returns-in-None
returns-in-None c = record {
  in_order = omega (arith, c.requires);
  within = search rules;
  passed = λ k low high is_escape.
      let not_escape = c.in-None.ensures (k - c.args.from) (omega arith) (omega (arith, low, high)) in
      let is_there =
      rest-byte c.args.input.bytes.now c.args.from (k - c.args.from) k (omega (arith, low)) ∙ is_escape in
      grind (arith, nat_tests);
  ended = λ before_end not_escape. omega (arith, before_end);
  looks = search rules;
}
