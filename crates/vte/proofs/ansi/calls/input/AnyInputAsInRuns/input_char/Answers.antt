-- A character is a text of one, of which it is the only input.
use Rattle.std.proofs.lemmas.List.Elements.{All-cons, All-nil}
use Rattle.vte.proofs.ansi.calls.input.AnyInputAsInRuns.input_char.Goals as goal
use Rattle.vte.proofs.Common.{after, All, ap, arith, chars, false, Input, map, nat_tests, subst, sym, [], ◌∙◌, ◌∷◌, ◌≡◌}
use Rattle.vte_core.proofs.lemmas.bytes.Runs.{chars-encode}
use Rattle.vte_core.specs.Text.{is_control_character}

pub input_text-requires-clause-shown : goal.input_text-requires-clause-shown
input_text-requires-clause-shown g c =
    let shown : is_control_character c.args.c ≡ false = grind (arith, nat_tests) in
    let spelt : chars c.encode_utf8.result.now ≡ c.args.c ∷ [] =
    rw c.encode_utf8.ensures.value (chars-encode c.args.c c.ranges.c.0) in
    subst (All (λ character. is_control_character character ≡ false)) (sym spelt)
    (All-cons (λ character. is_control_character character ≡ false) c.args.c [] shown
    (All-nil (λ character. is_control_character character ≡ false)))

pub returns-in_default : goal.returns-in_default
returns-in_default g c =
    let spelt : chars c.encode_utf8.result.now ≡ c.args.c ∷ [] =
    rw c.encode_utf8.ensures.value (chars-encode c.args.c c.ranges.c.0) in
    c.input_text.ensures
    ∙ ap (λ characters. after g.H.Handler.step (g.H.Handler.value_of c.args.self.now) (map Input characters)) spelt
