-- The first separator parts the text; without one the text is a part of its own.
use Rattle.vte.proofs.ansi.calls.split.split_at_first.Goals as goal
use Rattle.vte.proofs.Common.{arith, length, position_or_len_is, rules, take_rest, ℕ, ◌+◌, ◌==◌}
use Rattle.vte.proofs.lemmas.calls.SplitTexts.{split-first, split-whole}

pub returns-in-Some-clause-parts : goal.returns-in-Some-clause-parts
returns-in-Some-clause-parts c =
    let text = c.args.text.now in
    let found =
    position_or_len_is (λ (b : ℕ). b == c.args.separator) text c.in-Some.position 0 (search rules) (search rules)
    (search rules) in
    rw (take_rest text (c.in-Some.position + 1)) (split-first _ text found (search rules))

pub returns-in-None-clause-parts : goal.returns-in-None-clause-parts
returns-in-None-clause-parts c =
    let text = c.args.text.now in
    split-whole _ text
    (position_or_len_is (λ (b : ℕ). b == c.args.separator) text (length text) 0 (omega arith) (search rules)
    (search rules))
