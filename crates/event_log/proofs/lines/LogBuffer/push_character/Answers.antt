-- The last of six digits are pushed.
use Rattle.event_log.proofs.Common.{ap, arith, hex_character, hex_length, max, ◌∙◌, ◌≡◌, ◌≤◌}
use Rattle.event_log.proofs.lemmas.Fields.{last_digits}
use Rattle.event_log.proofs.lines.LogBuffer.push_character.Goals as goal

pub returns : goal.returns
unfolding hex_character
returns c =
    let count : c.max-start.result ≡ max c.args.least (hex_length c.args.c) =
    c.max-start.ensures ∙ ap (max c.args.least) c.hex_length.ensures.value in
    let few : c.max-start.result ≤ 6 =
    omega (arith, c.max-start.ensures, c.hex_length.ensures.at_most_six, c.requires) in
    let last = last_digits c.max-start.result c.args.c few in
    rw (c.six_hex_digits-digits.ensures, last, count) at c.push.ensures
