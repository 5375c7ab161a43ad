-- Each of the second, third and fourth byte of a character of four fits or breaks it, unless the bytes of the call end
-- before. The lemmas `goes_on-*` say how far the call has gone from the second byte on, and `completes-*` how the
-- character ends there; `advances-four` leads from the first byte. A run that it begins is reported as a text.
use Rattle.vte_core.proofs.Common.{Advances, ap, arith, ChunkCall, Empty, false, false≢true, HasNoRunAt, IsRun, length, Machine, One, slice_index, subst, sym, Text, ℕ, ◌+◌, ◌<◌, ◌∙◌, ◌≡◌, ◌≤◌}
use Rattle.vte_core.proofs.lemmas.bytes.Runs.{run-append}
use Rattle.vte_core.proofs.lemmas.bytes.Scalars.{fourth-broken, second-broken, spells-four, third-broken}
use Rattle.vte_core.proofs.lemmas.dividing.Utf8Agrees.{run-four}
use Rattle.vte_core.proofs.lemmas.positions.BetweenCharacters.{advances-first}
use Rattle.vte_core.proofs.lemmas.positions.Characters.{completes-malformed, completes-then, completes-well_formed, goes_on-nowhere, goes_on-second, goes_on-third, opened-some}
use Rattle.vte_core.proofs.lemmas.positions.Stretches.{advances-weaker}
use Rattle.vte_core.proofs.lemmas.positions.TextRuns.{advances-text}
use Rattle.vte_core.proofs.parser.machine.Machine.complete_four.Goals as goal
use Rattle.vte_core.specs.private.Prelude.{BeginsFour, Completes, MayReadByte}

-- `omega` proves these over plain numbers, so that it has little to read.
lead_of_three : (first : ℕ) → 0xf0 ≤ first → 0xe0 ≤ first
lead_of_three first low = omega arith

next_counted : (next : ℕ) → next + 3 ≡ next + 2 + 1
next_counted next = omega arith

-- The first byte is a lead byte, C2 to F4, so the call goes on by a character.
advances-four : {V B given : Type 0} {call : ChunkCall V} {old new : V} {i j first : ℕ} {parser next : Machine B}
    → MayReadByte call old (Text Empty) parser i first → BeginsFour first
    → Completes call old new (i + 1) j (One first) next
    → Advances (given × HasNoRunAt false call.bytes i) call old new i j parser next
advances-four may_read lead completes = advances-first may_read (omega (arith, lead.low)) lead.high completes

-- The second byte doesn't fit the first one, so it breaks the character.
pub returns-then-not-may_begin_four-clause-advances : goal.returns-then-not-may_begin_four-clause-advances
returns-then-not-may_begin_four-clause-advances g c =
    let requires = c.requires in
    -- The call's `ensures` says what its result means, and the test that it is false.
    let misfits = sym c.may_begin_four.ensures ∙ c.if-not-may_begin_four.true in
    advances-four requires.may_read requires.lead
    -- No further byte belongs to the character (`goes_on-nowhere`), and the next one breaks it.
    (completes-malformed (goes_on-nowhere c.args.self.now (opened-some _ _))
    -- The definition says so, and the code printed U+FFFD.
    (λ truncated. second-broken c.args.first c.args.second truncated misfits) requires.may_read.in_state
    c.print_char.ensures.value
    -- The next byte is within the call, and the one that was read.
    requires.before_end requires.looked_at)

-- The call has two bytes or three: another function reads the last ones, one at a time.
pub returns-then-next-len-clause-advances : goal.returns-then-next-len-clause-advances
returns-then-next-len-clause-advances g c =
    let requires = c.requires in
    let second = sym c.may_begin_four.ensures ∙ c.if-not-may_begin_four.false in
    advances-four requires.may_read requires.lead
    (completes-then (goes_on-second c.args.self.now
    (lead_of_three _ requires.lead.low) second requires.before_end requires.looked_at)
    c.continue_near_end.ensures.completes)

-- The third byte doesn't continue the character, so it breaks it after two bytes.
pub returns-then-not-is_continuation-clause-advances : goal.returns-then-not-is_continuation-clause-advances
returns-then-not-is_continuation-clause-advances g c =
    let requires = c.requires in
    let second = sym c.may_begin_four.ensures ∙ c.if-not-may_begin_four.false in
    let misfits = sym c.is_continuation.ensures ∙ c.if-not-is_continuation.true in
    advances-four requires.may_read requires.lead
    (completes-malformed (goes_on-second c.args.self.now
    (lead_of_three _ requires.lead.low) second requires.before_end requires.looked_at)
    (λ truncated. third-broken c.args.first c.args.second c.byte_at-third.result truncated misfits)
    requires.may_read.in_state c.print_char-then-not-is_continuation.ensures.value
    (omega (arith, requires.before_end, c.if-next-len.false)) c.byte_at-third.ensures.value)

-- The fourth byte doesn't continue the character, so it breaks it after three bytes.
pub returns-then-not-is_continuation-2-clause-advances : goal.returns-then-not-is_continuation-2-clause-advances
returns-then-not-is_continuation-2-clause-advances g c =
    let requires = c.requires in
    let second = sym c.may_begin_four.ensures ∙ c.if-not-may_begin_four.false in
    let third = sym c.is_continuation.ensures ∙ c.if-not-is_continuation.false in
    let misfits = sym c.is_continuation-2.ensures ∙ c.if-not-is_continuation-2.true in
    let before_end : c.args.from + 1 + 2 < length c.args.input.bytes.now =
    omega (arith, requires.before_end, c.if-next-len.false) in
    advances-four requires.may_read requires.lead
    (completes-malformed (goes_on-third c.args.self.now requires.lead.low second third before_end requires.looked_at
    c.byte_at-third.ensures.value)
    (λ truncated.
    fourth-broken c.args.first c.args.second c.byte_at-third.result c.byte_at-fourth.result truncated misfits)
    requires.may_read.in_state c.print_char-then-not-is_continuation-2.ensures.value before_end
    c.byte_at-fourth.ensures.value)

-- The run that the character begins consists of the four bytes and what follows them.
pub report_text-requires-clause-run : goal.report_text-requires-clause-run
report_text-requires-clause-run g c =
    let requires = c.requires in
    let bytes = c.args.input.bytes.now in
    let from = c.args.from in
    let rest = c.find_run_end_after_non_ascii-end.ensures in
    let past : from + 1 + 3 ≡ from + 4 = omega arith in
    let to_third : from + 1 + 1 ≡ from + 2 = omega arith in
    let to_fourth : from + 1 + 2 ≡ from + 3 = omega arith in
    run-append g.P.CountedPerform.layout bytes from (from + 4) c.find_run_end_after_non_ascii-end.result (omega arith)
    (omega (arith, rest.scans.in_order))
    (run-four bytes from
    (omega (arith, requires.before_end, c.if-next-len.false)) requires.may_read.looked_at requires.looked_at
    (c.byte_at-third.ensures.value ∙ ap (slice_index bytes) to_third)
    (c.byte_at-fourth.ensures.value ∙ ap (slice_index bytes) to_fourth) requires.lead.low requires.lead.high
    (sym c.may_begin_four.ensures ∙ c.if-not-may_begin_four.false)
    (sym c.is_continuation.ensures ∙ c.if-not-is_continuation.false)
    (sym c.is_continuation-2.ensures ∙ c.if-not-is_continuation-2.false))
    (subst (λ position. IsRun g.P.CountedPerform.layout bytes position c.find_run_end_after_non_ascii-end.result) past
    rest.scans.passed)

-- In runs, the character is reported with the run that it begins.
pub returns-then-IN_RUNS-clause-advances : goal.returns-then-IN_RUNS-clause-advances
returns-then-IN_RUNS-clause-advances g c =
    let requires = c.requires in
    let in_runs = sym c.IN_RUNS.ensures ∙ c.if-IN_RUNS.true in
    advances-weaker (λ given. absurd (false≢true (sym given.0 ∙ in_runs)))
    (advances-text (requires.no_stop in_runs) requires.may_read.may_go_on requires.may_read.in_state
    (omega (arith, c.find_run_end_after_non_ascii-end.ensures.scans.in_order))
    c.find_run_end_after_non_ascii-end.ensures.scans.within
    c.report_text.ensures.printed)

-- Four bytes spell a character.
pub returns-clause-advances : goal.returns-clause-advances
returns-clause-advances g c =
    let requires = c.requires in
    let second = sym c.may_begin_four.ensures ∙ c.if-not-may_begin_four.false in
    let third = sym c.is_continuation.ensures ∙ c.if-not-is_continuation.false in
    let fourth = sym c.is_continuation-2.ensures ∙ c.if-not-is_continuation-2.false in
    let spells =
    spells-four requires.lead.low requires.lead.high
    second third fourth in
    let before_end : c.args.from + 1 + 2 < length c.args.input.bytes.now =
    omega (arith, requires.before_end, c.if-next-len.false) in
    advances-four requires.may_read requires.lead
    (completes-well_formed (goes_on-third c.args.self.now requires.lead.low second third before_end requires.looked_at
    c.byte_at-third.ensures.value)
    (λ truncated. (spells.is_whole, c.character_of_four.ensures)) requires.may_read.in_state
    c.report_character.ensures.value before_end c.byte_at-fourth.ensures.value (next_counted _))
