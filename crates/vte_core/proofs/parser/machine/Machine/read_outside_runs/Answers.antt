-- A longer character is read as one. Otherwise each byte is single (`advances-single`), up to ESC, the end, a stop or a
-- byte that may begin a run.
use Rattle.vte_core.proofs.Common.{arith, refl, rules, sym, ◌∙◌}
use Rattle.vte_core.proofs.lemmas.bytes.NoRuns.{no_run-unprinted}
use Rattle.vte_core.proofs.lemmas.positions.BetweenCharacters.{advances-single}
use Rattle.vte_core.proofs.lemmas.positions.SettledStates.{settled-same_state}
use Rattle.vte_core.proofs.lemmas.positions.Stretches.{advances-given, advances-nothing, advances-then}
use Rattle.vte_core.proofs.parser.machine.Machine.read_outside_runs.Goals as goal

-- A byte that begins a longer one: no run begins here, so the character is none that is printed.
pub returns-then-is_lead-clause-advances : goal.returns-then-is_lead-clause-advances
returns-then-is_lead-clause-advances g c = advances-given (refl, c.requires.no_run) c.read_character.ensures.advances

-- The first byte is single: it is no printed ASCII, for no run begins here, and begins no longer one.
pub loop-byte-init : goal.loop-byte-init
loop-byte-init g c = search (rules, arith, advances-nothing, settled-same_state, no_run-unprinted)

-- One more single byte was read, and the next is single too.
pub loop-byte-preserved : goal.loop-byte-preserved
loop-byte-preserved g c =
    let invariant = c.loop-byte.invariant in
    let reported = c.report_lone_byte.ensures in
    record {
      advances =
          advances-single invariant.advances invariant.may_read c.loop-byte-test.true invariant.other invariant.lone
          reported.control
          reported.malformed;
      may_read = record {
        in_state = invariant.may_read.in_state;
        may_go_on = λ _. sym c.terminated.ensures ∙ c.if-terminated.false;
        before_end = omega arith;
        looked_at = c.byte_at-byte-in-loop-byte.ensures.value;
      };
      other = sym c.is_printed_ascii.ensures ∙ c.if-is_printed_ascii.false;
      lone = sym c.is_lead-else-is_printed_ascii.ensures ∙ c.if-is_lead-2.false;
      spends = search rules;
      looks_at_least = search rules;
    }

-- The byte was the last one, or the performer was terminated after it.
pub returns-then-position-len-clause-advances : goal.returns-then-position-len-clause-advances
returns-then-position-len-clause-advances g c = search (rules, arith, advances-single)

-- The next byte may begin a run or a character.
pub returns-then-is_printed_ascii-clause-advances : goal.returns-then-is_printed_ascii-clause-advances
returns-then-is_printed_ascii-clause-advances g c =
    let invariant = c.loop-byte.invariant in
    let reported = c.report_lone_byte.ensures in
    advances-single invariant.advances invariant.may_read c.loop-byte-test.true invariant.other invariant.lone
    reported.control reported.malformed

-- ESC: the looks at the bytes before it and at the sequence add up.
pub returns-clause-reads_within : goal.returns-clause-reads_within
returns-clause-reads_within g c = search (rules, arith)

pub returns-clause-advances : goal.returns-clause-advances
returns-clause-advances g c = advances-then c.loop-byte.invariant.advances c.read_escape_in_text.ensures.advances
