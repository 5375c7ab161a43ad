-- In a round the call may first print a run of ASCII (`advances-ascii`). Then it is before a byte (`may_read-next`),
-- which it reads by one of three branches, of which two join (`advances-next`).
use Rattle.vte_core.proofs.Common.{Advances, AnyEvents, arith, Empty, length, rules, sym, Text, ◌<◌, ◌∙◌}
use Rattle.vte_core.proofs.lemmas.positions.BetweenCharacters.{advances-lone}
use Rattle.vte_core.proofs.lemmas.positions.Stretches.{advances-then, advances-without_promise}
use Rattle.vte_core.proofs.lemmas.positions.TextRuns.{advances-text, may_go_on-malformed, may_go_on-text}
use Rattle.vte_core.proofs.parser.machine.Machine.read_runs.Given.{Over}
use Rattle.vte_core.proofs.parser.machine.Machine.read_runs.Goals.{else-byte-lt160+then-is_lead, else-is_printed_ascii, Joined-byte-lt160, Joined-is_printed_ascii, then-byte-lt160+else-byte-eq-ESCAPE, then-is_printed_ascii+in-Some}
use Rattle.vte_core.proofs.parser.machine.Machine.read_runs.Goals as goal
use Rattle.vte_core.proofs.parser.machine.Machine.read_runs.Invariants.{call_at}
use Rattle.vte_core.specs.private.Prelude.{MayReadByte}

-- The call has come past the run of ASCII, if there was one.
advances-ascii : (g : Over) (c : Joined-is_printed_ascii g)
    → Advances AnyEvents (call_at g c.args.input.bytes.now) (g.P.CountedPerform.value_of c.args.performer.now)
    (g.P.CountedPerform.value_of c.if-is_printed_ascii.performer) c.args.from c.if-is_printed_ascii.position
    c.args.self.now c.loop-position.self
advances-ascii g c =
    let reads_on = c.loop-position.invariant.reads_on in
    elim c.if-is_printed_ascii.branch [
      | then-is_printed_ascii+in-Some branch ↦
          let run = branch.print_ascii_run-run.ensures in
          rw (branch.performer-is, branch.position-is) (advances-then reads_on.advances
          (advances-text c.requires.no_stop reads_on.may_go_on
          (reads_on.settled (omega (arith, c.loop-position-test.true)))
          run.reads_some run.within run.prints))
      | else-is_printed_ascii branch ↦ rw (branch.performer-is, branch.position-is) reads_on.advances
    ]

-- The call may read the byte after the run of ASCII.
may_read-next : (g : Over) (c : Joined-is_printed_ascii g) → MayReadByte (call_at g c.args.input.bytes.now)
    (g.P.CountedPerform.value_of c.if-is_printed_ascii.performer) (Text Empty) c.loop-position.self
    c.if-is_printed_ascii.position c.if-is_printed_ascii.byte
may_read-next g c =
    let reads_on = c.loop-position.invariant.reads_on in
    let before_end : c.loop-position.position < length c.args.input.bytes.now =
    omega (arith, c.loop-position-test.true) in
    elim c.if-is_printed_ascii.branch [
      | then-is_printed_ascii+in-Some branch ↦
          let run = branch.print_ascii_run-run.ensures in
          let next = rw branch.in-Some.is at run.next_is in
          rw (branch.performer-is, branch.position-is, branch.byte-is) (record {
            in_state = reads_on.settled before_end;
            may_go_on = may_go_on-text
                (call_at g c.args.input.bytes.now) c.requires.no_stop reads_on.may_go_on run.prints;
            before_end = next.0;
            looked_at = next.1;
          })
      | else-is_printed_ascii branch ↦ rw (branch.performer-is, branch.position-is, branch.byte-is) (record {
        in_state = reads_on.settled before_end;
        may_go_on = reads_on.may_go_on;
        before_end = before_end;
        looked_at = c.byte_at-byte.ensures.value;
      })
    ]

-- A run of ASCII up to the end of what was looked at: its characters, and nothing more in this round.
pub loop-position-preserved-in-None : goal.loop-position-preserved-in-None
loop-position-preserved-in-None g c =
    let reads_on = c.loop-position.invariant.reads_on in
    let before_end : c.loop-position.position < length c.args.input.bytes.now =
    omega (arith, c.loop-position-test.true) in
    let run = c.print_ascii_run-run.ensures in
    record {
      reads_on = record {
        advances = advances-then reads_on.advances
            (advances-text c.requires.no_stop reads_on.may_go_on
            (reads_on.settled before_end) run.reads_some run.within run.prints);
        may_go_on = may_go_on-text
            (call_at g c.args.input.bytes.now) c.requires.no_stop reads_on.may_go_on run.prints;
        settled = λ _. reads_on.settled before_end;
        spends = search rules;
      };
      reads_some = search rules;
    }

-- The two functions that read on begin where the call is.
pub read_run_at_lead-position-requires-clause-may_read : goal.read_run_at_lead-position-requires-clause-may_read
read_run_at_lead-position-requires-clause-may_read g c = may_read-next g
    (goal.at.read_run_at_lead-position-requires-clause-may_read g c).Joined-is_printed_ascii

pub read_escape_in_text-requires-clause-may_read : goal.read_escape_in_text-requires-clause-may_read
read_escape_in_text-requires-clause-may_read g c =
    let here = may_read-next g (goal.at.read_escape_in_text-requires-clause-may_read g c).Joined-is_printed_ascii in
    record { in_state = here.in_state; may_go_on = here.may_go_on; before_end = here.before_end }

-- At an ESC, the run, if any, comes first, and then the escape sequence.
pub returns-then-byte-eq-ESCAPE-clause-advances : goal.returns-then-byte-eq-ESCAPE-clause-advances
returns-then-byte-eq-ESCAPE-clause-advances g c =
    advances-then (advances-ascii g (goal.at.returns-then-byte-eq-ESCAPE-clause-advances g c).Joined-is_printed_ascii)
    (advances-without_promise c.read_escape_in_text.ensures.advances)

-- A control or malformed byte alone below A0, and what a lead byte begins.
advances-next : (g : Over) (c : Joined-byte-lt160 g)
    → MayReadByte (call_at g c.args.input.bytes.now) (g.P.CountedPerform.value_of c.if-is_printed_ascii.performer)
    (Text Empty) c.loop-position.self c.if-is_printed_ascii.position c.if-is_printed_ascii.byte
    → Advances AnyEvents (call_at g c.args.input.bytes.now)
    (g.P.CountedPerform.value_of c.if-is_printed_ascii.performer)
    (g.P.CountedPerform.value_of c.if-byte-lt160.performer) c.if-is_printed_ascii.position c.if-byte-lt160.position
    c.loop-position.self c.if-byte-lt160.self
advances-next g c here = elim c.if-byte-lt160.branch [
  | then-byte-lt160+else-byte-eq-ESCAPE branch ↦
      let reported = branch.report_lone_byte.ensures in
      rw (branch.self-is, branch.performer-is, branch.position-is)
      (advances-lone here branch.if-byte-eq-ESCAPE.false (grind (arith, branch.if-byte-lt160.true))
      reported.control reported.malformed)
  | else-byte-lt160+then-is_lead branch ↦
      rw (branch.self-is, branch.performer-is, branch.position-is)
      (advances-without_promise branch.read_run_at_lead-position.ensures.advances)
]

-- A stop after these.
pub returns-then-terminated-clause-advances : goal.returns-then-terminated-clause-advances
returns-then-terminated-clause-advances g c =
    let joins = goal.at.returns-then-terminated-clause-advances g c in
    advances-then (advances-ascii g joins.Joined-is_printed_ascii)
    (advances-next g joins.Joined-byte-lt160 (may_read-next g joins.Joined-is_printed_ascii))

-- The loop goes on after such a round. Only a longer character can change the state, and does so only with the last
-- bytes of the call.
pub loop-position-preserved : goal.loop-position-preserved
loop-position-preserved g c =
    let joins = goal.at.loop-position-preserved g c in
    let here = may_read-next g joins.Joined-is_printed_ascii in
    record {
      reads_on = record {
        advances = advances-then (advances-ascii g joins.Joined-is_printed_ascii)
            (advances-next g joins.Joined-byte-lt160 here);
        may_go_on = search rules;
        settled = elim c.if-byte-lt160.branch [
          | then-byte-lt160+else-byte-eq-ESCAPE branch ↦ rw branch.self-is (λ _. here.in_state)
          | else-byte-lt160+then-is_lead branch ↦ rw
              (branch.self-is, branch.position-is) branch.read_run_at_lead-position.ensures.in_text
        ];
        spends = search rules;
      };
      reads_some = search rules;
    }

-- U+FFFD, which is a character, and so doesn't stop the call.
pub loop-position-preserved-else-is_lead : goal.loop-position-preserved-else-is_lead
loop-position-preserved-else-is_lead g c =
    let joins = goal.at.loop-position-preserved-else-is_lead g c in
    let here = may_read-next g joins.Joined-is_printed_ascii in
    let reported = c.report_lone_byte-else-is_lead.ensures in
    record {
      reads_on = record {
        advances = advances-then (advances-ascii g joins.Joined-is_printed_ascii)
            (advances-lone here (grind (arith, c.if-byte-lt160.false)) (sym c.is_lead.ensures ∙ c.if-is_lead.false)
            reported.control reported.malformed);
        may_go_on = may_go_on-malformed g.P.CountedPerform.layout (call_at g c.args.input.bytes.now)
            c.requires.no_stop here.may_go_on (omega (arith, c.if-byte-lt160.false))
            (reported.malformed (omega (arith, c.if-byte-lt160.false)));
        settled = λ _. here.in_state;
        spends = search rules;
      };
      reads_some = search rules;
    }
