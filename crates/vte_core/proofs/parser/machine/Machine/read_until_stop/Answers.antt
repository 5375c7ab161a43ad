-- A round reads the byte before which the call is: what begins with a lead byte by a branch of its own, and a
-- character, a control or malformed byte alone by two that join.
use Rattle.vte_core.proofs.Common.{Advances, AnyEvents, arith, Empty, length, rules, sym, Text, ◌+◌, ◌<◌, ◌∙◌}
use Rattle.vte_core.proofs.lemmas.positions.BetweenCharacters.{advances-lone, advances-printed}
use Rattle.vte_core.proofs.lemmas.positions.Stretches.{advances-then, advances-without_promise}
use Rattle.vte_core.proofs.parser.machine.Machine.read_until_stop.Given.{Over}
use Rattle.vte_core.proofs.parser.machine.Machine.read_until_stop.Goals.{else-is_printed_ascii+else-is_lead+else-byte-eq-ESCAPE, Joined-is_printed_ascii, then-is_printed_ascii}
use Rattle.vte_core.proofs.parser.machine.Machine.read_until_stop.Goals as goal
use Rattle.vte_core.proofs.parser.machine.Machine.read_until_stop.Invariants.{call_at}
use Rattle.vte_core.specs.private.Prelude.{MayReadByte}

advances-single_byte : (g : Over) (c : Joined-is_printed_ascii g)
    → Advances AnyEvents (call_at g c.args.input.bytes.now) (g.P.CountedPerform.value_of c.args.performer.now)
    (g.P.CountedPerform.value_of c.if-is_printed_ascii.performer) c.args.from (c.loop-position-2.position + 1)
    c.args.self.now c.loop-position-2.self
advances-single_byte g c =
    let reads_on = c.loop-position-2.invariant.is_at.reads_on in
    let before_end : c.loop-position-2.position < length c.args.input.bytes.now =
    omega (arith, c.loop-position.invariant.prefix, c.loop-position-2-test.true) in
    let here : MayReadByte (call_at g c.args.input.bytes.now) (g.P.CountedPerform.value_of c.loop-position-2.performer)
    (Text Empty) c.loop-position-2.self c.loop-position-2.position c.byte_at-byte.result = record {
      in_state = reads_on.settled before_end;
      may_go_on = reads_on.may_go_on;
      before_end = before_end;
      looked_at =
          c.byte_at-byte.ensures.value ∙ c.loop-position.invariant.same _ (omega (arith, c.loop-position-2-test.true));
    } in
    advances-then reads_on.advances (elim c.if-is_printed_ascii.branch [
      | then-is_printed_ascii branch ↦
          rw branch.performer-is (advances-printed here
          (sym c.is_printed_ascii.ensures ∙ branch.if-is_printed_ascii.true) branch.from.ensures
          branch.print_char.ensures.value)
      | else-is_printed_ascii+else-is_lead+else-byte-eq-ESCAPE branch ↦
          let reported = branch.report_lone_byte.ensures in
          rw branch.performer-is (advances-lone here branch.if-byte-eq-ESCAPE.false
          (sym branch.is_lead.ensures ∙ branch.if-is_lead.false) reported.control reported.malformed)
    ])

-- A stop, after what begins with a lead byte and after any other byte.
pub returns-then-terminated-clause-advances : goal.returns-then-terminated-clause-advances
returns-then-terminated-clause-advances g c =
    advances-then c.loop-position-2.invariant.is_at.reads_on.advances
    (advances-without_promise c.read_character-position.ensures.advances)

pub returns-then-terminated-2-clause-advances : goal.returns-then-terminated-2-clause-advances
returns-then-terminated-2-clause-advances g c =
    advances-single_byte g (goal.at.returns-then-terminated-2-clause-advances g c).Joined-is_printed_ascii

-- The next round. Only a longer character can change the state, and does so only with the last bytes of the call.
pub loop-position-2-preserved-then-is_lead : goal.loop-position-2-preserved-then-is_lead
loop-position-2-preserved-then-is_lead g c =
    let reads_on = c.loop-position-2.invariant.is_at.reads_on in
    let read = c.read_character-position.ensures in
    record {
      is_at = record {
        reads_on = record {
          advances = advances-then reads_on.advances (advances-without_promise read.advances);
          may_go_on = search rules;
          settled = λ inside. read.in_text inside;
          spends = search rules;
        };
        looks_at_most = search rules;
      };
      in_order = search rules;
      reads_some = search rules;
    }

pub loop-position-2-preserved : goal.loop-position-2-preserved
loop-position-2-preserved g c =
    let before_end : c.loop-position-2.position < length c.args.input.bytes.now =
    omega (arith, c.loop-position.invariant.prefix, c.loop-position-2-test.true) in
    record {
      is_at = record {
        reads_on = record {
          advances = advances-single_byte g (goal.at.loop-position-2-preserved g c).Joined-is_printed_ascii;
          may_go_on = search rules;
          settled = λ _. c.loop-position-2.invariant.is_at.reads_on.settled before_end;
          spends = search rules;
        };
        looks_at_most = search rules;
      };
      in_order = search rules;
      reads_some = search rules;
    }
