-- Each round goes on from where the one before stopped (`has_read_on-then`). A round that reads nothing ends the call;
-- the first one does so only if a record that stops was written.
use Rattle.vte_c.proofs.Common.{ap, arith, Buffers, buffers_of, cases_lt, inl, inr, refl, sym, ◌+◌, ◌<◌, ◌∙◌, ◌≡◌}
use Rattle.vte_c.proofs.feed.read_until_full.Goals as goal
use Rattle.vte_c.proofs.lemmas.CallSteps.{has_read_on-nothing, has_read_on-then}

pub loop-position-init : goal.loop-position-init
loop-position-init c =
    record {
      within = omega arith;
      reads_on = λ already_read reads. has_read_on-nothing reads;
      nothing_read = λ at_first. refl;
    }

pub loop-position-preserved : goal.loop-position-preserved
loop-position-preserved c =
    let invariant = c.loop-position.invariant in
    let round = c.read_more-read.ensures in
    record {
      within = omega (arith, round.within);
      reads_on = λ already_read reads.
          let has_read_on = invariant.reads_on already_read reads in
          has_read_on-then has_read_on (sym c.must_return.ensures ∙ c.if-not-must_return.true) round.within
          (round.reads_on has_read_on.next has_read_on.reads);
      nothing_read = λ at_first. absurd (c.if-read-eq0.false (omega (arith, at_first)));
    }

pub returns-then-read-eq0-clause-reads_on : goal.returns-then-read-eq0-clause-reads_on
returns-then-read-eq0-clause-reads_on c = λ already_read reads.
    let has_read_on = c.loop-position.invariant.reads_on already_read reads in
    let round = c.read_more-read.ensures in
    let position : c.loop-position.position + c.read_more-read.result ≡ c.loop-position.position =
    omega (arith, c.if-read-eq0.true) in
    rw position at (has_read_on-then has_read_on (sym c.must_return.ensures ∙ c.if-not-must_return.true) round.within
    (round.reads_on has_read_on.next has_read_on.reads))

pub returns-then-read-eq0-clause-reads_some : goal.returns-then-read-eq0-clause-reads_some
returns-then-read-eq0-clause-reads_some c = λ already_read reads no_stops not_empty.
    let invariant = c.loop-position.invariant in
    let has_read_on = invariant.reads_on already_read reads in
    elim (cases_lt 0 c.loop-position.position) [
      | inl past ↦ past
      | inr at_0 ↦
          let same : buffers_of c.loop-position.writer ≡ buffers_of c.args.writer.now =
          invariant.nothing_read (omega (arith, at_0)) in
          let further : 0 < c.read_more-read.result =
          c.read_more-read.ensures.reads_some has_read_on.next has_read_on.reads (rw same c.requires.are_empty)
          (rw (← ap (λ (stored : Buffers). stored.stop_kinds) same) at no_stops) in
          absurd (omega (arith, further, c.if-read-eq0.true))
    ]
