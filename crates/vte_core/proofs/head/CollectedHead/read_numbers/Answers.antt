-- A digit makes the open number longer, a separator stores it and opens another: so the head is read byte by byte. At
-- the end either no byte was read, and the part of the head is the old one, or it is that of parameters.
use Rattle.vte_core.proofs.Common.{arith, class_of, false≢true, refl, rules, sym, ◌∙◌, ◌≡◌}
use Rattle.vte_core.proofs.head.CollectedHead.read_numbers.Goals.{in-Read, in-Some, in_default+then-matches+then-byte-eq59, in_default-matches}
use Rattle.vte_core.proofs.head.CollectedHead.read_numbers.Goals as goal
use Rattle.vte_core.proofs.lemmas.fields.Heads.{counts-digit, counts-separator}
use Rattle.vte_core.proofs.lemmas.positions.HeadStretches.{progress_after-more, progress_after-none, reads_head-nothing, reads_head-parameter}
use Rattle.vte_core.specs.declared.head.Separators.TheVariants.{Read}

-- At first, no byte is read.
pub loop-position-init : goal.loop-position-init
loop-position-init c = search (rules, arith, progress_after-none, reads_head-nothing)

-- A digit, or a separator that is no first byte.
pub loop-position-preserved : goal.loop-position-preserved
unfolding class_of
loop-position-preserved c =
    let invariant = c.loop-position.invariant in
    let collected = c.loop-position.self in
    record {
      reads = elim c.match-digit_of.branch [
        -- The byte is a digit.
        | in-Some branch ↦
            let digit = rw branch.in-Some.is at c.digit_of.ensures in
            rw (branch.self-is, branch.number-is)
            (reads_head-parameter c.requires.may_have_parameters (omega arith) c.byte_at-byte.ensures.value digit.3
            (record { intermediates = refl; too_many_intermediates = refl })
            (λ text k.
            counts-digit c.byte_at-byte.result k digit.0 digit.1 refl refl
            (omega (arith, branch.with_digit-number.ensures, digit.2))) invariant.reads)
        -- The byte is a separator.
        | in_default+then-matches+then-byte-eq59 branch ↦
            let stored = branch.store_number.ensures in
            let is_semicolon : c.byte_at-byte.result ≡ 59 = branch.if-byte-eq59.true in
            let reads_separators : c.args.separators ≡ Read = elim branch.match-matches.branch [
              | in-Read given ↦ given.in-Read.is
              | in_default-matches given ↦ absurd (false≢true (sym given.matches-is ∙ branch.if-matches.true))
            ] in
            let alone = stored.joined ∙ invariant.joined
            ∙ c.requires.separators_only_if_not_joined reads_separators in
            rw (branch.self-is, branch.number-is)
            (reads_head-parameter c.requires.may_have_parameters (omega arith) c.byte_at-byte.ensures.value
            (rw is_semicolon refl)
            (record {
              intermediates = stored.same_intermediates.intermediates;
              too_many_intermediates =
                  stored.same_intermediates.too_many_intermediates;
            })
            (λ text k. counts-separator c.byte_at-byte.result k (stored.holds text k)
            (rw is_semicolon refl) refl (alone ∙ rw is_semicolon refl) refl) invariant.reads)
      ];
      looks = omega arith;
      no_next = invariant.no_next;
      small = search rules;
      joined = elim c.match-digit_of.branch [
        | in-Some branch ↦ rw branch.self-is invariant.joined
        | in_default+then-matches+then-byte-eq59 branch ↦ rw branch.self-is
            (branch.store_number.ensures.joined ∙ invariant.joined)
      ];
    }

-- Some bytes were read: the part of the head is that of parameters.
pub returns-then-position-from-clause-reads : goal.returns-then-position-from-clause-reads
returns-then-position-from-clause-reads c = search (rules, arith, progress_after-more)

-- If no byte was read, the progress stays.
pub returns-else-position-from-clause-reads : goal.returns-else-position-from-clause-reads
returns-else-position-from-clause-reads c = search (rules, arith, progress_after-none)
