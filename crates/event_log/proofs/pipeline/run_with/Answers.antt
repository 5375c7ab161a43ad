-- All that was read is written (`HasReadPart`), so a log that ends has written the text of a prefix of the input, or of
-- all of it (`Progress`).
use Rattle.event_log.proofs.Common.{arith, default_limit, Err, false, inl, inr, is_err, length, length-take-le, Ok, OnOk, refl, Result, sym, take, ◌<◌, ◌∙◌, ◌≡◌}
use Rattle.event_log.proofs.lemmas.Progress.{run-begins, run-reads_more, run_ends-at_prefix, run_ends-with_all}
use Rattle.event_log.proofs.pipeline.run_with.Goals as goal

-- If the result isn't an error, what is said of an `Ok` holds.
ok-without_error : {T E P : Type 0} (result : Result T E) → is_err result ≡ false → OnOk result P → P
ok-without_error (Ok value) works holds = holds
ok-without_error (Err error) works holds = absurd (let impossible : ⊥ = cc in impossible)

-- Before the first read, nothing was read.
pub loop-init : goal.loop-init
loop-init g c = record {
  reads = record { already_read = _; parsed = c.new-parser.ensures };
  empty = c.requires.holds_nothing;
  reads_part =
      λ input old_contents input_known contents_known.
      run-begins (c.empty_stream.ensures default_limit) input_known contents_known c.new-parser.ensures;
}

-- A read has failed.
pub returns-in_default-clause-texts : goal.returns-in_default-clause-texts
returns-in_default-clause-texts g c = λ input old_contents input_known contents_known.
    run_ends-at_prefix (c.loop.invariant.reads_part input old_contents input_known contents_known)
    c.in_default.ensures.none_taken
    (inl (sym c.in_default.ensures.fails))

-- A read has given nothing: the input has ended.
pub returns-then-count-eq0-clause-texts : goal.returns-then-count-eq0-clause-texts
returns-then-count-eq0-clause-texts g c = λ input old_contents input_known contents_known.
    let none_read = rw c.if-count-eq0.true at c.in-Ok.ensures.moves in
    let none_remaining = c.in-Ok.ensures.end c.if-count-eq0.true (omega arith) in
    run_ends-with_all (c.loop.invariant.reads_part input old_contents input_known contents_known)
    none_read none_remaining

-- A chunk was read, and is written.
pub loop-preserved : goal.loop-preserved
loop-preserved g c =
    let works = sym c.is_err.ensures.value ∙ c.if-is_err.false in
    let chunk = c.write_chunk in
    record {
      reads = ok-without_error chunk.result works chunk.ensures.reads;
      empty = ok-without_error chunk.result works chunk.ensures.empties;
      reads_part = λ input old_contents input_known contents_known.
          let count = c.in-Ok.count in
          let not_empty : 0 < length (take count c.read.new.buffer) =
          omega (arith, length-take-le count c.read.new.buffer c.in-Ok.ensures.bound) in
          run-reads_more (take count c.read.new.buffer)
          (c.loop.invariant.reads_part input old_contents input_known contents_known)
          c.in-Ok.ensures.moves not_empty
          (λ total_text has_written. ok-without_error chunk.result works (chunk.ensures.writes total_text has_written));
    }

-- The loop also ends after as many reads as there may be.
pub returns-clause-texts : goal.returns-clause-texts
returns-clause-texts g c = λ input old_contents input_known contents_known.
    let has_read = c.loop.invariant.reads_part input old_contents input_known contents_known in
    run_ends-at_prefix has_read (rw has_read.rest_is refl) (inr c.loop-test.false)
