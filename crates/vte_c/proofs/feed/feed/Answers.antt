-- The caller's counts and slices are those of the writer (`counts-of_writer`). So what `read_into` ensures, of the
-- bytes that 32 bits can count, holds for the caller (`got-first`).
use Rattle.vte_c.proofs.Common.{append_assoc, arith, bytes_read, drop, Event, HasReported, length, length-take, List, sym, take, take-append-drop, take-take, ℕ, [], ◌++◌, ◌<◌, ◌∙◌, ◌≡◌, ◌≤◌}
use Rattle.vte_c.proofs.feed.feed.Goals as goal
use Rattle.vte_c.proofs.lemmas.CallResults.{bytes_read-with_room, counts-of_writer, got-first}

pub returns : goal.returns
returns c =
    let bytes = c.args.bytes.now in
    let minimum = c.min-end.result in
    let read = c.read_into-read in
    let kinds = c.new-writer.ensures.kinds in
    let stop_kinds = c.new-writer.ensures.stop_kinds in
    -- The call reads from the first m bytes: all of them, or as many as 32 bits can count.
    let parts : take minimum bytes ++ drop minimum bytes ≡ bytes = take-append-drop minimum bytes in
    let within : read.result ≤ length (take minimum bytes) = read.ensures.within in
    let at_most : read.result ≤ minimum = omega (arith, within, length-take minimum bytes) in
    -- So the count that it returns isn't that of a call without room.
    let count : bytes_read read.result ≡ read.result =
    bytes_read-with_room read.result (omega (arith, at_most, c.min-end.ensures)) in
    -- Whatever was reported before, and whatever follows, the caller gets what `read_into` feeds.
    let got =
    λ (given : List Event) (stream rest : List ℕ)
    (has_reported : HasReported c.args.kinds c.args.parser.now given stream (bytes ++ rest)).
    let fed =
    read.ensures.feeds given stream (drop minimum bytes ++ rest)
    (rw (kinds, ← append_assoc (take minimum bytes), parts) has_reported) in
    let of_writer =
    counts-of_writer read.new.writer c.min.result c.min-2.result (fed.encodes [])
    (c.events-1.given.1.1 (sym (fed.same_records_name ∙ c.new-writer.ensures.same_records_name)))
    (c.data_area-1.given.1.1 (sym (fed.same_area_name ∙ c.new-writer.ensures.same_area_name)))
    (omega (arith, c.min.ensures, c.record_count.ensures, c.events-1.given.1.0))
    (omega (arith, c.min-2.ensures, c.data_used.ensures, c.data_area-1.given.1.0)) in
    rw (kinds, stop_kinds) at
    (got-first minimum bytes rest fed of_writer within
    (λ (some_bytes : 0 < length bytes). omega (arith, c.min-end.ensures, some_bytes))) in
    record {
      returns_bytes_read = λ most size. sym count;
      within = omega (arith, count, at_most, c.min-end.ensures);
      exact = λ given stream rest has_reported. rw count (got given stream rest has_reported).exact;
      encoded = λ given stream rest has_reported. (got given stream rest has_reported).encoded;
      fits = (
        omega (arith, c.min.ensures, c.events-1.given.1.0),
        omega (arith, c.min-2.ensures, c.data_area-1.given.1.0),
      );
      -- On this path there is enough room.
      too_few = λ few. absurd (omega arith);
      too_little = λ little. absurd (omega arith);
      reads_some = λ given stream rest has_reported most size. (got given stream rest has_reported).reads_some;
      at_most_one_follows = λ given stream rest has_reported. (got given stream rest has_reported).at_most_one_follows;
      -- A prefix of the bytes that were read is also one of the first m bytes.
      stops_at_once = λ stream reads not_text not_data i earlier.
          let front = take-take i minimum bytes (omega (arith, count, at_most)) in
          rw (kinds, stop_kinds, front) at (read.ensures.stops_at_once stream reads
          (rw (kinds, stop_kinds) (not_text, not_data)) i (rw count at earlier));
    }
