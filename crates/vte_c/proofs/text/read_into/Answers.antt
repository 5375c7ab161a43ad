-- The text of a chunk has at most eight bytes for each of its own, so there is room for it (`has_text-more`). All
-- chunks together have the text of all bytes read.
use Rattle.std.proofs.lemmas.List.{take_rest}
use Rattle.event_log.proofs.lemmas.Lengths.{text_grows_slowly}
use Rattle.vte_c.proofs.Common.{added, ap, arith, default_limit, drop, flat_map-append, length, length-drop, length-take, plain_text, plain_text_of, refl, sym, take, take-add, written_text_of, WrittenText, ◌*◌, ◌++◌, ◌+◌, ◌-◌, ◌<◌, ◌∙◌, ◌≡◌, ◌≤◌}
use Rattle.vte_c.proofs.lemmas.CallResults.{given-more}
use Rattle.vte_c.proofs.lemmas.Continuations.{continues-added}
use Rattle.vte_c.proofs.lemmas.Stripping.{has_text-more, has_text-nothing}
use Rattle.vte_c.proofs.text.read_into.Goals as goal

pub loop-count-init : goal.loop-count-init
loop-count-init c = record {
  within = omega arith;
  nothing_read = λ at_0. refl;
  written =
      λ stream reads. has_text-nothing (written_text_of c.args.writer.now) c.args.bytes.now
      (c.restore.ensures stream reads);
}

pub loop-count-preserved : goal.loop-count-preserved
loop-count-preserved c =
    let bytes = c.args.bytes.now in
    let count = c.loop-count.count in
    let minimum = c.min-size.result in
    let rest = drop count bytes in
    let left = length-drop count bytes in
    -- The next chunk is the first m of the unread bytes.
    let unread : take (length bytes - count) rest ≡ rest = take_rest bytes count in
    let chunk = take minimum (take (length bytes - count) rest) in
    let at_least : minimum ≤ length rest = omega (arith, c.min-size.ensures, length-take (length bytes - count) rest) in
    let size : length chunk ≡ minimum = rw unread (omega (arith, length-take minimum rest)) in
    let buffer = written_text_of c.loop-count.writer in
    -- The chunk isn't empty, and its text fits, with eight bytes for each of its own.
    let not_empty : 0 < minimum =
    omega (arith, c.min-size.ensures, c.remaining_room.ensures, c.remaining_room-in-loop-count.ensures) in
    let fits : buffer.used + 8 * length chunk ≤ buffer.capacity =
    omega (arith, c.min-size.ensures, c.remaining_room.ensures, c.remaining_room-in-loop-count.ensures) in
    record {
      within = omega (arith, size, at_least);
      nothing_read = λ past_0. absurd (omega arith);
      -- So the text is written after that of the bytes before the chunk.
      written = λ stream reads.
          let has_text = c.loop-count.invariant.written stream reads in
          has_text-more chunk c.requires.is_empty.fits
          (text_grows_slowly (c.bytes_are_brief.ensures default_limit) (stream ++ take count bytes) chunk) has_text
          (rw (size, unread) (take-add count minimum bytes)) fits
          (c.advance_text.ensures.performs (stream ++ take count bytes) has_text.parsed)
          (c.advance_text.ensures.reads (stream ++ take count bytes) has_text.parsed);
    }

pub returns-clause-strips : goal.returns-clause-strips
returns-clause-strips c = λ before stream rest has_stripped.
    let bytes = c.args.bytes.now in
    let count = c.loop-count.count in
    let has_text = c.loop-count.invariant.written has_stripped.already_read has_stripped.reads in
    let text = plain_text (added default_limit has_stripped.already_read (take count bytes)) in
    let text_is = rw c.requires.is_empty.text at (ap (λ (buffer : WrittenText). buffer.text) has_text.holds) in
    let continues = continues-added has_stripped.already_read bytes count in
    record {
      same_name = ap (λ (buffer : WrittenText). buffer.name) has_text.holds;
      used_is =
          omega (
            arith,
            ap (λ (buffer : WrittenText). buffer.used) has_text.holds,
            ap length text_is,
            c.requires.is_empty.used,
          );
      strips = rw text_is
          (given-more text bytes rest count has_stripped
          (c.save.ensures (has_stripped.already_read ++ take count bytes) has_text.parsed)
          (λ more. sym (ap plain_text (continues.added_parts more) ∙ flat_map-append plain_text_of _ _)));
    }
