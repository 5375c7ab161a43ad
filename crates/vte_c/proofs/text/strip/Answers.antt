-- The caller's slice and count are those of the writer, so what `read_into` ensures holds for the caller.
use Rattle.vte_c.proofs.Common.{ap, arith, bytes_read, length, length-take, List, rules, sym, ℕ, ◌++◌, ◌≡◌, ◌≤◌}
use Rattle.vte_c.proofs.lemmas.CallResults.{bytes_read-with_room}
use Rattle.vte_c.proofs.text.strip.Goals as goal
use Rattle.vte_c.specs.Reported.{HasStripped}

pub returns : goal.returns
returns c =
    let read = c.read_into-read in
    let used : ℕ = read.new.writer.used in
    let count : bytes_read read.result ≡ read.result = bytes_read-with_room read.result (omega arith) in
    -- The slice holds what the writer's does, and all that was written is in it.
    let of_writer =
    λ (text stream rest : List ℕ) (has_stripped : HasStripped c.args.parser.now text stream (c.args.bytes.now ++ rest)).
    let strips = read.ensures.strips text stream rest has_stripped in
    let same_text : c.text-1.given.0 ≡ read.new.writer.bytes.now = c.text-1.given.1.1 (sym strips.same_name) in
    let within : used ≤ length c.args.text.now =
    omega
    (arith, strips.used_is, length-take used read.new.writer.bytes.now, ap length same_text, c.text-1.given.1.0) in
    let both : (c.text-1.given.0 ≡ read.new.writer.bytes.now) × (used ≤ length c.args.text.now) = (same_text, within) in
    both in
    record {
      returns_bytes_read = λ size. sym count;
      within = omega (arith, count, read.ensures.within);
      reads_some = search rules;
      fills = λ text stream rest has_stripped size less.
          let same = of_writer text stream rest has_stripped in
          omega (arith, read.ensures.fills less, ap length same.0, c.min.ensures, same.1);
      exact = λ text stream rest has_stripped.
          let same = of_writer text stream rest has_stripped in
          let written : c.min.result ≡ used = omega (arith, c.min.ensures, same.1) in
          rw (count, written, same.0) (read.ensures.strips text stream rest has_stripped).strips;
      fits = omega (arith, c.min.ensures, c.text-1.given.1.0);
      too_little = search rules;
    }
