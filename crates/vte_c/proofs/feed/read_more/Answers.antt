-- A call of the parser goes on to the run that it returns, and by this run (`reads_on-to_run`), and reads a byte if it
-- can (`call-reads_some`).
use Rattle.std.proofs.lemmas.List.{take_rest}
use Rattle.vte_c.proofs.Common.{arith, buffers_of, default_limit, drop, length, length-drop, List, resumed_stream, take, ℕ, ◌++◌, ◌-◌, ◌≡◌, ◌≤◌}
use Rattle.vte_c.proofs.feed.read_more.Goals as goal
use Rattle.vte_c.proofs.lemmas.CallSteps.{call-reads_some, Laws, reads_on-to_run}
use Rattle.vte_core.specs.AdvanceToRun.{run_bytes}

pub returns : goal.returns
returns c =
    let call = c.advance_to_run-run in
    let run = call.result in
    let bytes = c.args.bytes.now in
    let rest : List ℕ = drop c.args.from bytes in
    let size = length-drop c.args.from bytes in
    -- The parser receives the rest of the bytes, from `from` on.
    let unread : take (length bytes - c.args.from) rest ≡ rest = take_rest bytes c.args.from in
    let returned = rw unread at call.ensures.returns in
    let begins : c.args.from ≤ length bytes = omega (arith, c.requires.within) in
    -- The steps use these laws of `vte_core`.
    let laws : Laws = record {
      units = c.early_stops.ensures.units default_limit;
      goes_on = c.early_stops.ensures.adds_up default_limit;
      silent = c.opens_silently.ensures default_limit;
    } in
    -- The record of the run is written after what the parser reported.
    let written = c.write_taken.ensures.written in
    record {
      within = omega (arith, returned.is_run.within, c.requires.within);
      reads_on = λ already_read reads. record {
        next = resumed_stream already_read rest run.start ++ run_bytes run;
        reads = rw unread at (call.ensures.reads already_read reads);
        reads_on =
            reads_on-to_run (buffers_of c.args.writer.now) (buffers_of call.new.performer)
            (buffers_of c.write_taken.new.self) already_read bytes c.args.from run laws
            c.requires.has_room begins returned reads c.write_taken.ensures.utf8 written;
      };
      reads_some =
          λ already_read reads are_empty no_stops. call-reads_some (buffers_of c.args.writer.now)
          (buffers_of call.new.performer)
          (buffers_of c.write_taken.new.self) already_read bytes c.args.from run laws
          c.requires.has_room begins returned reads are_empty c.requires.within written no_stops;
    }
