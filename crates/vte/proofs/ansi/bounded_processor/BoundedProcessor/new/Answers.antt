-- The parser has read nothing, and the memory that it was given stays with the engine.
use Rattle.std.proofs.lemmas.Result.{err_from_is_err_and}
use Rattle.vte.proofs.ansi.bounded_processor.BoundedProcessor.new.Goals as goal
use Rattle.vte.proofs.Common.{ap, Err, HasTextMemory, rules, subst, sym, [], ◌∙◌}
use Rattle.vte.proofs.lemmas.replays.ProcessorAndEngine.{with_memory}

pub new-requires : goal.new-requires
new-requires g c = record { parser_is_new = c.reserve.ensures.reads [] c.new_with_size-parser.ensures }

pub returns : goal.returns
returns g c =
    let reads = c.reserve.ensures.reads [] c.new_with_size-parser.ensures in
    let memory = c.reserve.ensures.memory c.if-not-reserve.false [] reads in
    let has_memory = subst (λ text. HasTextMemory g.row.N text.size) (sym c.in_ok-engine.ensures.text) memory in
    record {
      created = with_memory has_memory c.in_ok-engine.ensures.created;
      hold_invariant = search rules;
      timeout = search rules;
      parses_all = record { timeout = _; processor_is = with_memory has_memory c.in_ok-engine.ensures.created };
    }

pub returns-in_err-engine : goal.returns-in_err-engine
returns-in_err-engine g c =
    let error_is = err_from_is_err_and c.from_residual.result c.from_residual.ensures.1 in
    rw (error_is.1 ∙ ap Err error_is.2) (record {
      created = search rules;
      hold_invariant = search rules;
      timeout = tt;
      parses_all = tt;
    })
