-- A block whose bytes all fit is skipped. The run ends before the character that the last bytes leave open.
use Rattle.vte_core.proofs.Common.{arith, cases_lt, drop, false, false≢true, get_or-drop, inl, inr, looks_of, rules, subst, sym, ◌+◌, ◌-◌, ◌<◌, ◌∙◌, ◌≡◌, ◌≤◌}
use Rattle.vte_core.proofs.lemmas.automaton_states.Scanned.{run-kept}
use Rattle.vte_core.proofs.lemmas.automaton_states.Windows.{above-window, allowed-ascii, leads-window, run-before-open}
use Rattle.vte_core.proofs.lemmas.bytes.Runs.{run-none}
use Rattle.vte_core.proofs.reader.Reader.skip_run_blocks.Goals.{else-is_ascii, else-layout, Joined-is_ascii, then-is_ascii, then-layout}
use Rattle.vte_core.proofs.reader.Reader.skip_run_blocks.Goals as goal
use Rattle.vte_core.specs.private.Runs.{Each}

pub returns-then-count_open_bytes-gt0-clause-scans : goal.returns-then-count_open_bytes-gt0-clause-scans
returns-then-count_open_bytes-gt0-clause-scans c = search (rules, arith, run-none)

pub overflow_add-ascii_blocks : goal.overflow_add-ascii_blocks
overflow_add-ascii_blocks c = omega (arith, c.loop-window.invariant.blocks_fit, c.loop-window.auto.end-fits)

-- A round counts at most one block of ASCII.
blocks-at_most : (c : Joined-is_ascii) → c.if-is_ascii.ascii_blocks ≤ c.loop-window.ascii_blocks + 1
blocks-at_most c = elim c.if-is_ascii.branch [
  | then-is_ascii branch ↦ omega (arith, branch.ascii_blocks-is)
  | else-is_ascii branch ↦ omega (arith, branch.ascii_blocks-is)
]

pub loop-window-preserved : goal.loop-window-preserved
loop-window-preserved c =
    let invariant = c.loop-window.invariant in
    let window = c.in-Some.ensures.0 in
    let count = c.in-Some.ensures.1 in
    let early = c.requires.has_three_before in
    let fits = c.continues_run.ensures c.if-not-continues_run.false in
    record {
      in_order = omega (arith, invariant.in_order);
      within = omega (arith, early, invariant.in_order, window.within);
      leads = leads-window early invariant.in_order window fits invariant.leads;
      kept = λ no_layout. above-window early invariant.in_order window fits no_layout (invariant.kept no_layout);
      whole = λ _. omega (arith, invariant.in_order);
      looks_at_least = omega (arith, invariant.looks_at_least, count);
      no_looks = λ unmoved. absurd (omega (arith, unmoved, invariant.in_order));
      looks_at_most = λ _. elim (cases_lt c.args.from c.loop-window.end) [
        | inl past ↦ omega (arith, invariant.looks_at_most past, count)
        | inr here ↦ omega (
          arith,
          here,
          invariant.no_looks (omega (arith, here, invariant.in_order)),
          invariant.in_order,
          count,
        )
      ];
      blocks_fit = omega (
        arith,
        blocks-at_most (goal.at.loop-window-preserved c).Joined-is_ascii,
        invariant.blocks_fit,
      );
      early = λ unmoved. absurd (omega (arith, unmoved, invariant.in_order));
    }

pub loop-window-preserved-then-ascii_blocks-enough : goal.loop-window-preserved-then-ascii_blocks-enough
loop-window-preserved-then-ascii_blocks-enough c =
    let invariant = c.loop-window.invariant in
    let window = c.in-Some.ensures.0 in
    let count = c.in-Some.ensures.1 in
    let fits = c.continues_run.ensures c.if-not-continues_run.false in
    let ascii = c.skip_ascii_blocks-end.ensures in
    let blocks =
    blocks-at_most (goal.at.loop-window-preserved-then-ascii_blocks-enough c).Joined-is_ascii in
    -- Larger blocks are tried only after some blocks of ASCII, so not in the first round.
    let past : c.args.from < c.loop-window.end = elim (cases_lt c.args.from c.loop-window.end) [
      | inl past ↦ past
      | inr here ↦
          absurd
          (omega (
            arith,
            blocks,
            c.if-ascii_blocks-enough.true,
            invariant.early (omega (arith, here, invariant.in_order)),
          ))
    ] in
    record {
      in_order = omega (arith, invariant.in_order, ascii.in_order);
      within = ascii.within;
      -- The window leads on from the bytes before it, and the larger blocks of ASCII from the window.
      leads =
          allowed-ascii c.args.input.bytes.now c.args.from (c.loop-window.end + 16)
          c.skip_ascii_blocks-end.result (omega (arith, invariant.in_order)) ascii.in_order ascii.within
          (leads-window c.requires.has_three_before invariant.in_order window fits invariant.leads) ascii.none_open
          ascii.stays_between;
      -- Without layout, larger blocks are never tried, as `enough` is then out of reach.
      kept = λ no_layout. elim c.if-layout.branch [
        | then-layout branch ↦ absurd (false≢true (sym no_layout ∙ branch.if-layout.true))
        | else-layout branch ↦
            absurd
            (omega (
              arith,
              branch.enough-is,
              c.if-ascii_blocks-enough.true,
              blocks,
              invariant.blocks_fit,
              ascii.in_order,
              c.skip_ascii_blocks-end.type_inv,
            ))
      ];
      whole = λ _. omega (arith, invariant.in_order, ascii.in_order);
      looks_at_least = omega (arith, invariant.looks_at_least, count, ascii.looks_at_least);
      no_looks = λ unmoved. absurd (omega (arith, unmoved, invariant.in_order, ascii.in_order));
      looks_at_most = λ _. omega (arith, invariant.looks_at_most past, count, ascii.looks_at_most, ascii.in_order);
      blocks_fit = omega arith;
      early = λ _. omega arith;
    }

pub returns-then-end-from-clause-scans : goal.returns-then-end-from-clause-scans
returns-then-end-from-clause-scans c =
    let looks_at_least : looks_of c.loop-window.self ≤ looks_of c.get_window.new.self = search rules in
    record {
      in_order = omega arith;
      within = c.requires.within;
      passed = run-none c.args.layout c.args.input.bytes.now c.args.from;
      looks_at_least =
          omega (
            arith,
            looks_at_least,
            c.loop-window.invariant.looks_at_least,
            c.count_open_bytes.ensures.looks_at_least,
            c.loop-window.invariant.in_order,
          );
    }

-- The run ends with its last whole character, before the bytes that are still open.
pub returns-clause-scans : goal.returns-clause-scans
returns-clause-scans c =
    let invariant = c.loop-window.invariant in
    let bytes = c.args.input.bytes.now in
    let text = drop c.args.from bytes in
    let end = c.loop-window.end in
    -- At least one block was read.
    let whole : c.args.from + 16 ≤ end = invariant.whole (omega (arith, invariant.in_order, c.if-end-from.false)) in
    -- The bytes before those that are still open are a run that may have layout.
    let last =
    run-before-open bytes c.args.from end (omega (arith, whole)) invariant.within invariant.leads
    c.count_open_bytes-2.result c.count_open_bytes-2.ensures.value in
    -- If layout isn't kept, no byte of the blocks is below 20.
    let kept : c.args.layout ≡ false → Each (λ byte. 0x20 ≤ byte) text 0 (end - c.args.from) =
    λ no_layout k _ low.
    subst (λ byte. 0x20 ≤ byte) (sym (get_or-drop c.args.from bytes k 0))
    (invariant.kept no_layout (c.args.from + k) (omega arith) (omega (arith, low))) in
    let looks_at_least : looks_of c.loop-window.self ≤ looks_of c.get_window.new.self = search rules in
    -- So the bytes before those that are open are a run, whether layout is kept or not (`run-kept`).
    record {
      in_order = omega (arith, whole, last.0);
      within = omega (arith, invariant.within);
      passed =
          run-kept c.args.layout text (end - c.args.from) (end - c.count_open_bytes-2.result - c.args.from) kept
          (omega (arith, whole, last.0)) last.1;
      looks_at_least = omega (
        arith,
        invariant.looks_at_least,
        looks_at_least,
        c.count_open_bytes.ensures.looks_at_least,
        c.count_open_bytes-2.ensures.looks_at_least,
        last.0,
        whole,
      );
    }
