-- A byte that passes joins those before it (`each-next`).
use Rattle.vte_core.proofs.Common.{and_parts, arith, nat_tests, refl, slice_index, ℕ, ◌||◌}
use Rattle.vte_core.proofs.lemmas.bytes.Each.{each-next}
use Rattle.vte_core.proofs.reader.run_blocks.are_printed_or_layout.Goals as goal
use Rattle.vte_core.specs.private.Automaton.{StaysBetweenCharacters}

pub loop-byte-preserved : goal.loop-byte-preserved
loop-byte-preserved c = λ all.
    let block = c.args.block.now in
    let byte : ℕ = slice_index block c.loop-byte.byte-index in
    let parts =
    and_parts c.loop-byte.all (c.is_printed_ascii.result || c.is_layout.result) all in
    let printed = c.is_printed_ascii.ensures in
    let layout = c.is_layout.ensures in
    each-next StaysBetweenCharacters block 0 c.loop-byte.byte-index byte (c.loop-byte.invariant parts.0) refl (
      grind (arith, nat_tests, parts.1, printed, layout),
      grind (arith, nat_tests, parts.1, printed, layout),
    )
