-- Each block is the prefix of the bytes from its place on.
use Rattle.std.proofs.lemmas.List.{drop-take, take-take}
use Rattle.vte_core.proofs.Common.{ap, arith, drop, drop-drop, List, take, ℕ, ◌+◌, ◌∙◌, ◌≡◌, ◌≤◌}
use Rattle.vte_core.proofs.lemmas.bytes.Each.{prefix-block}
use Rattle.vte_core.proofs.reader.Reader.get_window.Goals as goal

block-part : (bytes all block : List ℕ) (from i rest : ℕ) → all ≡ take (i + rest) (drop from bytes) → 16 ≤ rest
    → block ≡ take 16 (take rest (drop i all)) → block ≡ take 16 (drop (from + i) bytes)
block-part bytes all block from i rest all_is far same =
    same ∙ take-take 16 rest (drop i all) far ∙ ap (λ bytes. take 16 (drop i bytes)) all_is
    ∙ ap (take 16) (drop-take i rest (drop from bytes)) ∙ take-take 16 rest (drop i (drop from bytes)) far
    ∙ ap (take 16) (drop-drop i from bytes)

pub returns : goal.returns
returns c =
    let bytes = c.args.input.bytes.now in
    let here = c.in_ok-bytes.bytes.now in
    let all = prefix-block _ _ c.args.from 19 c.requires c.in_ok-bytes.ensures.cases in (
      record {
        within = all.0;
        three_back =
            c.in_ok-first_chunk.ensures.cases.same ∙ ap (take 16) all.1
            ∙ take-take 16 19 (drop c.args.from bytes) (omega arith);
        two_back =
            block-part bytes here _ c.args.from 1 18 all.1 (omega arith) c.in_ok-first_chunk-2.ensures.cases.same;
        one_back =
            block-part bytes here _ c.args.from 2 17 all.1 (omega arith) c.in_ok-first_chunk-3.ensures.cases.same;
        current =
            block-part bytes here _ c.args.from 3 16 all.1 (omega arith) c.in_ok-first_chunk-4.ensures.cases.same;
      },
      c.count_looks.ensures,
    )
