-- The block is the prefix of the bytes from a position on.
use Rattle.vte_core.proofs.lemmas.bytes.Each.{prefix-block}
use Rattle.vte_core.proofs.reader.Reader.get_block.Goals as goal

pub returns : goal.returns
returns g c =
    let prefix = prefix-block _ _ c.args.from g.row.N c.requires c.in_ok-block.ensures.cases in
    (prefix.0, prefix.1, c.count_looks.ensures)
