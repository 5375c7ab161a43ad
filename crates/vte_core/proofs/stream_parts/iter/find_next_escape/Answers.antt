-- What `memchr` finds from the start of the search on.
use Rattle.vte_core.proofs.Common.{arith, rules, take_rest}
use Rattle.vte_core.proofs.lemmas.streams.Parts.{escape_found, escape_missing}
use Rattle.vte_core.proofs.stream_parts.iter.find_next_escape.Goals as goal

pub returns-in-Some-clause-value : goal.returns-in-Some-clause-value
returns-in-Some-clause-value c = search (rules, arith, escape_found, take_rest)

pub returns-in-None-clause-value : goal.returns-in-None-clause-value
returns-in-None-clause-value c =
    escape_missing c.args.from c.args.stream.now _ c.min-from.ensures (take_rest c.args.stream.now c.min-from.result)
    c.in-None.ensures
