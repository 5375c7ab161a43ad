-- A digit or a separator is collected, an intermediate too, a marker only at the entry, and any other byte comes too
-- late: by the class of the byte and the part of the head that was reached.
use Rattle.vte_core.proofs.Common.{arith, rules}
use Rattle.vte_core.proofs.head.CollectedHead.collect_head_byte.Goals as goal
use Rattle.vte_core.proofs.lemmas.bytes.Classes.{class-intermediate}
use Rattle.vte_core.proofs.lemmas.fields.Heads.{head-holds, holds-intermediate, holds-marker, holds-parameter, ill_shaped-late, left_is_marker}

pub returns-then-may_have_parameters : goal.returns-then-may_have_parameters
returns-then-may_have_parameters c = search (rules, arith, holds-parameter)

pub returns-then-is_intermediate : goal.returns-then-is_intermediate
returns-then-is_intermediate c = search (rules, arith, class-intermediate, holds-intermediate, head-holds)

pub returns-in-Entry : goal.returns-in-Entry
returns-in-Entry c = search (rules, arith, left_is_marker, holds-marker)

pub returns : goal.returns
returns c = search (rules, arith, ill_shaped-late)
