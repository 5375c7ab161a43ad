-- How often input bytes were read and events reported.
--
-- A look is the load of one byte of a call. A word or a block counts its bytes, whatever is done
-- with them: bytes after the end of a run count too. A search counts each byte up to and including
-- the one that it finds, and a copy each byte that it copies. A text that is passed on isn't loaded
-- for that. Each event counts one look, and those of a run together as many as it has bytes.
use Rattle.std.specs.Prelude.{ℕ, ◌+◌}
use Rattle.vte_core.specs.declared.reader.looks.Looks.{Looks}
use Rattle.vte_core.specs.declared.reader.looks.Tally.{Tally}
use Rattle.vte_core.specs.declared.reader.looks.Tally.TheFolds.{fold-Tally}
use Rattle.vte_core.specs.declared.reader.looks.Tally.TheOpen.{Tally-F}
use Rattle.vte_core.specs.declared.reader.Reader.{Reader}

-- The identity: it names an argument of a bound, the looks that a function may take per byte.
abbrev pub per_byte : ℕ → ℕ
per_byte looks = looks

-- The count of the last step, added to the counts before it.
abbrev pub count_step : Tally-F ℕ → ℕ
count_step Tally-F.Start = 0
count_step (Tally-F.Then before count) = before.value + count
count_step (Tally-F.Both before call) = before.value + call.value

-- The looks of all steps of a tally.
abbrev pub look_count : Tally → ℕ
look_count = fold-Tally ℕ count_step

-- The count of a call up to here.
abbrev pub looks_of : Reader → ℕ
looks_of reader = look_count reader.tally.value

-- The count of a parser since it was created.
abbrev pub total_looks : Looks → ℕ
total_looks looks = look_count looks.tally.value
