-- How far the function of a state reads, and what that costs: looks at bytes, and memory.
use Rattle.std.specs.Prelude.{IfErr, IfOk, length, List, Result, ℕ, ◌*◌, ◌+◌, ◌<◌, ◌≡◌, ◌≤◌}
use Rattle.vte_core.specs.declared.parser.machine.Machine.{Machine}
use Rattle.vte_core.specs.declared.parser.refused.Refused.{Refused}
use Rattle.vte_core.specs.declared.reader.Reader.{Reader}
use Rattle.vte_core.specs.LongParser.{read_count}
use Rattle.vte_core.specs.Looks.{looks_of, per_byte}
use Rattle.vte_core.specs.private.Progress.{ChunkCall, IsRefusedInCommand, IsSettled, MayGoOn, ReadsUntilRefused, ReadsUpTo}

-- ---- where the looks go

-- A byte takes at most
--   3 in text by characters, and 1 more if ESC is searched
--   3 in a sequence
--   4 if the end of a run is searched, and 1 for its event: 5, the rate of a call
--   4 if a call that returns runs finds none, and 3 to be read: 7, the rate of that call
--
-- The search of a run is counted in thirds of looks: 11 per byte, 12 for the character that ends
-- it and, if it is long, 66 for its blocks: 3 × (3 + 19), for the three bytes before them and for
-- the window in which the run ends. At 4 looks per byte, 66 bytes pay for these: 66 × 12 is
-- 66 × 11 + 66.

-- ---- bounds of functions

-- The identity: it names an argument of a bound, the looks that the caller took.
abbrev pub caller_looks : ℕ → ℕ
caller_looks looks = looks

-- The identity: it names an argument of a bound, the looks at bytes left unread.
abbrev pub lookahead : ℕ → ℕ
lookahead looks = looks

-- The bounds of a function that may read nothing, from position i to position j. It takes at least
-- one look per byte, and at most `rate` and `ahead` more, at bytes left unread. Of these the caller
-- has `taken` those at the first bytes, by which it chose this function. No memory is freed.
pub record SpendsWithin (rate taken ahead : ℕ) {B : Type 0} (bytes : List ℕ) (i j : ℕ)
    (parser next : Machine B) (old_reader new_reader : Reader) : Type 0 where
  pub in_order : i ≤ j
  pub within : j ≤ length bytes
  pub looks_at_most : looks_of new_reader + rate * i + taken
      ≤ looks_of old_reader + rate * j + ahead
  pub looks_at_least : looks_of old_reader + j ≤ looks_of new_reader + i + taken
  pub keeps_memory : parser.command.capacity ≤ next.command.capacity

-- The bounds of each state's function, which reads a byte if there is one.
pub record ReadsWithin (rate taken : ℕ) {B : Type 0} (bytes : List ℕ) (i j : ℕ)
    (parser next : Machine B) (old_reader new_reader : Reader) : Type 0 where
  pub spends : SpendsWithin rate taken 0 bytes i j parser next old_reader new_reader
  pub reads_some : i < length bytes → i < j

-- The bounds of a function that handles a byte at which its caller looked: no character is open
-- afterwards, and it takes at most `most` looks.
pub record HandlesByteWithin (most : ℕ) {B : Type 0} (parser next : Machine B)
    (old_reader new_reader : Reader) : Type 0 where
  pub settled : IsSettled next.state
  pub looks_at_most : looks_of new_reader ≤ looks_of old_reader + most
  pub looks_at_least : looks_of old_reader ≤ looks_of new_reader
  pub keeps_memory : parser.command.capacity ≤ next.command.capacity

-- The bounds of a call with this result, which read n of its bytes: at most `rate` looks per byte
-- read and 8 more. If memory was refused, the bytes left unread count too.
pub record Costs (rate : ℕ) {Answer B : Type 0} (bytes : List ℕ) (result : Result Answer Refused)
    (n : ℕ) (parser next : Machine B) (old_looks new_looks : ℕ) : Type 0 where
  pub looks_at_most : new_looks ≤ old_looks + rate * length bytes + 8
  pub looks_at_most_if_ok : IfOk result (λ _. new_looks ≤ old_looks + rate * n + 8)
  pub looks_at_least : old_looks + n ≤ new_looks
  pub keeps_memory : parser.command.capacity ≤ next.command.capacity

-- What a call ensures of this result, which is how many bytes it read, or that memory was refused.
pub record ReadsCall {V B : Type 0} (call : ChunkCall V) (old new : V) (result : Result ℕ Refused)
    (parser next : Machine B) (old_looks new_looks : ℕ) : Type 0 where
  pub reads : IfOk result (λ read. ReadsUpTo call old new read parser next)
  pub refuses : IfErr result (λ refused. ReadsUntilRefused call old new refused.read parser next)
  pub costs : Costs (per_byte 5) call.bytes result (read_count result) parser next old_looks
      new_looks

-- The bounds of a function that reads nothing at position i, because memory was refused. It
-- searched for the end of the data: it took at least one look, and at most one for each byte from
-- there on.
pub record IsRefusedAt {V B : Type 0} (call : ChunkCall V) (value : V) (i read : ℕ)
    (parser next : Machine B) (old_reader new_reader : Reader) : Type 0 where
  pub stays : read ≡ i
  pub refused : IsRefusedInCommand call.limit next.state next.command call.bytes read
  pub may_go_on : MayGoOn call value
  pub looks_at_least : looks_of old_reader < looks_of new_reader
  pub looks_at_most : looks_of new_reader + i ≤ looks_of old_reader + length call.bytes
  pub keeps_memory : parser.command.capacity ≤ next.command.capacity
