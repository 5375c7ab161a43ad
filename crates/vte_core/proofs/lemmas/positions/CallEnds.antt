-- The position of a parser: where a call starts (`starts-X`), where it stops or ends (`call_ends-X`), and where no
-- character is open (`settles`).
use Rattle.vte_core.proofs.Common.{added, after, arith, ChunkCall, ComesTo, HasReadWithLimit, IsAtPosition, IsInsidePosition, IsSettled, length, List, Machine, ReadsUpTo, resumed_stream, rules, StopsExactly, subst, true, ℕ, ◌++◌, ◌<◌, ◌≡◌, ◌≤◌}
use Rattle.vte_core.proofs.lemmas.fields.PlaceOfState.{is_at-place}
use Rattle.vte_core.proofs.lemmas.positions.Progress.{progress-all, progress-all_read, progress-comes, progress-nothing, progress-settled, progress-starts}
use Rattle.vte_core.proofs.lemmas.positions.SettledStates.{settled-place}
use Rattle.vte_core.proofs.lemmas.shapes.BrokenCharacters.{resumed_stream-all}

-- A settled state has a settled place, so `progress-X` applies.

module _ {V B : Type 0} {call : ChunkCall V} where
  -- ---- from inside a character to where something starts

  -- In a settled state, a position that may be inside a character is not.
  pub settles : {old value : V} {stream : List ℕ} {i : ℕ} {parser : Machine B} → IsSettled parser.state
      → IsInsidePosition call old value stream i parser → IsAtPosition call old value stream i parser
  settles {parser} settled inside =
      let place_is = settled-place parser settled inside.place inside.is_at in
      record {
        place = inside.place;
        is_at = inside.is_at;
        settled = λ _. place_is;
        progress = progress-settled (is_at-place inside.is_at) place_is inside.progress;
      }

  -- At the end of the bytes, a character may stay open.
  pub inside-all : {old value : V} {stream : List ℕ} {i : ℕ} {parser : Machine B}
      → IsInsidePosition call old value stream i parser → length call.bytes ≤ i
      → IsAtPosition call old value stream i parser
  inside-all inside all =
      record {
        place = inside.place;
        is_at = inside.is_at;
        settled = λ before_end. absurd (omega arith);
        progress = progress-all all inside.progress;
      }

  -- The position may be written as another term.
  pub inside-moved : {old value : V} {stream : List ℕ} {i j : ℕ} {parser : Machine B} → i ≡ j
      → IsInsidePosition call old value stream i parser → IsInsidePosition call old value stream j parser
  inside-moved {old} {value} {stream} {parser} same inside = search (rules, arith)

  -- ---- the start and the end of a call

  -- A call starts at position 0, maybe inside a character that an earlier call began.
  pub starts-inside : {old : V} {stream : List ℕ} {parser : Machine B} → HasReadWithLimit call.limit parser stream
      → IsInsidePosition call old old stream 0 parser
  starts-inside has_read = record {
    place = has_read.place;
    is_at = has_read.is_at;
    progress = progress-nothing has_read.is_after;
  }

  -- In a settled state, it starts where something starts.
  pub starts-at : {old : V} {stream : List ℕ} {parser : Machine B} → IsSettled parser.state
      → HasReadWithLimit call.limit parser stream → IsAtPosition call old old stream 0 parser
  starts-at settled has_read = settles settled (starts-inside has_read)

  -- A call that is at a position has come there (`ComesTo`).
  pub call_ends-comes : {old value : V} {stream : List ℕ} {n : ℕ} {parser : Machine B} → call.may_stop ≡ true
      → n ≤ length call.bytes → IsAtPosition call old value stream n parser
      → ComesTo call.step call.is_terminated old call.limit stream call.bytes value n
  call_ends-comes {parser} may_stop within position =
      progress-comes may_stop within
      (λ left. progress-starts (is_at-place position.is_at)
      (position.settled left) left position.progress) position.progress

  -- If it is terminated there, or there is no more to read, it stopped where it must (`StopsExactly`).
  pub call_ends-stops : {old value : V} {stream : List ℕ} {n : ℕ} {parser : Machine B} → call.may_stop ≡ true
      → n ≤ length call.bytes → (n < length call.bytes → call.is_terminated value ≡ true)
      → IsAtPosition call old value stream n parser
      → StopsExactly call.step call.is_terminated old call.limit stream call.bytes value n
  call_ends-stops may_stop within stops position =
      record {
        comes = call_ends-comes may_stop within position;
        stops = stops;
        all = λ all. progress-all_read all position.progress;
      }

  -- The parser has read what the next call continues.
  pub call_ends-reads : {old value : V} {stream : List ℕ} {n : ℕ} {parser : Machine B}
      → IsAtPosition call old value stream n parser
      → HasReadWithLimit call.limit parser (resumed_stream stream call.bytes n)
  call_ends-reads position = record {
    place = position.place;
    is_at = position.is_at;
    is_after = position.progress.is_after;
  }

  -- A call at the position after all bytes has reported all their events.
  pub call_ends-performs : {old value : V} {stream : List ℕ} {n : ℕ} {parser : Machine B} → n ≡ length call.bytes
      → IsAtPosition call old value stream n parser → value ≡ after call.step old (added call.limit stream call.bytes)
  call_ends-performs all position = progress-all_read all position.progress

  -- After all bytes, the parser has read the stream with these bytes.
  pub call_ends-reads_all : {old value : V} {stream : List ℕ} {n : ℕ} {parser : Machine B} → n ≡ length call.bytes
      → IsAtPosition call old value stream n parser → HasReadWithLimit call.limit parser (stream ++ call.bytes)
  call_ends-reads_all {stream} {n} {parser} all position =
      subst (HasReadWithLimit call.limit parser) (resumed_stream-all stream call.bytes n all) (call_ends-reads position)

  -- ---- where the loop of a call ends: at a stop, or with all bytes read

  pub call_ends-at_stop : {old value : V} {n : ℕ} {before parser : Machine B} → call.may_stop ≡ true
      → call.is_terminated value ≡ true → n ≤ length call.bytes
      → ((stream : List ℕ) → HasReadWithLimit call.limit before stream → IsAtPosition call old value stream n parser)
      → ReadsUpTo call old value n before parser
  call_ends-at_stop may_stop stopped within is_at = search (rules, arith)

  pub call_ends-with_all : {old value : V} {n : ℕ} {before parser : Machine B} → n ≡ length call.bytes
      → ((stream : List ℕ) → HasReadWithLimit call.limit before stream → IsAtPosition call old value stream n parser)
      → ReadsUpTo call old value n before parser
  call_ends-with_all all is_at = search (rules, arith)
