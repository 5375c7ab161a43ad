-- A parsing turn by its slices. Slices in which no update begins add up to a longer prefix (`parsing-more`), so the
-- turn ends where the prefix of the whole does: with all bytes (`parsing-all`) or a begin (`parsing-ends`). If memory
-- for a slice is refused, `ParsingTurnIsRefused` says how far it came (`parsing-refused`).
use Rattle.vte.proofs.Common.{added, ap, append-nil, append_assoc, arith, begin_count, Bool, drop, drop_all, false, HasParsedPrefix, HasParsedWithoutBegin, HasTakenParsingTurn, length, length-append, length-drop, length-take-le, List, Meaning, nat_lt, nat_tests, parse, ParsingTurnIsRefused, prefix_to_begin, refl, rules, State, sym, take, take-add, take-append-drop, take_all, take_at, true, ℕ, [], ◌++◌, ◌+◌, ◌-◌, ◌<◌, ◌∙◌, ◌≡◌, ◌≤◌}
use Rattle.vte.proofs.lemmas.events.EventCalls.{added_calls-append, added_calls-nothing, after_calls-append, timeout_set_times-add}
use Rattle.vte.proofs.lemmas.updates.Prefixes.{begin_count-added, begin_count-none, begin_count-nothing, prefix-after, prefix-all, prefix-more, prefix-some}

-- A slice of `count` bytes has this size.
pub slice-size : (bytes : List ℕ) (read : ℕ) {count : ℕ} → read ≤ length bytes → count ≤ length bytes - read
    → length (take (read + count - read) (drop read bytes)) ≡ count
slice-size bytes read {count} inside at_most =
    length-take-le (read + count - read) (drop read bytes) (rw length-drop (omega arith)) ∙ omega arith

module _ {V W : Type 0} (meaning : Meaning V W) where
  -- To parse no bytes changes nothing.
  pub parse-nothing : (state : State V W) → parse meaning state [] ≡ state
  parse-nothing state =
      rw (begin_count-nothing meaning.limit state.parsed, added_calls-nothing meaning.limit state.parsed, append-nil)
      refl

  -- To parse bytes in two pieces is to parse them at once.
  pub parse-append : (state : State V W) (front back : List ℕ)
      → parse meaning (parse meaning state front) back ≡ parse meaning state (front ++ back)
  parse-append state front back =
      search (
        rules,
        arith,
        begin_count-added,
        timeout_set_times-add,
        added_calls-append,
        after_calls-append,
        append_assoc,
      )

-- If no update begins in bytes, they are their own prefix.
module _ {V W : Type 0} {meaning : Meaning V W} {state : State V W} {bytes : List ℕ} {n : ℕ} {begins : Bool}
    {IsReached : State V W → Type 0}
    (parsed : HasParsedPrefix meaning state bytes n begins IsReached) (no_begin : begins ≡ false) where
  prefix-begins_none : begin_count (added meaning.limit state.parsed
      (prefix_to_begin meaning.limit state.parsed bytes)) ≡ 0
  prefix-begins_none = search (rules, arith)

  prefix-whole : prefix_to_begin meaning.limit state.parsed bytes ≡ bytes
  prefix-whole = prefix-all meaning.limit state.parsed bytes prefix-begins_none

  -- So all of them were read.
  pub count-whole : n ≡ length bytes
  count-whole = parsed.count ∙ ap length prefix-whole

module _ {V W : Type 0} (meaning : Meaning V W) (state : State V W) (bytes : List ℕ) where
  -- Before the first slice nothing is parsed.
  pub parsing-nothing : {IsReached : State V W → Type 0} → IsReached state
      → HasParsedWithoutBegin meaning state bytes 0 IsReached
  parsing-nothing is_at = record {
    none_begin = begin_count-nothing meaning.limit state.parsed;
    is_at = rw (parse-nothing meaning state) is_at;
  }

  -- If all bytes are parsed and no update began, the turn ends with them.
  pub parsing-all : {read : ℕ} {IsReached : State V W → Type 0}
      → HasParsedWithoutBegin meaning state bytes read IsReached
      → length bytes ≤ read
      → HasTakenParsingTurn meaning state bytes read IsReached
  parsing-all {read} parsed all_read =
      let taken_is = take_all read bytes all_read in
      let none_begin : begin_count (added meaning.limit state.parsed bytes) ≡ 0 = rw taken_is at parsed.none_begin in
      let prefix_is : prefix_to_begin meaning.limit state.parsed bytes ≡ bytes =
      ap (prefix_to_begin meaning.limit state.parsed) (sym (append-nil bytes))
      ∙ prefix-after meaning.limit state.parsed bytes [] none_begin
      ∙ append-nil bytes in
      record {
        progress = λ some_bytes. omega (arith, all_read);
        rest = rw prefix_is (drop_all (length bytes) bytes (omega arith) ∙ sym (drop_all read bytes all_read));
        is_at = rw prefix_is (rw taken_is at parsed.is_at);
      }

  -- A slice in which no update begins is parsed whole.
  pub parsing-more : {slice : List ℕ} {read n : ℕ} {begins : Bool} {old new : State V W → Type 0} (k : ℕ)
      → HasParsedWithoutBegin meaning state bytes read old → slice ≡ take k (drop read bytes)
      → HasParsedPrefix meaning (parse meaning state (take read bytes)) slice n begins new → begins ≡ false
      → HasParsedWithoutBegin meaning state bytes (read + n) new
  parsing-more {slice} {read} {n} k parsed slice_is parsed_slice no_begin =
      -- The slice is its own prefix, so it begins no update.
      let prefix_is = prefix-whole parsed_slice no_begin in
      let none_begin : begin_count (added meaning.limit (state.parsed ++ take read bytes) slice) ≡ 0 =
      rw prefix_is at (prefix-begins_none parsed_slice no_begin) in
      -- The slice follows the bytes that were read, so together they are the first `read + n` bytes.
      let rest_is : drop read bytes ≡ slice ++ drop k (drop read bytes) =
      rw slice_is (sym (take-append-drop k (drop read bytes))) in
      let taken_is : take (read + n) bytes ≡ take read bytes ++ slice =
      take-add read n bytes
      ∙ ap (λ rest. take read bytes ++ rest)
      (ap (take n) rest_is
      ∙ take_at slice (drop k (drop read bytes)) n (sym (count-whole parsed_slice no_begin))) in
      -- No update begins in either, so none begins in both.
      record {
        none_begin =
            rw taken_is
            (begin_count-none meaning.limit state.parsed (take read bytes) slice parsed.none_begin none_begin);
        is_at =
            rw (taken_is, ← parse-append meaning state (take read bytes) slice)
            (rw prefix_is at parsed_slice.is_at);
      }

  -- If an update begins in the slice, the parsing turn ends with the prefix.
  pub parsing-ends : {slice : List ℕ} {read n : ℕ} {begins : Bool} {old new : State V W → Type 0} (k : ℕ)
      → HasParsedWithoutBegin meaning state bytes read old → read ≤ length bytes
      → slice ≡ take k (drop read bytes)
      → HasParsedPrefix meaning (parse meaning state (take read bytes)) slice n begins new
      → begins ≡ true
      → HasTakenParsingTurn meaning state bytes (read + n) new
  parsing-ends {slice} {read} {n} k parsed within slice_is parsed_slice begins_update =
      let prefix = prefix_to_begin meaning.limit (state.parsed ++ take read bytes) slice in
      -- An update begins in the prefix of the slice.
      let begins_is : nat_lt 0 (begin_count (added meaning.limit (state.parsed ++ take read bytes) prefix)) ≡ true =
      sym parsed_slice.begins_is ∙ begins_update in
      let some_begin : 0 < begin_count (added meaning.limit (state.parsed ++ take read bytes) prefix) =
      grind (arith, nat_tests) in
      -- The slice follows the bytes that were read.
      let rest_is : drop read bytes ≡ slice ++ drop k (drop read bytes) =
      rw slice_is (sym (take-append-drop k (drop read bytes))) in
      let bytes_are : bytes ≡ take read bytes ++ (slice ++ drop k (drop read bytes)) =
      sym (take-append-drop read bytes) ∙ ap (λ rest. take read bytes ++ rest) rest_is in
      -- So the prefix of all bytes is what was read and the prefix of the slice, whatever follows.
      let prefix_is : prefix_to_begin meaning.limit state.parsed bytes ≡ take read bytes ++ prefix =
      ap (prefix_to_begin meaning.limit state.parsed) bytes_are
      ∙ prefix-after meaning.limit state.parsed (take read bytes) _ parsed.none_begin
      ∙ ap (λ rest. take read bytes ++ rest)
      (prefix-more meaning.limit (state.parsed ++ take read bytes) slice (drop k (drop read bytes)) some_begin) in
      let size_is : length (prefix_to_begin meaning.limit state.parsed bytes) ≡ read + n =
      ap length prefix_is ∙ length-append (take read bytes) prefix
      ∙ omega (arith, length-take-le read bytes within, parsed_slice.count) in
      record {
        progress = λ some_bytes. omega (arith, prefix-some meaning.limit state.parsed bytes some_bytes, size_is);
        rest = rw size_is;
        is_at = rw (prefix_is, ← parse-append meaning state (take read bytes) prefix) parsed_slice.is_at;
      }

  -- If memory is refused before all bytes are parsed, the turn has parsed those that were read.
  pub parsing-refused : {read : ℕ} {IsReached : State V W → Type 0}
      → HasParsedWithoutBegin meaning state bytes read IsReached
      → read < length bytes
      → ParsingTurnIsRefused meaning state bytes (parse meaning state (take read bytes)) (drop read bytes)
  parsing-refused {read} parsed bytes_left = search (rules, arith, take-append-drop, length-drop)
