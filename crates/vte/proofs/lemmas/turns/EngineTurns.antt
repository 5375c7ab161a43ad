-- From turns to a call: what the private functions ensure of parser, hold and handler is put together into
-- `HasTakenTurn` and `HasBeenRefused`, and the loop over turns into `TakesTurns` and `TakesTurnsUntilRefused`.
use Rattle.std.proofs.lemmas.List.{take_rest}
use Rattle.vte.proofs.Common.{AdvancesUntilRefused, all_bytes, ap, append_assoc, append_cancel_right, arith, between_turns, Bool, done, drop, drop-drop, drop_all, EndsParsingTurn, EndsTurn, Engine, engine_facts, EngineIsAt, EngineReaches, EngineView, Err, false, FromEachState, HasAdvanced, HasAdvancedPart, HasParsedPrefix, HasParsedWithoutBegin, HasTakenTurn, held_of, hold_turn, inside_turn, IsAt, KeepsMemory, length, length-drop, List, MatchResult, Meaning, Ok, parse, PartsAreAt, PartsAreAtWithMemory, PartsReach, ProcessorFacts, ProcessorLacksMemory, ProcessorState, refl, Refused, Reserves, Result, rules, State, stop, StopsSync, sym, take, take-append-drop, take_all, TakesTurns, TakesTurnsUntilRefused, true, turn, ℕ, [], ◌++◌, ◌+◌, ◌-◌, ◌<◌, ◌∙◌, ◌≡◌, ◌≤◌}
use Rattle.vte.proofs.lemmas.turns.EachOnce.{all_bytes-grown}
use Rattle.vte.proofs.lemmas.turns.RefusedTurns.{progresses-until_refused, taken_on, takes-one, until_refused-all, until_refused-invariant, until_refused-on}
use Rattle.vte.proofs.lemmas.turns.Slices.{parsing-refused}
use Rattle.vte.proofs.lemmas.turns.TurnKinds.{is_held, refused-by_parsing, stop_if_due, turn-holds, turn-parses}

-- If an engine is at a state, so are its parts.
module _ {P B T A V W : Type 0} {view : EngineView P B T W} {engine : Engine P B T A} {value : V} {state : State V W}
  where
    pub parts-at : EngineIsAt view engine value state → PartsAreAt view engine.parser engine.state value state
    parts-at is_at = record {
      has_read = is_at.processor_is.has_read;
      last = is_at.processor_is.last;
      timeout_is = is_at.processor_is.timeout_is;
      handler_is = is_at.handler_is;
    }

    -- If its parts are at a state and nothing is held, the engine is at that state.
    engine-at : PartsAreAt view engine.parser engine.state value state → held_of engine.hold ≡ state.held
        → state.held ≡ []
        → EngineIsAt view engine value state
    engine-at parts_at holds none_held = record {
      processor_is =
          record {
            has_read = parts_at.has_read;
            last = parts_at.last;
            timeout_is = parts_at.timeout_is;
            holds = holds;
            has_memory = λ some_held. absurd (omega (arith, some_held, ap length none_held));
          };
      handler_is = parts_at.handler_is;
    }

-- What an engine reaches in several steps, it reaches.
module _ {T V W : Type 0} {value : V} {state : State V W} where
  -- An engine that does nothing keeps its memory.
  pub reaches-same : {engine : ProcessorFacts T W} → IsAt engine value state
      → EngineReaches engine engine value state
  reaches-same is_at = record { engine_at = is_at; keeps_memory = λ stream count had. had }

  -- If two parts of a turn keep memory, both together do.
  pub reaches-then : {old mid new : ProcessorFacts T W} {other : V} {reached : State V W}
      → EngineReaches old mid other reached → EngineReaches mid new value state
      → EngineReaches old new value state
  reaches-then here next = record {
    engine_at = next.engine_at;
    keeps_memory = λ stream count had. next.keeps_memory stream count (here.keeps_memory stream count had);
  }

  -- A reservation, whatever its result, changes neither the state nor the handler.
  pub reaches-reserved : {old mid new : ProcessorFacts T W} {more : ℕ} {result : Bool}
      → Reserves mid new more result → EngineReaches old mid value state → EngineReaches old new value state
  reaches-reserved reserves is_at = record {
    engine_at = record {
      processor_is = reserves.stays state.parsed state.held state.timeout is_at.engine_at.processor_is;
      handler_is = is_at.engine_at.handler_is;
    };
    keeps_memory = λ stream count had. reserves.keeps_memory stream count (is_at.keeps_memory stream count had);
  }

-- A slice is parsed with the memory that was reserved for it.
module _ {P B T A V W : Type 0} {view : EngineView P B T W} {meaning : Meaning V W}
    {start : State V W} {bytes slice : List ℕ} {read count n : ℕ} {begins : Bool}
    {first old taken : Engine P B T A} {parser : P} {state : ProcessorState T B}
    {before value : V} where
  pub slice-parsed : HasParsedWithoutBegin meaning start bytes read
      (EngineReaches (engine_facts view first) (engine_facts view old) before)
      → Reserves (engine_facts view old) (engine_facts view taken) count true
      → length slice ≡ count → start.held ≡ []
      → ((next : State V W) (spare : ℕ)
      → PartsAreAtWithMemory view taken.parser taken.state before next (length slice + spare)
      → HasParsedPrefix meaning next slice n begins
      (PartsReach view taken.parser taken.state parser state value))
      → HasParsedPrefix meaning (parse meaning start (take read bytes)) slice n begins
      (EngineReaches (engine_facts view first)
      (engine_facts view (record taken { parser = parser; state = state })) value)
  slice-parsed parsed reserves size_is none_held parses =
      let here = reaches-reserved reserves parsed.is_at in
      let sum : length slice + 0 ≡ length start.held + count = omega (arith, size_is, ap length none_held) in
      let parsed_slice =
      parses (parse meaning start (take read bytes)) 0
      (record {
        parts_at = parts-at here.engine_at;
        memory = rw sum (reserves.memory refl _ _ _ here.engine_at.processor_is);
      }) in
      record {
        count = parsed_slice.count;
        begins_is = parsed_slice.begins_is;
        is_at = record {
          engine_at = engine-at
              {engine = record taken { parser = parser; state = state }} parsed_slice.is_at.parts_at
              here.engine_at.processor_is.holds none_held;
          keeps_memory =
              λ stream more had.
              parsed_slice.is_at.keeps_memory stream more (here.keeps_memory stream more had);
        };
      }

-- A stop ends the update if the engine reaches the stopped state.
module _ {T V W : Type 0} {meaning : Meaning V W} {old new : ProcessorFacts T W} {before value : V} where
  pub stops_update : {mid : ProcessorFacts T W}
      → ((state : State V W) → IsAt old before state → EngineReaches mid new value (stop meaning state))
      → KeepsMemory old.has_memory mid.has_memory → StopsSync meaning old new before value
  stops_update ends keeps = record {
    stops = λ state is_at. (ends state is_at).engine_at;
    each_once = search (rules, arith);
    hold_invariant = search (rules, arith);
    keeps_memory =
        λ state is_at stream count had. (ends state is_at).keeps_memory stream count (keeps stream count had);
  }

  -- The converse, from the stop's contract.
  pub engine-at_stop : {state : State V W} → StopsSync meaning old new before value → IsAt old before state
      → EngineReaches old new value (stop meaning state)
  engine-at_stop stops is_at = record { engine_at = stops.stops _ is_at; keeps_memory = stops.keeps_memory _ is_at }

-- A turn whose bytes aren't held parses them, after a stop if one is due.
pub ends_turn : {T V W : Type 0} {meaning : Meaning V W} {old mid new : ProcessorFacts T W} {before value : V}
    {state : State V W} {bytes : List ℕ} (pending : Bool)
    → meaning.timeout.allows state.timeout pending → is_held pending state bytes ≡ false
    → EngineReaches old mid before (stop_if_due meaning pending state) → (result : Result ℕ Refused)
    → MatchResult result (λ read. read ≤ length bytes) (λ refused. refused.read < length bytes)
    → EndsParsingTurn meaning (stop_if_due meaning pending state) bytes result (EngineReaches mid new value)
    → EndsTurn meaning state bytes result (EngineReaches old new value)
ends_turn {meaning} {state} {bytes} pending allowed not_held here (Ok read) within ends = record {
  turned =
      record {
        pending = pending;
        allowed = allowed;
        progress = ends.parsed.progress;
        rest = rw (turn-parses meaning pending state bytes not_held) ends.parsed.rest;
        is_at = rw (turn-parses meaning pending state bytes not_held) (reaches-then here ends.parsed.is_at);
      };
  refused = tt;
}
ends_turn {meaning} {state} {bytes} pending allowed not_held here (Err refused) within ends = record {
  turned = tt;
  refused = record {
    next = parse meaning (stop_if_due meaning pending state) (take refused.read bytes);
    takes = inside_turn done pending allowed
        (refused-by_parsing meaning pending state _ bytes _
        (not_held, parsing-refused meaning (stop_if_due meaning pending state) bytes ends.refused within));
    is_at = reaches-then here ends.refused.is_at;
  };
}

-- ---- one turn

module _ {V W : Type 0} (meaning : Meaning V W) {state : State V W} {bytes : List ℕ} {n : ℕ}
    {IsReached : State V W → Type 0} where
  -- A turn that holds its bytes has read all of them.
  pub turned_hold : {pending : Bool} → meaning.timeout.allows state.timeout pending → is_held pending state bytes ≡ true
      → n ≡ length bytes → IsReached (hold_turn meaning state bytes) → HasTakenTurn meaning state bytes n IsReached
  turned_hold {pending} allowed held all_read is_at = search (rules, arith, turn-holds, drop_all)

-- ---- the turns of a call

-- The loop keeps `HasTakenTurns`. This gives `HasAdvancedPart` at its end or when memory is refused, and that
-- `AdvancesUntilRefused`.

-- The bytes that a call has still to read, as the slice that its next turn gets.
module _ (bytes : List ℕ) (read : ℕ) where
  -- These bytes.
  abbrev unread : List ℕ
  unread = take (length bytes - read) (drop read bytes)

  unread-is : unread ≡ drop read bytes
  unread-is = take_rest bytes read

  unread-drop : (n : ℕ) → drop n unread ≡ drop (read + n) bytes
  unread-drop n = rw (unread-is, drop-drop n read bytes)

  -- As many bytes are left as weren't read.
  pub rest-size : read ≤ length bytes → length (take (length bytes - read) (drop read bytes)) ≡ length bytes - read
  rest-size inside = rw (take_rest bytes read, length-drop)

module _ {V W : Type 0} (meaning : Meaning V W) (state : State V W) (bytes : List ℕ) where
  -- `count` turns have read `read` bytes, at least one each.
  pub record HasTakenTurns (count read : ℕ) (IsReached : State V W → Type 0) : Type 0 where
    pub here : State V W
    pub enough : count ≤ read
    pub takes : TakesTurns meaning state bytes here (drop read bytes)
    pub is_at : IsReached here

  -- Before the first turn.
  pub taken_turns-none : {IsReached : State V W → Type 0} → IsReached state → HasTakenTurns 0 0 IsReached
  taken_turns-none is_at = record { here = state; enough = omega arith; takes = done; is_at = is_at }

  -- The turns of a call, as what the call has done: each byte is parsed or held, once.
  advanced_part-until_refused : {read : ℕ} {IsReached : State V W → Type 0} (next : State V W)
      → TakesTurnsUntilRefused meaning state bytes next (drop read bytes)
      → IsReached next → HasAdvancedPart meaning state bytes read IsReached
  advanced_part-until_refused {read} next takes is_at = record {
    next = next;
    takes = takes;
    each_once = append_cancel_right _ _ (drop read bytes)
        (all_bytes-grown (progresses-until_refused meaning takes)
        ∙ ap (λ bytes. all_bytes state ++ bytes) (sym (take-append-drop read bytes))
        ∙ sym (append_assoc (all_bytes state) (take read bytes) (drop read bytes)));
    hold_invariant = until_refused-invariant meaning takes;
    is_at = is_at;
  }

  advanced_part-turns : {count read : ℕ} {IsReached : State V W → Type 0} → HasTakenTurns count read IsReached
      → HasAdvancedPart meaning state bytes read IsReached
  advanced_part-turns reached = advanced_part-until_refused reached.here (between_turns reached.takes) reached.is_at

  -- A call that has read all its bytes ensures `HasAdvanced`.
  pub has_advanced : {read : ℕ} {IsReached : State V W → Type 0} → HasAdvancedPart meaning state bytes read IsReached
      → length bytes ≤ read
      → HasAdvanced meaning state bytes IsReached
  has_advanced {read} taken all_read = record {
    next = taken.next;
    advances = until_refused-all meaning (rw (drop_all read bytes all_read) at taken.takes);
    each_once = rw (take_all read bytes all_read) at taken.each_once;
    hold_invariant = taken.hold_invariant;
    is_at = taken.is_at;
  }

-- One more turn, from each state that the engine was at before the call.
module _ {T V W : Type 0} {meaning : Meaning V W} {bytes : List ℕ} {first mid new : ProcessorFacts T W}
    {before between value : V} {count read : ℕ}
    (so_far : FromEachState first mid before between (λ state. HasTakenTurns meaning state bytes count read)) where
  -- It reads at least one more byte.
  pub taken_turns-more : {n : ℕ} → read < length bytes
      → FromEachState mid new between value (λ state. EndsTurn meaning state (unread bytes read) (Ok n))
      → FromEachState first new before value (λ state. HasTakenTurns meaning state bytes (count + 1) (read + n))
  taken_turns-more {n} bytes_left ends = λ state is_at.
      let reached = so_far state is_at in
      let turned = (ends reached.here reached.is_at.engine_at).turned in
      let slice = unread bytes read in
      let some_bytes : 0 < length slice = rw (unread-is bytes read, length-drop read bytes) (omega arith) in
      record {
        here = (turn meaning turned.pending reached.here slice).state;
        enough = omega (arith, reached.enough, turned.progress some_bytes);
        takes = rw (turned.rest ∙ unread-drop bytes read n) at
            (taken_on meaning state reached.here _ bytes slice _ (rw (unread-is bytes read) reached.takes)
            (takes-one meaning turned.pending some_bytes turned.allowed));
        is_at = reaches-then reached.is_at turned.is_at;
      }

  -- If it was refused memory after some bytes, the call has read those as well.
  pub taken_turns-refused : {refused : Refused}
      → FromEachState mid new between value (λ state. EndsTurn meaning state (unread bytes read) (Err refused))
      → FromEachState first new before value (λ state. HasAdvancedPart meaning state bytes (read + refused.read))
  taken_turns-refused {refused} ends = λ state is_at.
      let reached = so_far state is_at in
      let turned = (ends reached.here reached.is_at.engine_at).refused in
      let slice = unread bytes read in
      advanced_part-until_refused meaning state bytes turned.next
      (rw (unread-drop bytes read refused.read) at
      (until_refused-on meaning state reached.here turned.next bytes slice (drop refused.read slice)
      (rw (unread-is bytes read) reached.takes) turned.takes))
      (reaches-then reached.is_at turned.is_at)

-- `HasAdvancedPart` may promise less about the state that a call reaches.
module _ {V W : Type 0} {meaning : Meaning V W} {state : State V W} {bytes : List ℕ} {read : ℕ} where
  pub advanced_part-to : {IsReached other : State V W → Type 0} → ((state : State V W) → IsReached state → other state)
      → HasAdvancedPart meaning state bytes read IsReached → HasAdvancedPart meaning state bytes read other
  advanced_part-to follows taken = search (rules, arith)

  advanced_part-at : {T : Type 0} {old new : ProcessorFacts T W} {value : V}
      → HasAdvancedPart meaning state bytes read (EngineReaches old new value)
      → HasAdvancedPart meaning state bytes read (IsAt new value)
  advanced_part-at = advanced_part-to (λ state next. next.engine_at)

-- What a call ensures follows from its turns.
module _ {T V W : Type 0} {meaning : Meaning V W} {old new : ProcessorFacts T W} {before value : V} (bytes : List ℕ)
  where
    -- At the loop's end all bytes are read.
    pub engine_reads-all : {count read : ℕ}
        → FromEachState old new before value (λ state. HasTakenTurns meaning state bytes count read)
        → ((state : State V W) → IsAt old before state → read ≡ length bytes)
        → AdvancesUntilRefused meaning old new before value bytes (Ok tt)
    engine_reads-all reaches all_read = record {
      takes =
          λ state is_at.
          rw (all_read state is_at) at
          (advanced_part-at (advanced_part-turns meaning state bytes (reaches state is_at)));
      within = tt;
      lacks_memory = tt;
      keeps_memory = λ state is_at. (reaches state is_at).is_at.keeps_memory;
    }

    -- At a refusal some bytes are left, and there is no memory for them.
    pub engine_reads-until : {refused : Refused}
        → FromEachState old new before value (λ state. HasAdvancedPart meaning state bytes refused.read)
        → refused.read < length bytes → ProcessorLacksMemory new (length bytes - refused.read)
        → AdvancesUntilRefused meaning old new before value bytes (Err refused)
    engine_reads-until taken bytes_left lacks =
        record {
          takes = λ state is_at. advanced_part-at (taken state is_at);
          within = bytes_left;
          lacks_memory = lacks;
          keeps_memory = λ state is_at. (taken state is_at).is_at.keeps_memory;
        }
