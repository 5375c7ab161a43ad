-- What a processor does, to be read from top to bottom: from what its parts mean to the calls that
-- a handler receives. In all files, `V` is the type of the handler's value, and `W` that of the
-- timeout's value.
use Rattle.std.specs.Prelude.{Bool, drop, false, if◌then◌else◌, length, List, nat_le, nat_lt, None, Option, Some, suc, take, true, zero, ℕ, [], ◌++◌, ◌+◌, ◌-◌, ◌<◌, ◌^◌, ◌∷◌, ◌≡◌, ◌≤◌, ◌⊎◌}
use Rattle.vte.specs.Calls.{calls_after}
use Rattle.vte.specs.declared.ansi.laws.replays.Step.{Step}
use Rattle.vte.specs.declared.ansi.laws.replays.Step.TheVariants.{Advance, StopSync}
use Rattle.vte.specs.Synchronized.{after_last_end, begin_count, begin_update, begins_ending_in_last, from_begin_update, is_prefix_of, part_after_last_end, update_ended_call}
use Rattle.vte_core.specs.Stream.{added, events}
use Rattle.vte_handler.specs.Call.{Call}
use Rattle.vte_handler.specs.Handler.{after}
use Rattle.vte_handler.specs.Timeout.{AllowsOnly, IsSteady, timeout_meaning, TimeoutMeaning}

-- ---- what a processor's parser, handler and timeout mean

-- The meaning of a processor: its limit, and what calls make of the values of its handler and its
-- timeout. It stays the same, whatever the processor has read.
pub record Meaning (V W : Type 0) : Type 1 where
  -- How many data bytes of an operating system command the parser keeps, if there is a limit.
  pub limit : Option ℕ
  -- What a call makes of the handler's value.
  pub step : V → Call → V
  pub timeout : TimeoutMeaning W

-- The meaning that the limit and the ghost members of a `Handler` and a `Timeout` give.
abbrev pub processor_meaning : {V W : Type 0} → Option ℕ → (V → Call → V) → (W → ℕ → W) → (W → W)
    → (W → Bool → Type 0) → Meaning V W
processor_meaning limit step set clear allows =
    record { limit = limit; step = step; timeout = timeout_meaning set clear allows }

-- The timeout of an update, 150 ms.
abbrev pub update_nanos : ℕ
update_nanos = 150_000_000

-- The value after the timeout is set this many times.
abbrev pub timeout_set_times : {W : Type 0} → TimeoutMeaning W → ℕ → W → W
timeout_set_times meaning zero value = value
timeout_set_times meaning (suc count) value =
    timeout_set_times meaning count (meaning.set value update_nanos)

-- ---- the state between calls

-- The bytes parsed so far, the positions among them at which updates were stopped, the bytes held
-- after them, and the values of the timeout and the handler.
pub record State (V W : Type 0) : Type 0 where
  pub parsed : List ℕ
  pub stops : List ℕ
  pub held : List ℕ
  pub timeout : W
  pub handler : V

-- The bytes that the processor has received: those parsed, and those held after them.
abbrev pub all_bytes : {V W : Type 0} → State V W → List ℕ
all_bytes state = state.parsed ++ state.held

-- The state with other bytes held.
abbrev pub with_held : {V W : Type 0} → State V W → List ℕ → State V W
with_held state bytes = record state { held = bytes }

-- ---- parsing and stops

-- The calls that more bytes add to those of a stream.
abbrev pub added_calls : Option ℕ → List ℕ → List ℕ → List Call
added_calls limit stream more = calls_after (events limit stream) (events limit (stream ++ more))

module _ {V W : Type 0} (meaning : Meaning V W) where
  -- Bytes are parsed: the handler receives the calls that they add, and each update that they begin
  -- sets the timeout.
  abbrev pub parse : State V W → List ℕ → State V W
  parse state bytes = let begins = begin_count (added meaning.limit state.parsed bytes) in
      record state {
        parsed = state.parsed ++ bytes;
        timeout = timeout_set_times meaning.timeout begins state.timeout;
        handler = after meaning.step state.handler (added_calls meaning.limit state.parsed bytes);
      }

  -- A stop: the whole hold is parsed, the handler receives the call that reports the end of an
  -- update, and the timeout is cleared. The stop's position is how many bytes were parsed by then.
  abbrev pub stop : State V W → State V W
  stop state = let next = parse state state.held in record next {
    stops = next.stops ++ length next.parsed ∷ [];
    held = [];
    timeout = meaning.timeout.clear next.timeout;
    handler = meaning.step next.handler update_ended_call;
  }

-- ---- the turns of a call of `advance`

-- Where a turn leads: to a state, with unread bytes of the call, which takes turns until none are
-- left.
pub record Turn (V W : Type 0) : Type 0 where
  pub state : State V W
  pub rest : List ℕ

-- The maximum number of held bytes. `vte` has a buffer of 2 MiB, and stops the update when fewer
-- than two bytes of it would be free.
abbrev pub max_held : ℕ
max_held = 2 ^ 21 - 2

-- What a turn does. It is decided before a byte is read.
pub data TurnKind : Type 0 where
  -- Outside an update, bytes are parsed.
  ParsingTurn : TurnKind
  -- An update that has expired is stopped first.
  ExpiredTurn : TurnKind
  -- In an update, bytes are held if there is room for all of them.
  HoldTurn : TurnKind
  -- If there isn't, the update is stopped, and the bytes are parsed.
  FullTurn : TurnKind

-- The kind of a turn, by whether the timeout is pending, and how many bytes are held and given.
abbrev pub turn_kind_of : Bool → ℕ → ℕ → TurnKind
turn_kind_of false zero given = ParsingTurn
turn_kind_of false (suc held) given = ExpiredTurn
turn_kind_of true held given = if nat_le (held + given) max_held then HoldTurn else FullTurn

-- The shortest prefix whose last byte begins an update, or all bytes if there is none.
abbrev pub prefix_to_begin : Option ℕ → List ℕ → List ℕ → List ℕ
prefix_to_begin limit parsed [] = []
prefix_to_begin limit parsed (byte ∷ rest) =
    if nat_lt 0 (begin_count (added limit parsed (byte ∷ []))) then byte ∷ []
    else byte ∷ prefix_to_begin limit (parsed ++ byte ∷ []) rest

module _ {V W : Type 0} (meaning : Meaning V W) where
  -- A parsing turn: bytes are parsed up to the one that begins an update.
  abbrev pub parsing_turn : State V W → List ℕ → Turn V W
  parsing_turn state bytes =
      let prefix = prefix_to_begin meaning.limit state.parsed bytes in
      record { state = parse meaning state prefix; rest = drop (length prefix) bytes }

  -- The bytes join the hold. Each begin-update that ends among them and follows the last end-update
  -- sets the timeout.
  abbrev pub extend : State V W → List ℕ → State V W
  extend state bytes =
      let all = state.held ++ bytes in
      let begins = begins_ending_in_last (length bytes) (part_after_last_end all) in
      record state { held = all; timeout = timeout_set_times meaning.timeout begins state.timeout }

  -- Bytes at the end of the hold are kept, and those before them parsed. If none are kept, the
  -- update is stopped.
  abbrev pub release : State V W → List ℕ → State V W
  release state [] = stop meaning state
  release state (byte ∷ kept) =
      let before = take (length state.held - length (byte ∷ kept)) state.held in
      with_held (parse meaning state before) (byte ∷ kept)

  -- Without an end-update everything stays held; with one, only what follows the last, from its
  -- first begin-update on.
  abbrev pub release_after_end : State V W → Option (List ℕ) → State V W
  release_after_end state None = state
  release_after_end state (Some rest) = release state (from_begin_update rest)

  -- A hold turn: all bytes join the hold, and what ends in it is released.
  abbrev pub hold_turn : State V W → List ℕ → State V W
  hold_turn state bytes =
      let next = extend state bytes in release_after_end next (after_last_end next.held)

  -- A turn of a kind.
  abbrev pub turn_of : TurnKind → State V W → List ℕ → Turn V W
  turn_of ParsingTurn state bytes = parsing_turn state bytes
  turn_of ExpiredTurn state bytes = parsing_turn (stop meaning state) bytes
  turn_of HoldTurn state bytes = record { state = hold_turn state bytes; rest = [] }
  turn_of FullTurn state bytes = parsing_turn (stop meaning state) bytes

  -- A turn, by the timeout's answer.
  abbrev pub turn : Bool → State V W → List ℕ → Turn V W
  turn pending state bytes =
      turn_of (turn_kind_of pending (length state.held) (length bytes)) state bytes

  -- Turns of a call that led to a state and left these bytes, each with an answer that the
  -- timeout's value allows.
  pub data TakesTurns : State V W → List ℕ → State V W → List ℕ → Type 0 where
    done : {state : State V W} {bytes : List ℕ} → TakesTurns state bytes state bytes
    turns : {state next : State V W} {byte : ℕ} {rest left : List ℕ} → (pending : Bool)
        → meaning.timeout.allows state.timeout pending
        → TakesTurns (turn pending state (byte ∷ rest)).state
        (turn pending state (byte ∷ rest)).rest next left
        → TakesTurns state (byte ∷ rest) next left

  -- A call of `advance`: turns until all bytes are read.
  abbrev pub TakesAllTurns : State V W → List ℕ → State V W → Type 0
  TakesAllTurns state bytes next = TakesTurns state bytes next []

-- ---- what is true of held bytes

-- The last parsed byte began an update.
pub record EndsInBegin (limit : Option ℕ) (parsed : List ℕ) : Type 0 where
  pub before : List ℕ
  pub byte : ℕ
  pub parsed_is : parsed ≡ before ++ byte ∷ []
  pub begins : 0 < begin_count (added limit before (byte ∷ []))

-- Outside an update nothing is held.
pub record IsOutsideUpdate {W : Type 0} (meaning : TimeoutMeaning W) (held : List ℕ)
    (timeout : W) : Type 0 where
  pub not_pending : AllowsOnly meaning timeout false
  pub none_held : held ≡ []

-- Inside an update the held bytes follow its begin, or start with it.
pub record IsInsideUpdate {W : Type 0} (limit : Option ℕ) (meaning : TimeoutMeaning W)
    (parsed held : List ℕ) (timeout : W) : Type 0 where
  pub pending : AllowsOnly meaning timeout true
  pub update_began : EndsInBegin limit parsed ⊎ (is_prefix_of begin_update held ≡ true)

-- The hold contains no end-update, and has at most `max_held` bytes. If the timeout is steady,
-- nothing is held outside an update.
pub record HoldInvariant {W : Type 0} (limit : Option ℕ) (meaning : TimeoutMeaning W)
    (parsed held : List ℕ) (timeout : W) : Type 0 where
  pub no_end : after_last_end held ≡ None
  pub fits : length held ≤ max_held
  pub steady : IsSteady meaning → IsOutsideUpdate meaning held timeout
      ⊎ IsInsideUpdate limit meaning parsed held timeout

-- `HoldInvariant` at a state.
abbrev pub HoldInvariantAt : {V W : Type 0} → Meaning V W → State V W → Type 0
HoldInvariantAt meaning state =
    HoldInvariant meaning.limit meaning.timeout state.parsed state.held state.timeout

-- ---- calls one after another

-- The calls lead from a state to another. `Advance` takes turns until all bytes are read;
-- `StopSync` is one stop.
abbrev pub TakesSteps : {V W : Type 0} → Meaning V W → State V W → List Step → State V W → Type 0
TakesSteps meaning state [] end = state ≡ end
TakesSteps meaning state (Advance bytes ∷ steps) end =
    (next : State _ _)
    × (TakesAllTurns meaning state bytes.now next × TakesSteps meaning next steps end)
TakesSteps meaning state (StopSync ∷ steps) end = TakesSteps meaning (stop meaning state) steps end

-- The bytes that the calls pass.
abbrev pub given_bytes : List Step → List ℕ
given_bytes [] = []
given_bytes (Advance bytes ∷ steps) = bytes.now ++ given_bytes steps
given_bytes (StopSync ∷ steps) = given_bytes steps

-- ---- what the handler receives of them

-- The calls that the bytes from one position of a stream to another make.
abbrev pub calls_between : Option ℕ → List ℕ → ℕ → ℕ → List Call
calls_between limit stream from to =
    calls_after (events limit (take from stream)) (events limit (take to stream))

-- The calls that the bytes of a stream make from a position on, with stops at the given positions:
-- after the calls of the bytes before a stop comes the one that reports the end of an update.
abbrev pub calls_with_stops : Option ℕ → List ℕ → ℕ → List ℕ → List Call
calls_with_stops limit stream from [] = calls_between limit stream from (length stream)
calls_with_stops limit stream from (position ∷ positions) =
    calls_between limit stream from position
    ++ update_ended_call ∷ calls_with_stops limit stream position positions

-- The positions lie between `from` and `to`, and none is before the one that precedes it.
abbrev pub AreInOrder : ℕ → List ℕ → ℕ → Type 0
AreInOrder from [] to = from ≤ to
AreInOrder from (position ∷ positions) to = (from ≤ position) × AreInOrder position positions to
