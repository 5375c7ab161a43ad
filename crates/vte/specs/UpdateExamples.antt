-- Examples of synchronized updates, worked out by hand. The prover compares them with the
-- definitions, not with code.
use Rattle.std.specs.Prelude.{Bool, codes, false, length, List, map, None, Some, suc, true, zero, ℕ, [], ◌++◌, ◌-◌, ◌∷◌, ◌≡◌}
use Rattle.vte.specs.declared.ansi.laws.replays.Step.{Step}
use Rattle.vte.specs.declared.ansi.laws.replays.Step.TheVariants.{Advance, StopSync}
use Rattle.vte.specs.Processor.{calls_with_stops, FullTurn, HoldTurn, max_held, Meaning, prefix_to_begin, State, stop, turn, turn_kind_of}
use Rattle.vte.specs.StdSyncHandler.{pending_meaning}
use Rattle.vte.specs.Synchronized.{after_last_end, begin_update, begins_ending_in_last, end_update, from_begin_update, update_ended_call}
use Rattle.vte_core.specs.Stream.{default_limit}
use Rattle.vte_handler.specs.Call.{Call, Input, SetPrivateMode, TerminalAttribute}
use Rattle.vte_types.specs.declared.color.Attr.TheVariants.{Bold, Foreground, Underline}
use Rattle.vte_types.specs.declared.color.Color.TheVariants as color
use Rattle.vte_types.specs.declared.color.NamedColor.TheVariants.{Red}
use Rattle.vte_types.specs.declared.mode.NamedPrivateMode.TheVariants.{ShowCursor, SyncUpdate}
use Rattle.vte_types.specs.declared.mode.PrivateMode.TheVariants.{Named}

-- The handler's value is the list of the calls that it has received. The timeout is pending from
-- when it is set until it is cleared.
abbrev pub recording_meaning : Meaning (List Call) Bool
recording_meaning = record {
  limit = default_limit;
  step = λ received call. received ++ call ∷ [];
  timeout = pending_meaning;
}

abbrev pub RecordingState : Type 0
RecordingState = State (List Call) Bool

-- That of a new processor, and of a handler that has received nothing.
abbrev pub start : RecordingState
start = record { parsed = []; stops = []; held = []; timeout = false; handler = [] }

-- Turns of a call until no byte is left, and at most this many.
abbrev pub state_after_turns : ℕ → RecordingState → List ℕ → RecordingState
state_after_turns zero state bytes = state
state_after_turns (suc count) state [] = state
state_after_turns (suc count) state (byte ∷ bytes) =
    let taken = turn recording_meaning state.timeout state (byte ∷ bytes) in
    state_after_turns count taken.state taken.rest

-- A turn reads at least one byte, so there are at most as many turns as bytes.
abbrev pub state_after_steps : RecordingState → List Step → RecordingState
state_after_steps state [] = state
state_after_steps state (Advance bytes ∷ steps) =
    state_after_steps (state_after_turns (length bytes.now) state bytes.now) steps
state_after_steps state (StopSync ∷ steps) = state_after_steps (stop recording_meaning state) steps

-- Calls of a new processor, what its handler has then received, and what is held.
pub record UpdateExample : Type 0 where
  pub steps : List Step
  pub received : List Call
  pub held : List ℕ

-- The example that the definitions give for these calls.
abbrev pub example_of : List Step → UpdateExample
example_of steps =
    let state = state_after_steps start steps in
    record { steps = steps; received = state.handler; held = state.held }

abbrev pub HaveOutcomes : List UpdateExample → Type 0
HaveOutcomes examples = map (λ example. example_of example.steps) examples ≡ examples

-- A call of `advance`. Where in memory the bytes are makes no difference.
abbrev pub advance : List ℕ → Step
advance bytes = Advance (record { ref_ptr = (0, 0); now = bytes })

abbrev pub update_begun_call : Call
update_begun_call = SetPrivateMode (Named SyncUpdate)

abbrev pub inputs : List ℕ → List Call
inputs text = map (λ character. Input character) text

abbrev pub bold : List ℕ
bold = codes "\u{1b}[1m"

abbrev pub underline : List ℕ
underline = codes "\u{1b}[4m"

abbrev pub update_examples : List UpdateExample
update_examples =
    -- After the end of an update, everything from the next begin on stays held.
    record {
      steps = advance (begin_update ++ bold) ∷ advance (end_update ++ begin_update ++ underline)
          ∷ [];
      received = update_begun_call ∷ TerminalAttribute Bold ∷ update_ended_call ∷ [];
      held = begin_update ++ underline;
    }
    -- The same, and the end of that update, which makes a call, as the stop does.
    ∷ record {
      steps = advance (begin_update ++ bold) ∷ advance (end_update ++ begin_update ++ underline)
          ∷ advance end_update ∷ [];
      received = update_begun_call ∷ TerminalAttribute Bold ∷ update_ended_call
          ∷ update_begun_call ∷ TerminalAttribute Underline ∷ update_ended_call
          ∷ update_ended_call ∷ [];
      held = [];
    }
    -- Both sequences are cut across calls.
    ∷ record {
      steps = map advance
          (codes "\u{1b}[?20" ∷ codes "26h" ∷ codes "random \u{1b}[31m stuff"
          ∷ codes "\u{1b}[?20" ∷ codes "26h" ∷ codes "\u{1b}[?20" ∷ codes "26l" ∷ []);
      received = update_begun_call ∷ inputs (codes "random ")
          ++ TerminalAttribute (Foreground (color.Named Red)) ∷ inputs (codes " stuff")
          ++ update_begun_call ∷ update_ended_call ∷ update_ended_call ∷ [];
      held = [];
    }
    -- A begin beside another mode isn't recognised in the hold; it makes its calls when it is
    -- parsed.
    ∷ record {
      steps = advance begin_update ∷ advance (codes "a\u{1b}[?25;2026hb") ∷ advance end_update
          ∷ [];
      received = update_begun_call ∷ Input 0x61 ∷ SetPrivateMode (Named ShowCursor)
          ∷ update_begun_call ∷ Input 0x62 ∷ update_ended_call ∷ update_ended_call ∷ [];
      held = [];
    }
    -- A stop with nothing held.
    ∷ record { steps = StopSync ∷ []; received = update_ended_call ∷ []; held = [] }
    -- An update that a sequence of two modes begins, and a stop.
    ∷ record {
      steps = advance (codes "\u{1b}[?25;2026hx") ∷ [];
      received = SetPrivateMode (Named ShowCursor) ∷ update_begun_call ∷ [];
      held = codes "x";
    }
    ∷ record {
      steps = advance (codes "\u{1b}[?25;2026hx") ∷ StopSync ∷ [];
      received = SetPrivateMode (Named ShowCursor) ∷ update_begun_call ∷ Input 0x78
          ∷ update_ended_call ∷ [];
      held = [];
    }
    -- The last of two ends decides.
    ∷ record {
      steps = advance
          (begin_update ++ codes "a" ++ end_update ++ begin_update ++ codes "b" ++ end_update
          ++ codes "c") ∷ [];
      received = update_begun_call ∷ Input 0x61 ∷ update_ended_call ∷ update_begun_call
          ∷ Input 0x62 ∷ update_ended_call ∷ Input 0x63 ∷ update_ended_call ∷ [];
      held = [];
    }
    ∷ []

-- An expired update is stopped before new bytes are parsed: the timeout answers "not pending"
-- although bytes are held.
abbrev pub ExpiredExample : Type 0
ExpiredExample =
    let held = state_after_steps start (advance (begin_update ++ codes "x") ∷ []) in
    (turn recording_meaning false held (codes "y")).state.handler
    ≡ update_begun_call ∷ Input 0x78 ∷ update_ended_call ∷ Input 0x79 ∷ []

-- What definitions of `Synchronized` and `Processor` give for a few bytes.
pub record ShortExamples : Type 0 where
  pub after_end : after_last_end (codes "a\u{1b}[?2026lb") ≡ Some (codes "b")
  pub after_second_end : after_last_end (end_update ++ codes "a" ++ end_update) ≡ Some []
  pub without_end : after_last_end (codes "\u{1b}[?2026") ≡ None
  pub from_begin : from_begin_update (codes "a\u{1b}[?2026hb") ≡ codes "\u{1b}[?2026hb"
  pub without_begin : from_begin_update (codes "\u{1b}[?2026l") ≡ []
  pub ends_in_last_two : begins_ending_in_last 2 (codes "\u{1b}[?2026hb") ≡ 1
  pub ends_before_last : begins_ending_in_last 1 (codes "\u{1b}[?2026hb") ≡ 0
  -- After bytes that were parsed, up to the one that begins an update.
  pub prefix : prefix_to_begin default_limit (codes "\u{1b}[?25;20") (codes "26hb") ≡ codes "26h"
  pub prefix_without_begin : prefix_to_begin default_limit [] (codes "ab") ≡ codes "ab"
  -- The hold takes its last byte, and none after it.
  pub fits : turn_kind_of true (max_held - 1) 1 ≡ HoldTurn
  pub full : turn_kind_of true max_held 1 ≡ FullTurn
  -- A stop between `x` and `y`, and two stops inside a character of two bytes.
  pub with_stop : calls_with_stops default_limit (begin_update ++ codes "xy") 0 (9 ∷ [])
      ≡ update_begun_call ∷ Input 0x78 ∷ update_ended_call ∷ Input 0x79 ∷ []
  pub with_two_stops : calls_with_stops default_limit (0xc3 ∷ 0xa9 ∷ []) 0 (1 ∷ 1 ∷ [])
      ≡ update_ended_call ∷ update_ended_call ∷ Input 0xe9 ∷ []
