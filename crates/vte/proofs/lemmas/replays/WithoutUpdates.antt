-- With a timeout that is never pending, the handler receives the calls of the whole stream (`replays_all`,
-- `plain_call`): nothing is ever held, so there are no stops. By induction over turns: each one parses, and ends with
-- nothing held.
use Rattle.vte.proofs.Common.{added_calls, Advance, after, ap, append-nil, Bor, calls, done, events, false, given_bytes, HasAdvanced, HasParsedAll, HasReplayed, IsAt, List, Meaning, ProcessorFacts, refl, Replays, State, Step, StopSync, sym, TakesAllTurns, TakesSteps, true, turn, turns, ℕ, [], ◌++◌, ◌∙◌, ◌∷◌, ◌≡◌}
use Rattle.vte.proofs.lemmas.events.EventCalls.{after_calls-append, calls_whole}
use Rattle.vte.proofs.lemmas.replays.ReceivedCalls.{calls_between-whole}
use Rattle.vte.proofs.lemmas.replays.ReplayedSteps.{advance_runs}
use Rattle.vte.specs.ProcessorCalls.{AreAdvances, IsNeverPending, ParsesAll}

-- `next` holds nothing, and has the stops of `state`.
record IsPlain {V W : Type 0} (state next : State V W) : Type 0 where
  pub none_held : next.held ≡ []
  pub no_stop : next.stops ≡ state.stops

module _ {V W : Type 0} (meaning : Meaning V W) (never : IsNeverPending meaning.timeout.allows) where
  plain_advances : (state next : State V W) (bytes : List ℕ) → TakesAllTurns meaning state bytes next → state.held ≡ []
      → IsPlain state next
  plain_advances state next [] done none_held = record { none_held = none_held; no_stop = refl }
  plain_advances state next (b ∷ bytes) (turns true allowed takes) none_held =
      absurd (let same : true ≡ false = never state.timeout true allowed in cc)
  plain_advances state next (b ∷ bytes) (turns false allowed takes) none_held =
      let reached = (turn meaning false state (b ∷ bytes)).state in
      let still_none_held : reached.held ≡ [] = rw none_held refl in
      let no_stop : reached.stops ≡ state.stops = rw none_held refl in
      let rest = plain_advances _ next _ takes still_none_held in
      record { none_held = rest.none_held; no_stop = rest.no_stop ∙ no_stop }

  plain_run : (state end : State V W) (steps : List Step) → TakesSteps meaning state steps end → AreAdvances steps
      → state.held ≡ []
      → IsPlain state end
  plain_run state end [] same are_advances none_held = rw (← same) (record { none_held = none_held; no_stop = refl })
  plain_run state end (Advance bytes ∷ steps) (next, (advances, takes)) are_advances none_held =
      let plain_first = plain_advances state next bytes.now advances none_held in
      let rest = plain_run next end steps takes are_advances plain_first.none_held in
      record { none_held = rest.none_held; no_stop = rest.no_stop ∙ plain_first.no_stop }
  plain_run state end (StopSync ∷ steps) takes are_advances none_held = absurd are_advances

-- ---- from a processor that holds nothing, calls parse all bytes

module _ {T V W : Type 0} {processor : ProcessorFacts T W} (old : V) {stream : List ℕ}
    (has_parsed : HasParsedAll processor stream) where
  -- The stream is parsed, nothing is held, and stops are counted from here on.
  abbrev start_state : State V W
  start_state = record { parsed = stream; stops = []; held = []; timeout = has_parsed.timeout; handler = old }

  is_at_start : IsAt processor old start_state
  is_at_start = record { processor_is = has_parsed.processor_is; handler_is = refl }

  module _ (meaning : Meaning V W)
      (never : IsNeverPending meaning.timeout.allows) {next : ProcessorFacts T W} {new : V}
      (steps : List Step) (are_advances : AreAdvances steps)
      (replayed : HasReplayed meaning start_state steps (IsAt next new)) where
    is_plain : IsPlain start_state replayed.next
    is_plain = plain_run meaning never start_state replayed.next steps replayed.takes are_advances refl

    more_is : replayed.delivers.more ≡ given_bytes steps
    more_is =
        let more = replayed.delivers.more in
        sym (replayed.delivers.each_once ∙ ap (λ held. more ++ held) is_plain.none_held ∙ append-nil more)

    parsed_all : replayed.next.parsed ≡ stream ++ given_bytes steps
    parsed_all = replayed.delivers.parsed_is ∙ ap (λ more. stream ++ more) more_is

    plain_follows : (start : V) → old ≡ after meaning.step start (calls (events meaning.limit stream))
        → new ≡ after meaning.step start (calls (events meaning.limit (stream ++ given_bytes steps)))
    plain_follows start old_is =
        replayed.is_at.handler_is
        ∙ replayed.delivers.handler_is
        ∙ rw (
          ← replayed.delivers.stops_are,
          is_plain.no_stop,
          parsed_all,
          calls_between-whole meaning.limit stream (given_bytes steps),
          old_is,
        )
        (sym
        (after_calls-append meaning.step start (calls (events meaning.limit stream))
        (added_calls meaning.limit stream (given_bytes steps))))
        ∙ ap (after meaning.step start) (sym (calls_whole meaning.limit stream (given_bytes steps)))

    plain_parses : HasParsedAll next (stream ++ given_bytes steps)
    plain_parses = record {
      timeout = replayed.next.timeout;
      processor_is = rw (parsed_all, is_plain.none_held) at replayed.is_at.processor_is;
    }

-- ---- the clauses of a list of calls, and of one call

module _ {T V W : Type 0} (meaning : Meaning V W) {processor next : ProcessorFacts T W} {old new : V} where
  plain_calls : (steps : List Step)
      → ((state : State V W) → IsAt processor old state → HasReplayed meaning state steps (IsAt next new))
      → IsNeverPending meaning.timeout.allows → AreAdvances steps
      → ParsesAll meaning processor next old new (given_bytes steps)
  plain_calls steps replayed never are_advances = record {
    follows = λ start stream has_parsed.
        plain_follows old has_parsed meaning never steps are_advances (replayed _ (is_at_start old has_parsed)) start;
    parses_all = λ stream has_parsed.
        plain_parses old has_parsed meaning never steps are_advances (replayed _ (is_at_start old has_parsed));
  }

  -- The clauses of `Replays`, of which the first gives the second.
  pub replays_all : {steps : List Step}
      → ((state : State V W) → IsAt processor old state → HasReplayed meaning state steps (IsAt next new))
      → Replays meaning processor next old new steps
  replays_all {steps} replayed = record { replays = replayed; if_never_pending = plain_calls steps replayed }

  -- A single call is a list of one step.
  pub plain_call : (bytes : Bor (List ℕ))
      → ((state : State V W) → IsAt processor old state → HasAdvanced meaning state bytes.now (IsAt next new))
      → IsNeverPending meaning.timeout.allows → ParsesAll meaning processor next old new bytes.now
  plain_call bytes advances never =
      let replays = replays_all {steps =
      Advance bytes ∷ []} (λ state is_at. advance_runs meaning (advances state is_at)) in
      rw append-nil at (replays.if_never_pending never tt)
