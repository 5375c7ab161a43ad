-- Runs that a caller takes from its own input: bytes that lead from the parser's place back to it, so the parser
-- needn't change, and that no further printed character or data byte follows.
use Rattle.vte_core.proofs.Common.{append-nil, ArePositions, arith, BytesLead, ChunkCall, class_of, DeviceData, drop, drop_more, Empty, false, HasNoRunAt, HasReadWithLimit, InDeviceData, IsAtPlace, IsAtPosition, IsPlaceOfState, IsRun, IsSettled, length, length-drop, length-take, List, Machine, map, OpenCharacter, Option, Place, Put, refl, resumed_stream, rules, slice_index, State, subst, suc, sym, take, Text, true, zero, ℕ, [], ◌++◌, ◌+◌, ◌-◌, ◌<◌, ◌≡◌, ◌≤◌}
use Rattle.vte_core.proofs.lemmas.bytes.Classes.{data_ends_nothing}
use Rattle.vte_core.proofs.lemmas.fields.PlaceOfState.{is_at-in, IsReachable}
use Rattle.vte_core.proofs.lemmas.places.BytesInStream.{bytes_lead-append, bytes_lead-byte, bytes_lead-nothing, no_escape}
use Rattle.vte_core.proofs.lemmas.places.PlaceLeads.{data-put}
use Rattle.vte_core.proofs.lemmas.positions.CallEnds.{call_ends-comes, call_ends-reads}
use Rattle.vte_core.proofs.lemmas.positions.SettledStates.{place-settled_text}
use Rattle.vte_core.proofs.lemmas.positions.TextRuns.{bytes_lead-text}
use Rattle.vte_core.proofs.lemmas.streams.After.{added-leads, added-nothing, after-leads, after-nothing}
use Rattle.vte_core.specs.AdvanceToRun.{IsLongestRun, IsRunIn, ReturnsRun, run_bytes, taken_bytes, taken_events}
use Rattle.vte_core.specs.declared.reader.run.Run.{Run}
use Rattle.vte_core.specs.declared.reader.run.RunKind.{RunKind}
use Rattle.vte_core.specs.declared.reader.run.RunKind.TheVariants.{Data as DataKind, Nothing as NoKind, Text as TextKind}
use Rattle.vte_core.specs.declared.reader.run.RunRange.{RunRange}
use Rattle.vte_core.specs.declared.reader.run.Taken.{Taken}
use Rattle.vte_core.specs.private.Prelude.{AreOfKind, ArePut, ComesToRun, IsDeviceData, IsOutsideTextAndData, IsTaken}
use Rattle.vte_core.specs.private.ToRun.{bytes_at, HasRun, IsWholeAt, kind_events}

-- ---- no run

has-nowhere : {B : Type 0} {limit : Option ℕ} {bytes : List ℕ} {from : ℕ} {range : RunRange} {parser : Machine B}
    → from ≤ length bytes → range.start ≡ from → range.end ≡ from
    → range.kind ≡ NoKind → HasRun limit bytes range parser
has-nowhere {limit} {bytes} {from} {range} {parser} within starts ends kind =
    search (rules, arith, added-nothing, append-nil)

-- A state other than `Text` and `DeviceData` is outside text and data.
pub outside-text_and_data : (state : State) → ((opened : OpenCharacter) → state ≡ Text opened → ⊥)
    → (state ≡ DeviceData → ⊥)
    → IsOutsideTextAndData state
outside-text_and_data state no_text no_data = search (rules, arith)

-- ---- a run of text leads from between characters back there

pub settled-text : {state : State} {opened : OpenCharacter} → state ≡ Text opened → IsSettled state
    → state ≡ Text Empty
settled-text {opened} is_text settled = search (rules, arith)

-- A run has bytes that lead from the parser's place to the same place.
has-run : {B : Type 0} {limit : Option ℕ} {bytes : List ℕ} {range : RunRange} {parser : Machine B} {here : Place}
    → IsReachable here
    → ((place : Place) → IsAtPlace limit parser place → place ≡ here)
    → BytesLead limit here (bytes_at bytes range) (kind_events range.kind (bytes_at bytes range)) here
    → ArePositions bytes range.start range.end → AreOfKind range.kind (bytes_at bytes range)
    → IsWholeAt bytes range range.kind → HasRun limit bytes range parser
has-run {limit} {bytes} {range} {parser} {here} is_reachable only leads is_range kind longest =
    search (rules, arith, added-leads, after-leads)

-- The text from one position to another is a run.
pub has-text : {B : Type 0} {limit : Option ℕ} {bytes : List ℕ} {from end : ℕ} {parser : Machine B}
    → parser.state ≡ Text Empty → from < end → end ≤ length bytes
    → IsRun false bytes from end → HasNoRunAt false bytes end
    → HasRun limit bytes (record { start = from; end = end; kind = TextKind }) parser
has-text {limit} {bytes} {from} {end} {parser} in_state in_order within is_run ended =
    has-run refl (λ place is_at. place-settled_text in_state is_at)
    (bytes_lead-text is_run)
    (record { in_order = omega (arith, in_order); within = within }) is_run (in_order, ended)

-- ---- a run of data leads from the data of a hooked string back there

data-by_place : {B : Type 0} (limit : Option ℕ) (parser : Machine B) (place : Place)
    → IsPlaceOfState limit DeviceData parser place
    → place ≡ InDeviceData
data-by_place limit parser InDeviceData fields = refl
data-by_place limit parser _ fields = absurd fields

bytes_lead-data : {limit : Option ℕ} (bytes : List ℕ) (n i : ℕ) → i + n ≤ length bytes → ArePut bytes i (i + n)
    → BytesLead limit InDeviceData (take n (drop i bytes)) (map Put (take n (drop i bytes))) InDeviceData
bytes_lead-data bytes zero i within are_put = bytes_lead-nothing
bytes_lead-data {limit} bytes (suc n) i within are_put =
    let b : ℕ = slice_index bytes i in
    let here : i < length bytes = omega (arith, within) in
    let put = are_put i (omega arith) (omega arith) in
    let rest : List ℕ = take n (drop (i + 1) bytes) in
    rw (drop_more bytes i 0 here)
    (bytes_lead-append
    (bytes_lead-byte (no_escape b (data_ends_nothing (class_of b) put))
    (data-put put))
    (bytes_lead-data bytes n (i + 1) (omega (arith, within))
    (λ k low high. are_put k (omega (arith, low)) (omega (arith, high)))))

-- The data from one position to another are a run.
pub has-data : {B : Type 0} {limit : Option ℕ} {bytes : List ℕ} {from end : ℕ} {parser : Machine B}
    → parser.state ≡ DeviceData → from < end → end ≤ length bytes
    → ArePut bytes from end → (end < length bytes → IsDeviceData (slice_index bytes end) → ⊥)
    → HasRun limit bytes (record { start = from; end = end; kind = DataKind }) parser
has-data {limit} {bytes} {from} {end} {parser} in_state in_order within are_put ended =
    has-run tt (λ place is_at. data-by_place limit parser place (is_at-in in_state is_at))
    (bytes_lead-data bytes (end - from) from (omega (arith, in_order, within))
    (λ k above below. are_put k above (omega (arith, in_order, below))))
    (record { in_order = omega (arith, in_order); within = within }) tt (in_order, ended)

-- ---- nothing open

-- Between characters, a parser goes on as a new one does.
pub reads-again : {B : Type 0} {limit : Option ℕ} {stream : List ℕ} (parser : Machine B) → parser.state ≡ Text Empty
    → HasReadWithLimit limit parser stream → HasReadWithLimit limit parser []
reads-again {limit} parser in_state has_read = search (rules, arith, place-settled_text, after-nothing)

-- ---- a call comes to a run, or ends without one

module _ {V B : Type 0} {call : ChunkCall V} {old new : V} {range : RunRange} {before parser : Machine B} where
  -- A call that is at the start of a run comes to it.
  pub comes-to_run : HasRun call.limit call.bytes range parser → range.start < range.end
      → call.is_terminated new ≡ false
      → ((stream : List ℕ) → HasReadWithLimit call.limit before stream
      → IsAtPosition call old new stream range.start parser)
      → ComesToRun call old new range before parser
  comes-to_run has nonempty goes is_at = search (rules, arith)

  -- A call that finds no run ends at its position.
  pub comes-nowhere : {from : ℕ} → from ≤ length call.bytes → range.start ≡ from → range.end ≡ from
      → range.kind ≡ NoKind
      → ((stream : List ℕ) → HasReadWithLimit call.limit before stream → IsAtPosition call old new stream from parser)
      → (from < length call.bytes → call.is_terminated new ≡ true) → ComesToRun call old new range before parser
  comes-nowhere within starts ends kind is_at stops = record {
    has = has-nowhere within starts ends kind;
    is_at_position =
        λ stream has_read. subst (λ n. IsAtPosition call old new stream n parser) (sym starts)
        (is_at stream has_read);
    may_go_on = λ nonempty. absurd (omega (arith, nonempty, starts, ends));
    stops = λ _ left. stops (omega (arith, starts, left));
  }

-- ---- the run that is taken there

-- What is taken is what is there.
record TakesRun (bytes : List ℕ) (end : ℕ) (run : List ℕ) (kind : RunKind) (taken : Taken) : Type 0 where
  bytes_are : taken_bytes taken ≡ run
  events : taken_events taken ≡ kind_events kind run
  longest : IsLongestRun bytes end taken

takes-by_kind : (bytes : List ℕ) (range : RunRange) (kind : RunKind) (taken : Taken)
    → IsTaken kind (bytes_at bytes range) taken
    → AreOfKind kind (bytes_at bytes range)
    → length (bytes_at bytes range) ≡ range.end - range.start → IsWholeAt bytes range kind
    → TakesRun bytes range.end (bytes_at bytes range) kind taken
takes-by_kind bytes range kind taken same of_kind size longest = search (rules, arith)

run-size : (bytes : List ℕ) (range : RunRange) → ArePositions bytes range.start range.end
    → length (bytes_at bytes range) ≡ range.end - range.start
run-size bytes range is_range = search (rules, arith, length-take, length-drop)

takes-run : {B : Type 0} {limit : Option ℕ} {bytes : List ℕ} {range : RunRange} {parser : Machine B} (taken : Taken)
    → HasRun limit bytes range parser
    → IsTaken range.kind (bytes_at bytes range) taken → TakesRun bytes range.end (bytes_at bytes range) range.kind taken
takes-run {bytes} {range} taken has is_taken =
    takes-by_kind bytes range range.kind taken is_taken has.kind (run-size bytes range has.is_range) has.longest

is_run-in : {B : Type 0} {limit : Option ℕ} {bytes : List ℕ} {run : Run} {range : RunRange} {parser : Machine B}
    → HasRun limit bytes range parser → run.start ≡ range.start
    → run.end ≡ range.end → IsTaken range.kind (bytes_at bytes range) run.taken → IsRunIn bytes run
is_run-in {bytes} {run} {range} has starts ends taken = search (rules, arith, takes-run, run-size)

-- What the callers of a call that comes to a run see of it.
module _ {V B : Type 0} {call : ChunkCall V} {old new : V} (run : Run) {range : RunRange} {before parser : Machine B}
    (come : ComesToRun call old new range before parser) (starts : run.start ≡ range.start) (ends : run.end ≡ range.end)
    (taken : IsTaken range.kind (bytes_at call.bytes range) run.taken) where
  pub returns-run : call.may_stop ≡ true
      → ReturnsRun call.step call.is_terminated old new call.limit (HasReadWithLimit call.limit before) call.bytes run
  returns-run may_stop =
      let takes = takes-run run.taken come.has taken in
      record {
        is_run = is_run-in come.has starts ends taken;
        comes =
            λ stream has_read.
            rw starts
            (call_ends-comes may_stop (omega (arith, come.has.is_range.in_order, come.has.is_range.within))
            (come.is_at_position stream has_read));
        adds =
            λ stream has_read.
            rw (starts, takes.bytes_are, takes.events)
            (come.has.adds _ (call_ends-reads (come.is_at_position stream has_read)));
        may_go_on = λ nonempty. come.may_go_on (omega (arith, nonempty, starts, ends));
        stops = λ empty left. come.stops (omega (arith, empty, starts, ends)) (omega (arith, left, starts));
      }

  -- The parser has read the run too.
  pub reads-run : (stream : List ℕ) → HasReadWithLimit call.limit before stream
      → HasReadWithLimit call.limit parser (resumed_stream stream call.bytes run.start ++ run_bytes run)
  reads-run stream has_read =
      rw (starts, (takes-run run.taken come.has taken).bytes_are)
      (come.has.reads _ (call_ends-reads (come.is_at_position stream has_read)))
