-- What is open where a parser is, and what is stored of it where memory may be refused: both are said of the place,
-- so they hold of every parser that is at one.
use Rattle.vte_core.proofs.Common.{added, ap, arith, AtEscape, Bool, ChunkCall, class_of, CommandToClose, concat, Digit, eqb, escape, EscapeSequence, Event, events_from, false, HasReadWithLimit, InControlSequence, InDeviceControl, InDeviceData, InEscape, InIgnoredString, InSystemCommand, InText, is_truncated, IsAfter, IsAtPlace, IsDataOfOpenCommand, IsInsidePosition, IsPlaceOfState, IsRefusedInCommand, Leads, length, length-take, List, loses_data, Machine, None, open_command_size, open_data_count, Option, outcome, Place, Print, ProgressAt, ReadsUntilRefused, refl, replacement, rules, sequence_kind, slice_index, State, subst, sym, SystemCommand, take, Text, to_close_at, ToClose, true, ℕ, [], ◌++◌, ◌+◌, ◌<◌, ◌∙◌, ◌∷◌, ◌≡◌, ◌≢◌, ◌≤◌}
use Rattle.vte_core.proofs.lemmas.bytes.Utf8.{ascii-breaks}
use Rattle.vte_core.proofs.lemmas.fields.PlaceOfState.{in_command, is_at-by, is_at-place, IsReachable}
use Rattle.vte_core.proofs.lemmas.fields.Stores.{open_for, stored_length}
use Rattle.vte_core.proofs.lemmas.places.BytesInStream.{bytes_lead-byte, bytes_lead-item, waits-byte}
use Rattle.vte_core.proofs.lemmas.places.PlaceLeads.{command-item, control-head, data-put, device-head, escape-end, ignored-more, intermediate-end}
use Rattle.vte_core.proofs.lemmas.positions.Progress.{progress-command}
use Rattle.vte_core.proofs.lemmas.positions.SettledStates.{place-settled_text}
use Rattle.vte_core.proofs.lemmas.positions.ToRun.{reads-again}
use Rattle.vte_core.proofs.lemmas.shapes.FirstSegment.{text_outcome-broken}
use Rattle.vte_core.proofs.lemmas.streams.After.{added-after, added-leads, after-events, after-leads, after-nothing, after-to_close, events-empty}
use Rattle.vte_core.proofs.lemmas.streams.AnyLimit.{open_at_end-any}
use Rattle.vte_core.proofs.lemmas.streams.StreamSteps.{counts_data}
use Rattle.vte_core.specs.declared.parser.open.Open.TheVariants as kind
use Rattle.vte_core.specs.declared.utf8.OpenCharacter.TheVariants.{Empty}
use Rattle.vte_core.specs.Open.{open_at_end, open_of}
use Rattle.vte_core.specs.private.AtPlace.{open_in}
use Rattle.vte_core.specs.Stream.{IsClosed, IsOpen}

-- ---- what is open

-- Only between characters of a text does a parser go on as a new one: after every other place the digit 0 gives
-- something else than after the empty stream.

-- The byte is a digit, by which places can be told apart.
record IsProbe (b : ℕ) : Type 0 where
  class : class_of b ≡ Digit
  key : sequence_kind b ≡ EscapeSequence
  low : 0x20 ≤ b
  high : b < 0x80
  other : eqb b escape ≡ false

probe-zero : IsProbe 0x30
unfolding class_of sequence_kind
probe-zero = search (rules, arith)

-- After a stream, a digit adds what it reports at the place of the stream.
probe-gives : {limit : Option ℕ} {stream : List ℕ} {place next : Place} {b : ℕ} {reported : List Event}
    → IsProbe b → IsAfter limit stream place → Leads limit place b reported next → IsReachable next
    → added limit stream (b ∷ []) ≡ reported
probe-gives {limit} {stream} {place} {next} {b} {reported} probe is_after leads =
    added-leads is_after (bytes_lead-byte probe.other leads)

-- A digit breaks an open character.
probe-in_character : {limit : Option ℕ} {stream opened : List ℕ} {b : ℕ}
    → IsProbe b → is_truncated opened ≡ true → IsAfter limit stream (InText opened)
    → added limit stream (b ∷ []) ≡ Print replacement ∷ events_from limit (InText []) (b ∷ [])
probe-in_character {limit} {opened} {b} probe truncated is_after =
    let tests = ascii-breaks opened b truncated probe.high in
    let broken = text_outcome-broken opened b truncated tests.is_whole tests.is_open in
    added-after (b ∷ []) is_after
    ∙ ap (λ o. o.reported)
    (waits-byte limit (InText opened) (InText []) b (Print replacement ∷ []) [] probe.other broken)

-- A digit is printed alone only between characters.
probe-not_alone : {limit : Option ℕ} {stream : List ℕ} {place : Place} {b : ℕ}
    → IsProbe b → IsReachable place → IsAfter limit stream place → place ≢ InText []
    → added limit stream (b ∷ []) ≢ Print b ∷ []
probe-not_alone {place = InText []} probe is_reachable is_after other = absurd (other refl)
probe-not_alone {place = InText (c ∷ u)} {b} probe is_reachable is_after other =
    search (rules, arith, probe-in_character)
probe-not_alone {place = AtEscape} probe is_reachable is_after other = λ alone.
    let same = sym alone ∙ probe-gives probe is_after (escape-end probe.class refl probe.key) refl in cc
probe-not_alone {place = InEscape intermediates} probe is_reachable is_after other = λ alone.
    let same = sym alone ∙ probe-gives probe is_after (intermediate-end probe.class refl) refl in cc
probe-not_alone {place = InControlSequence head} probe is_reachable is_after other = λ alone.
    let same = sym alone ∙ probe-gives probe is_after (control-head (rw probe.class refl)) tt in cc
probe-not_alone {place = InDeviceControl head} probe is_reachable is_after other = λ alone.
    let same = sym alone ∙ probe-gives probe is_after (device-head (rw probe.class refl)) tt in cc
probe-not_alone {place = InDeviceData} probe is_reachable is_after other = λ alone.
    let same = sym alone ∙ probe-gives probe is_after (data-put (rw probe.class refl)) tt in cc
probe-not_alone {place = InSystemCommand items} probe is_reachable is_after other = λ alone.
    let same = sym alone ∙ probe-gives probe is_after (command-item probe.low) tt in cc
probe-not_alone {place = InIgnoredString} probe is_reachable is_after other = λ alone.
    let same = sym alone ∙ probe-gives probe is_after (ignored-more (rw probe.class refl)) tt in cc

-- ---- what is open in the state is open at the place, and at the end of the stream

open_in-place : {B : Type 0} (limit : Option ℕ) (state : State) (parser : Machine B) (place : Place)
    → IsPlaceOfState limit state parser place → open_in state ≡ open_of (to_close_at limit place)
open_in-place limit state parser place fields = search (rules, arith)

-- What `open` returns is what the stream leaves open.
pub which_is_open : {B : Type 0} {limit : Option ℕ} {stream : List ℕ} {parser : Machine B}
    → HasReadWithLimit limit parser stream → open_in parser.state ≡ open_at_end stream
which_is_open {limit} {stream} {parser} has_read =
    search (rules, arith, open_in-place, after-to_close, is_at-place, open_at_end-any)

-- Nothing is open only between characters.

settled-open_in : (state : State) → open_in state ≡ kind.Nothing → state ≡ Text Empty
settled-open_in (Text Empty) none_open = refl
settled-open_in _ none_open = cc

state-settled : {B : Type 0} (limit : Option ℕ) (state : State) (parser : Machine B)
    → IsPlaceOfState limit state parser (InText []) → open_in state ≡ kind.Nothing
state-settled limit state parser fields = open_in-place limit state parser (InText []) fields

is_closed-settled : {limit : Option ℕ} {stream : List ℕ} → IsAfter limit stream (InText [])
    → IsClosed limit stream
is_closed-settled {limit} {stream} is_after more =
    added-after more is_after
    ∙ sym (after-events more after-nothing
    ∙ ap (λ events. events ++ events_from limit (InText []) more) (events-empty limit))

-- If that is nothing, the parser goes on as a new one.
pub nothing_open_is_closed : {B : Type 0} {limit : Option ℕ} {stream : List ℕ} (parser : Machine B)
    → open_in parser.state ≡ kind.Nothing → HasReadWithLimit limit parser stream
    → HasReadWithLimit limit parser [] × IsClosed limit stream
nothing_open_is_closed {limit} {stream} parser nothing has_read =
    search (rules, arith, settled-open_in, place-settled_text, reads-again, is_closed-settled)

-- Otherwise a `0` shows that something is open.
pub something_open_is_open : {B : Type 0} {limit : Option ℕ} {stream : List ℕ} {parser : Machine B}
    → open_in parser.state ≢ kind.Nothing → HasReadWithLimit limit parser stream → IsOpen limit stream
something_open_is_open {limit} {parser} opened has_read =
    search (rules, arith, probe-not_alone, probe-zero, is_at-place, state-settled)

-- ---- memory is refused only at a data byte of an open command

-- A parser has read the bytes before its position, even inside a character.
pub inside-reads : {V B : Type 0} {call : ChunkCall V} {old value : V} {stream : List ℕ} {i : ℕ} {parser : Machine B}
    → IsInsidePosition call old value stream i parser → HasReadWithLimit call.limit parser (stream ++ take i call.bytes)
inside-reads inside = search (rules, arith)

-- What a stream leaves open is what its place leaves open.
to_close-at_place : {B : Type 0} (parser : Machine B) (stream : List ℕ) (has_read : HasReadWithLimit None parser stream)
    → (outcome None stream).to_close ≡ to_close_at None has_read.place
to_close-at_place parser stream has_read = after-to_close has_read.is_after (is_at-place has_read.is_at)

-- A byte that is refused is a data byte of an open command.
pub meets_data : {B : Type 0} {parser : Machine B} {stream bytes : List ℕ} {from : ℕ}
    → IsRefusedInCommand None parser.state parser.command bytes from
    → HasReadWithLimit None parser stream → IsDataOfOpenCommand stream (slice_index bytes from)
meets_data {parser} {stream} {bytes} {from} refused has_read =
    let byte : ℕ = slice_index bytes from in
    let at_command = in_command refused.inside has_read.is_at in
    let is_open = open_for at_command.keeps refused.at_most refused.is_data.1 in
    let last : Place = InSystemCommand (at_command.items ++ byte ∷ []) in
    let joined : IsAfter None (stream ++ byte ∷ []) last =
    after-leads
    (subst (IsAfter None stream) at_command.same has_read.is_after) (bytes_lead-item refused.is_data.0) tt in
    record {
      pieces = is_open.pieces;
      last = is_open.last;
      lost = loses_data None at_command.items;
      at_most = is_open.at_most;
      is_open =
          to_close-at_place parser stream has_read ∙ ap (to_close_at None) at_command.same
          ∙ ap (λ those. CommandToClose those (loses_data None at_command.items)) is_open.before;
      is_data = refused.is_data;
      joins = after-to_close joined tt
          ∙ ap (λ those. CommandToClose those (loses_data None (at_command.items ++ byte ∷ []))) is_open.later
          ∙ ap (λ d. CommandToClose (is_open.pieces ++ (is_open.last ++ byte ∷ []) ∷ []) d) is_open.lost;
    }

-- ---- a call is where it was refused memory

-- If memory is refused, a command is open, so no character is.
pub refuses-inside : {V B : Type 0} {call : ChunkCall V} {old new : V} {n : ℕ} {before parser : Machine B}
    → ReadsUntilRefused call old new n before parser → (stream : List ℕ) → HasReadWithLimit call.limit before stream
    → IsInsidePosition call old new stream n parser
refuses-inside {call} {old} {new} {n} {parser} refuses stream has_read =
    let position = refuses.is_at_position stream has_read in
    let at_command = in_command refuses.refused.inside position.is_at in
    record {
      place = InSystemCommand at_command.items;
      is_at = is_at-by refuses.refused.inside at_command.keeps;
      progress = progress-command (subst (ProgressAt call old new stream n) at_command.same position.progress);
    }

-- ---- a command stores as many bytes as are open, and outside a command none is open

-- In a command, the parser stores as many bytes as are open.
pub stored_is_open : {B : Type 0} {parser : Machine B} {stream : List ℕ} → parser.state ≡ SystemCommand
    → HasReadWithLimit None parser stream
    → length parser.command.bytes ≡ open_command_size stream
stored_is_open {parser} {stream} in_state has_read =
    let at_command = in_command in_state has_read.is_at in
    stored_length at_command.keeps
    ∙ sym (ap open_data_count (to_close-at_place parser stream has_read ∙ ap (to_close_at None) at_command.same))

state-by_command : {B : Type 0} {parser : Machine B} {place : Place} {pieces : List (List ℕ)} {lost : Bool}
    → IsAtPlace None parser place → to_close_at None place ≡ CommandToClose pieces lost
    → parser.state ≡ SystemCommand
state-by_command is_at is_open = search (rules, arith)

-- A command is open in the state `SystemCommand` alone.
state-in_command : {B : Type 0} (parser : Machine B) (stream : List ℕ) → HasReadWithLimit None parser stream
    → (pieces : List (List ℕ)) (lost : Bool) → (outcome None stream).to_close ≡ CommandToClose pieces lost
    → parser.state ≡ SystemCommand
state-in_command parser stream has_read pieces lost open_command =
    state-by_command has_read.is_at (sym (to_close-at_place parser stream has_read) ∙ open_command)

-- Of an open command, the parser stores the bytes of the pieces.
pub stores_pieces : {B : Type 0} (parser : Machine B) (stream : List ℕ) → HasReadWithLimit None parser stream
    → (pieces : List (List ℕ)) (lost : Bool)
    → (outcome None stream).to_close ≡ CommandToClose pieces lost → length parser.command.bytes ≡ length (concat pieces)
stores_pieces parser stream has_read pieces lost open_command =
    stored_is_open (state-in_command parser stream has_read pieces lost open_command) has_read
    ∙ ap open_data_count open_command

open_data-by_to_close : (to_close : ToClose) (n : ℕ)
    → ((pieces : List (List ℕ)) (lost : Bool) → to_close ≡ CommandToClose pieces lost → n ≡ length (concat pieces))
    → open_data_count to_close ≤ n
open_data-by_to_close to_close n stored = search (rules, arith)

-- No more bytes are open than are stored.
pub open_is_stored : {B : Type 0} (parser : Machine B) (stream : List ℕ) → HasReadWithLimit None parser stream
    → open_command_size stream ≤ length parser.command.bytes
open_is_stored parser stream has_read =
    open_data-by_to_close (outcome None stream).to_close (length parser.command.bytes)
    (stores_pieces parser stream has_read)

-- Outside a command no data bytes are open.
pub none_is_open : {B : Type 0} (parser : Machine B) (stream : List ℕ) → (parser.state ≡ SystemCommand → ⊥)
    → HasReadWithLimit None parser stream → open_command_size stream ≡ 0
none_is_open parser stream other has_read =
    omega (
      arith,
      open_data-by_to_close (outcome None stream).to_close 0
          (λ pieces lost is_open. absurd (other (state-in_command parser stream has_read pieces lost is_open))),
    )

-- If memory is refused, there wasn't enough for all bytes of the call.
pub lacks_all : {V B : Type 0} {call : ChunkCall V} {old new : V} {n : ℕ} {before parser : Machine B}
    → ReadsUntilRefused call old new n before parser → (stream : List ℕ) → HasReadWithLimit call.limit before stream
    → before.command.capacity ≤ parser.command.capacity
    → before.command.capacity < open_command_size stream + length call.bytes
lacks_all {call} {n} {parser} refuses stream has_read kept =
    let read : List ℕ = take n call.bytes in
    let stored =
    stored_is_open refuses.refused.inside
    (subst (λ limit. HasReadWithLimit limit parser (stream ++ read)) refuses.refused.unlimited
    (inside-reads (refuses-inside refuses stream has_read))) in
    omega (
      arith,
      stored,
      (counts_data stream read).left,
      refuses.refused.lacks_memory.lacks_memory,
      refuses.refused.lacks_memory.within,
      refuses.before_end,
      length-take n call.bytes,
      kept,
    )
