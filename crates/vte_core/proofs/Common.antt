-- Words from std and specs/ for the files of proofs, so that a file imports one list from here instead of one line for
-- each module. Words that only proofs use are at the end.
pub use Rattle.std.proofs.Common.{add-one, ap, append_assoc, arith, Bool, Bor, cond, drop, eqb, Err, false, get_or, IfErr, IfOk, if◌then◌else◌, inl, inr, IsOk, length, length-append, length-drop, length-take, length-take-le, List, lit<, map, min, nat_le, None, not, Ok, Option, refl, Result, rules, set, Some, subst, suc, sum, sym, take, take_at, true, zero, ℕ, [], ◌%◌, ◌&&◌, ◌*◌, ◌++◌, ◌+◌, ◌-◌, ◌/◌, ◌<◌, ◌==◌, ◌||◌, ◌∙◌, ◌∷◌, ◌≡◌, ◌≢◌, ◌≤◌, ◌⊎◌}
pub use Rattle.std.proofs.lemmas.Bool.{and_from, and_left, and_parts, and_right, cases_Bool, cases_eq, cases_lt, eqb-false, eqb-true, false≢true, le-leb, leb-true, lt-leb, ltb-false, ltb-true, ne_eqb, not-true}
pub use Rattle.std.proofs.lemmas.Bool.Decides.{nat_tests}
pub use Rattle.std.proofs.lemmas.Grind.{common_steps, flat_map-append}
pub use Rattle.std.proofs.lemmas.List.{append-nil, drop-append-le, drop-drop, drop_all, drop_more, get_or-drop, take-append-drop, take-append-le, take_all, take_more, take_rest}
pub use Rattle.std.proofs.lemmas.List.Elements.{All-append, All-cons, All-drop, All-head, All-map, All-nil, All-pop, All-push, All-tail, All-take, All-weaker}
pub use Rattle.std.proofs.lemmas.List.Sums.{fold-append, fold_push, sum_by-cons, sum_by-take-le, sum_by_push}
pub use Rattle.std.proofs.lemmas.Result.{err_from_is_err_and, IfErr-weaker, IfOk-weaker}
pub use Rattle.std.proofs.Math.Seq.{drop-append_seam, take-add, take-append_seam, take-nil}
pub use Rattle.std.proofs.Math.Utf8.{encodes, low_scalar, scalar, scalar_cases, scalars}
unfoldable pub use Rattle.std.proofs.Math.Utf8.{encode}
pub use Rattle.std.specs.Char.{digit_value, InScalarRange, IsScalar}
pub use Rattle.std.specs.Fmt.{decimal, HasWritten, IsPlainFormatter}
pub use Rattle.std.specs.List.{All, concat, filter, flat_map, fold, join_with_byte, list_all, list_any, onto_first, slice_range, slice_split}
pub use Rattle.std.specs.Prelude.{MatchOption, slice_index}
pub use Rattle.std.specs.Str.{chars, IsAscii, IsUtf8}
pub use Rattle.vte_core.specs.Body.{body_rest, sequence_outcome}
unfoldable pub use Rattle.vte_core.specs.Body.{body_outcome}
pub use Rattle.vte_core.specs.Class.{AreInClass, Cancel, Class, Colon, Delete, Digit, dispatches_escape, ends_head, ends_sequence, Final, High, Intermediate, is_cancel, is_device_data, is_final, is_head_byte, is_intermediate, is_key, is_marker, is_parameter_byte, is_plain_control, IsDeviceData, Marker, PlainControl, Semicolon}
unfoldable pub use Rattle.vte_core.specs.Class.{class_of}
pub use Rattle.vte_core.specs.CommandMemory.{StoredCommand}
unfoldable pub use Rattle.vte_core.specs.ControlSequence.{control_sequence_end, control_sequence_outcome}
pub use Rattle.vte_core.specs.CutBefore.{from_first}
pub use Rattle.vte_core.specs.declared.head.CollectedHead.{CollectedHead}
pub use Rattle.vte_core.specs.declared.head.HeadProgress.{HeadProgress}
pub use Rattle.vte_core.specs.declared.head.HeadProgress.TheVariants.{Entry, IllShaped, Intermediates, Parameters}
pub use Rattle.vte_core.specs.declared.parser.machine.Machine.{Machine}
pub use Rattle.vte_core.specs.declared.parser.refused.Refused.{Refused}
pub use Rattle.vte_core.specs.declared.parser.State.{State}
pub use Rattle.vte_core.specs.declared.parser.State.TheVariants.{ControlSequence, DeviceControl, DeviceData, Escape, EscapeIntermediate, IgnoredString, SystemCommand, Text}
pub use Rattle.vte_core.specs.declared.utf8.OpenCharacter.{OpenCharacter}
pub use Rattle.vte_core.specs.declared.utf8.OpenCharacter.TheVariants.{Empty, One, Three, Two}
pub use Rattle.vte_core.specs.DeviceControl.{ends_device_data}
unfoldable pub use Rattle.vte_core.specs.DeviceControl.{device_control_after_head, device_control_outcome, device_data_outcome}
pub use Rattle.vte_core.specs.EarlyStop.{breaks, ComesTo, IsStart, NoCharacterStops, StopsExactly}
unfoldable pub use Rattle.vte_core.specs.EarlyStop.{breaks_at, reported_before, resumed_stream}
unfoldable pub use Rattle.vte_core.specs.Escape.{escape_outcome}
pub use Rattle.vte_core.specs.Event.{after, CsiDispatch, EscDispatch, Event, Execute, Hook, OscDispatch, Print, Put, replacement, Unhook}
pub use Rattle.vte_core.specs.EventBounds.{AreBrief, FitsLimit, HasBoundedFields, IsBounded, IsCharacterEvent, IsExecuted, IsPrintable}
pub use Rattle.vte_core.specs.Head.{Head, head_after, reported_intermediates}
unfoldable pub use Rattle.vte_core.specs.Head.{head_of, is_well_shaped, sequence_event}
pub use Rattle.vte_core.specs.Intermediates.{are_too_many, kept_intermediates}
pub use Rattle.vte_core.specs.Laws.{AreParameters, CountsData, DispatchesShown}
pub use Rattle.vte_core.specs.LongParser.{IsDataOfOpenCommand, open_command_size, open_data_count, read_count}
pub use Rattle.vte_core.specs.Looks.{looks_of, per_byte}
pub use Rattle.vte_core.specs.Outcome.{CharacterToClose, closing_events, CommandToClose, events_before_escape, leaves, NothingToClose, open_bytes, Outcome, report, SaysLoss, ToClose}
pub use Rattle.vte_core.specs.OutsideRuns.{IsOutsideRuns, PrintsNoAscii, ReportsOutsideRuns}
pub use Rattle.vte_core.specs.Parameters.{AllFitU16, AreGroups, colon, count_of, FitsU16, greatest_number, grouped, is_colon, is_separator, IsNonEmpty, max_numbers, Number, number_of, numbers_of, semicolon, with_number}
unfoldable pub use Rattle.vte_core.specs.Parameters.{groups_of, has_too_many_numbers, numbers, shown}
pub use Rattle.vte_core.specs.private.AtPlace.{HasReadWithLimit, IsAtPlace, IsPlaceOfState}
pub use Rattle.vte_core.specs.private.CollectedHead.{CountsNumbers, HasReadHead, HoldsHead, HoldsIntermediates, HoldsNumbers, IsMarker, numbers_from, ReadsHead, SameIntermediates, SameNumbers, StaysIllShaped}
pub use Rattle.vte_core.specs.private.Costs.{caller_looks, lookahead, SpendsWithin}
pub use Rattle.vte_core.specs.private.OpenCharacter.{bytes_of, Extends, may_continue}
unfoldable pub use Rattle.vte_core.specs.private.OpenCharacter.{second_range}
pub use Rattle.vte_core.specs.private.Place.{AtEscape, BytesLead, closing_events_at, InControlSequence, InDeviceControl, InDeviceData, InEscape, InIgnoredString, InSystemCommand, InText, IsAfter, IsSettledPlace, Leads, Place, rest_outcome, to_close_at}
unfoldable pub use Rattle.vte_core.specs.private.Place.{outcome_from}
pub use Rattle.vte_core.specs.private.Progress.{AddsOutsideRuns, Advances, AnyEvents, chunk_call, ChunkCall, EventsOutsideRuns, IsAtPosition, IsInsidePosition, IsRefusedInCommand, IsSettled, MayGoOn, ProgressAt, ProgressInside, ReadsUntilRefused, ReadsUpTo}
pub use Rattle.vte_core.specs.private.Runs.{AreIgnored, ArePrintedAscii, ArePut, IsIgnored, IsPrintedAscii, IsRun, IsUtf8Run, printed_ascii, PrintsRun}
pub use Rattle.vte_core.specs.private.Scans.{ArePositions, Scans}
pub use Rattle.vte_core.specs.private.Store.{cut_data, cut_pieces, ends_after, fitting, HoldsItems, pieces_from, PiecesEnd, SameItems}
pub use Rattle.vte_core.specs.private.Takes.{TakesByte, TakesBytes}
pub use Rattle.vte_core.specs.RunText.{ends_run, HasNoRunAt, is_layout, run_event, StaysInRun}
pub use Rattle.vte_core.specs.SequenceKind.{EscapeSequence, SequenceKind}
unfoldable pub use Rattle.vte_core.specs.SequenceKind.{sequence_kind}
pub use Rattle.vte_core.specs.Stream.{added, cut_at_escape, default_limit, escape, with_bodies}
unfoldable pub use Rattle.vte_core.specs.Stream.{events, open_character, outcome}
pub use Rattle.vte_core.specs.SystemCommand.{bell, ends_system_command, has_room, is_data_item, IsCommandData, kept_after, max_pieces, system_command_rest}
unfoldable pub use Rattle.vte_core.specs.SystemCommand.{kept_items, loses_data, pieces_of, system_command_outcome}
pub use Rattle.vte_core.specs.Text.{is_control_character, segments_outcome}
unfoldable pub use Rattle.vte_core.specs.Text.{character_event, executed_events, malformed_event, segment_event, text_outcome}
pub use Rattle.vte_core.specs.Utf8.{allowed_length, from_to, is_complete, is_in, Range, rows_after_byte, rows_after_bytes, scalar_of, segments, segments_after}
unfoldable pub use Rattle.vte_core.specs.Utf8.{is_truncated, is_well_formed, trailing_count, utf8_rows}

-- ---- words of proofs alone

-- There is at most one event, and it is a character event.
abbrev pub IsAtMostOneCharacter : List Event → Type 0
IsAtMostOneCharacter [] = Unit {0}
IsAtMostOneCharacter (event ∷ []) = IsCharacterEvent event
IsAtMostOneCharacter _ = ⊥

-- The bytes of the open character at a place.
abbrev pub open_at : Place → List ℕ
open_at (InText bytes) = bytes
open_at _ = []

-- The events of more bytes after a place.
abbrev pub events_from : Option ℕ → Place → List ℕ → List Event
events_from limit place more = (outcome_from limit place more).reported

-- How far a head has been read after the numbers from one position to another.
abbrev pub progress_after : HeadProgress → ℕ → ℕ → HeadProgress
progress_after reached from to = if from == to then reached else Parameters
