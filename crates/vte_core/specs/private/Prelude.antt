-- The words that contracts of the parser's functions share.
pub use Rattle.vte_core.specs.Class.{class_of, dispatches_escape, ends_sequence, is_device_data, is_final, is_head_byte, is_intermediate, is_parameter_byte, is_plain_control, IsDeviceData}
pub use Rattle.vte_core.specs.CommandMemory.{StoredCommand}
pub use Rattle.vte_core.specs.declared.parser.State.TheVariants.{DeviceData, Escape, EscapeIntermediate, IgnoredString, SystemCommand, Text}
pub use Rattle.vte_core.specs.declared.utf8.OpenCharacter.TheVariants.{Empty, One}
pub use Rattle.vte_core.specs.EarlyStop.{NoCharacterStops}
pub use Rattle.vte_core.specs.Event.{after, CsiDispatch, EscDispatch, Event, Execute, Hook, OscDispatch, Print, Put, Unhook}
pub use Rattle.vte_core.specs.LongParser.{read_count}
pub use Rattle.vte_core.specs.Looks.{looks_of, per_byte, total_looks}
pub use Rattle.vte_core.specs.Outcome.{SaysLoss}
pub use Rattle.vte_core.specs.OutsideRuns.{ReportsOutsideRuns}
pub use Rattle.vte_core.specs.Parameters.{is_separator, semicolon}
pub use Rattle.vte_core.specs.private.AtPlace.{HasReadWithLimit, IsAtPlace}
pub use Rattle.vte_core.specs.private.CollectedHead.{CountsNumbers, HasReadHead, HoldsHead, HoldsIntermediates, HoldsNumbers, HoldsWholeHead, ReadsHeadUpTo, SameIntermediates, SameNumbers, with_open_number}
pub use Rattle.vte_core.specs.private.Costs.{caller_looks, Costs, HandlesByteWithin, IsRefusedAt, lookahead, ReadsCall, ReadsWithin, SpendsWithin}
pub use Rattle.vte_core.specs.private.OpenCharacter.{BeginsFour, BeginsThree, BeginsTwo, bytes_of, Extends, IsLead, second_range}
pub use Rattle.vte_core.specs.private.Place.{AtEscape, closing_events_at, InControlSequence, InDeviceControl, IsSettledPlace, Place}
pub use Rattle.vte_core.specs.private.Progress.{Advances, AnyEvents, chunk_call, Completes, EventsOutsideRuns, IsAtPosition, IsSettled, MayRead, MayReadAt, MayReadByte, ReadsUntilRefused, ReadsUpTo}
pub use Rattle.vte_core.specs.private.Runs.{AreIgnored, ArePrintedAscii, ArePut, Each, IsPrintedAscii, IsRun, printed_ascii, PrintsRun}
pub use Rattle.vte_core.specs.private.Scans.{ArePositions, FindsEnd, IsWindow, LooksWithin, Scans}
pub use Rattle.vte_core.specs.private.Store.{ArePieceEnds, cut_pieces, fitting, HasCapacity, HoldsItems, ReservesCapacity, SameItems}
pub use Rattle.vte_core.specs.private.Takes.{Dispatches, Reports, ReportsAll, TakesByte, TakesBytes}
pub use Rattle.vte_core.specs.private.ToRun.{AreOfKind, ComesToRun, IsOutsideRunsInState, IsOutsideTextAndData, IsTaken, read_before_range, read_through_range}
pub use Rattle.vte_core.specs.RunText.{HasNoRunAt, is_layout, IsRunText, run_event}
pub use Rattle.vte_core.specs.SequenceKind.{begins_ignored_string}
pub use Rattle.vte_core.specs.Stream.{escape, IsClosed, IsOpen}
unfoldable pub use Rattle.vte_core.specs.Stream.{outcome}
pub use Rattle.vte_core.specs.SystemCommand.{has_room, IsCommandData, max_pieces}
unfoldable pub use Rattle.vte_core.specs.SystemCommand.{loses_data}
pub use Rattle.vte_core.specs.Text.{character_event, is_control_character, malformed_event}
pub use Rattle.vte_core.specs.Utf8.{from_to, is_in, is_truncated, scalar_of}
