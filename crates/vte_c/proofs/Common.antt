-- Words from std, specs/ and the crates below for the files of proofs, so that a file imports one list from here
-- instead of one line for each module.
pub use Rattle.std.proofs.Common.{add-one, ap, append-nil, append_assoc, arith, Bool, drop, false, get_or, if◌then◌else◌, inl, inr, length, length-append, length-drop, length-take, List, map, min, nat_le, nat_lt, refl, rules, set, Some, subst, suc, sym, take, true, zero, ℕ, [], ◌%◌, ◌&&◌, ◌*◌, ◌++◌, ◌+◌, ◌-◌, ◌/◌, ◌<◌, ◌==◌, ◌∙◌, ◌∷◌, ◌≡◌, ◌≤◌}
pub use Rattle.std.proofs.lemmas.Bool.{cases_Bool, cases_lt, eqb-true, false≢true, le-leb, or_parts}
pub use Rattle.std.proofs.lemmas.Bool.Decides.{nat_tests}
pub use Rattle.std.proofs.lemmas.Grind.{flat_map-append}
pub use Rattle.std.proofs.lemmas.List.{drop-append-le, flat_map_more, length-map, length-set, map-append, take-append-drop, take-append-le, take-map, take-take, take_all, take_more}
pub use Rattle.std.proofs.lemmas.List.Elements.{All-head, All-tail, filter-append}
pub use Rattle.std.proofs.lemmas.List.Sums.{sum_by-cons}
pub use Rattle.std.proofs.lemmas.Str.{encodes-chars, len_utf8_bounds, length-encode}
pub use Rattle.std.proofs.Math.Nat.{add-zero, add_assoc, zero-add}
pub use Rattle.std.proofs.Math.Seq.{drop-append_seam, drop-drop, map-set_same, take-add, take-append_seam}
pub use Rattle.std.specs.List.{All, concat, flat_map}
pub use Rattle.std.specs.Str.{chars, IsUtf8}
pub use Rattle.event_log.specs.Plain.{plain_text}
unfoldable pub use Rattle.event_log.specs.Plain.{plain_text_of}
pub use Rattle.vte_c.specs.declared.event.VteEvent.{VteEvent}
pub use Rattle.vte_c.specs.declared.event_writer.EventWriter.{EventWriter}
pub use Rattle.vte_c.specs.private.Buffers.{AreaHolds, AreCharacters, AreEmptyBuffers, Buffers, buffers_of, buffers_with_event, has_room_for_record, must_return, paused_if, resumed, with_run, with_run_record, with_taken}
unfoldable pub use Rattle.vte_c.specs.private.Buffers.{with_record, with_record_alone}
pub use Rattle.vte_c.specs.private.Feeding.{any_of_kinds, Continues, HasEntries, HasFed, HasReadOn, IsPrefix, NoRecordStops, NoRunStops, ReadsOn, with_entries}
pub use Rattle.vte_c.specs.private.WrittenText.{text_with_event, written_text_of, WrittenText}
unfoldable pub use Rattle.vte_c.specs.private.WrittenText.{text_with}
pub use Rattle.vte_c.specs.Record.{all_kinds, count_byte, data_of, DataRun, Entry, entry_data, entry_events, event_kind, events_in, events_of_run, flag_byte, group_bytes, groups_in, InInput, InputRunKind, intermediates_in, is_at_limit, kinds_of, max_data_per_byte, max_piece_bytes, may_have_lost, numbers_in, osc_kind, piece_bytes, pieces_in, record_at, records_from, run_kind, run_record, Single, TextRun, two_bytes, wanted_events, with_intermediates, with_loss}
unfoldable pub use Rattle.vte_c.specs.Record.{contains_kind, event_in, events_of, without_loss}
pub use Rattle.vte_c.specs.Reported.{AreEncoded, AreReadable, AtMostOneFollowsStop, bytes_read, HasGiven, HasReported, is_stop, IsRunAt, IsRunOfKind, no_room, NoEventStops, NoKindStops}
pub use Rattle.vte_core.specs.declared.parser.Parser.{Parser}
pub use Rattle.vte_core.specs.declared.parser.saved.Saved.{Saved}
pub use Rattle.vte_core.specs.EarlyStop.{breaks, ComesTo, IsStart}
unfoldable pub use Rattle.vte_core.specs.EarlyStop.{breaks_at, reported_before, resumed_stream}
pub use Rattle.vte_core.specs.EarlyStopLaws.{GoesOnFromPositions, ReportsUnits}
pub use Rattle.vte_core.specs.Event.{after, CsiDispatch, EscDispatch, Event, Execute, Hook, OscDispatch, Print, Put, replacement, Unhook}
pub use Rattle.vte_core.specs.EventBounds.{AreBrief, IsBounded, IsCharacterEvent}
pub use Rattle.vte_core.specs.Laws.{OpensSilently}
pub use Rattle.vte_core.specs.Parameters.{AreGroups, count_of, IsNonEmpty}
pub use Rattle.vte_core.specs.Parser.{HasRead}
pub use Rattle.vte_core.specs.Saved.{HasReadSaved}
pub use Rattle.vte_core.specs.Stream.{added, default_limit}
unfoldable pub use Rattle.vte_core.specs.Stream.{events, open_character}
