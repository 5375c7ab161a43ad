-- Words from std, specs/ and the crates below for the files of proofs, so that a file imports one list from here
-- instead of one line for each module.
pub use Rattle.std.proofs.Common.{add-zero, All, ap, append_assoc, arith, Bool, Bor, codes, drop, eqb, Err, false, get_or, inl, inr, length, length-append, length-drop, length-take, List, map, MatchResult, nat_le, nat_lt, None, Ok, Option, refl, Result, rules, Some, subst, suc, suc-add, sym, take, true, zero, zero-add, ℕ, [], ◌%◌, ◌++◌, ◌+◌, ◌-◌, ◌/◌, ◌<◌, ◌==◌, ◌^◌, ◌||◌, ◌∙◌, ◌∷◌, ◌≡◌, ◌≤◌, ◌⊎◌}
pub use Rattle.std.proofs.lemmas.Bool.{cases_Bool, cases_lt, false_from_ne_true, false≢true}
pub use Rattle.std.proofs.lemmas.Bool.Decides.{Decides-eqb, nat_tests}
pub use Rattle.std.proofs.lemmas.List.{append-nil, append_cancel_right, drop-drop, drop_all, drop_more, get_or-append-add, get_or-drop, get_or-take, length-take-le, map-id, take-append-drop, take_all, take_at, take_more, take_rest}
pub use Rattle.std.proofs.lemmas.List.Elements.{All-cons, All-drop, All-head, All-nil, All-tail, All-take}
pub use Rattle.std.proofs.lemmas.List.Splits.{length-slice_split, slice_split_first, slice_split_none}
pub use Rattle.std.proofs.lemmas.List.Sums.{fails_before_first, position_or_len_is}
pub use Rattle.std.proofs.Math.Bool.{and-false, or-false}
pub use Rattle.std.proofs.Math.Seq.{drop-append-add, drop-append_seam, take-add, take-append-add, take-append_seam}
pub use Rattle.std.specs.Fmt.{decimal}
unfoldable pub use Rattle.std.specs.Fmt.{digits}
pub use Rattle.std.specs.List.{concat, filter_map, join_with_byte, range_with_len}
pub use Rattle.std.specs.Option.{ok_or, option_or}
pub use Rattle.std.specs.Prelude.{replicate, slice_index_or}
pub use Rattle.std.specs.Str.{IsCharBoundary, IsUtf8}
unfoldable pub use Rattle.std.specs.Str.{chars, is_utf8, trim_end, trim_start}
pub use Rattle.vte.specs.Calls.{calls, calls_after, calls_from, calls_of, last_printed, last_printed_after, last_printed_from}
pub use Rattle.vte.specs.Colors.{kind_reading}
pub use Rattle.vte.specs.CommandCalls.{dynamic_calls, id_of, joined_texts, link_to, palette_entries_calls, palette_entry_calls, text_in}
unfoldable pub use Rattle.vte.specs.CommandCalls.{all_reset}
pub use Rattle.vte.specs.ControlSequenceCalls.{change_calls}
pub use Rattle.vte.specs.declared.ansi.calls.performer.ProcessorState.{ProcessorState}
pub use Rattle.vte.specs.declared.ansi.laws.replays.Step.{Step}
pub use Rattle.vte.specs.declared.ansi.laws.replays.Step.TheVariants.{Advance, StopSync}
pub use Rattle.vte.specs.declared.ansi.updates.engine.Engine.{Engine}
pub use Rattle.vte.specs.LongProcessor.{AdvancesLong, AdvancesUntilRefused, ProcessorLacksMemory, Reserves}
pub use Rattle.vte.specs.Memory.{HasTextMemory, KeepsMemory, ParserHasMemory}
pub use Rattle.vte.specs.Numbers.{decimal_number, first_number, first_numbers}
pub use Rattle.vte.specs.private.Colors.{first_component}
pub use Rattle.vte.specs.private.Engine.{EndsParsingTurn, EndsTurn, EndsUpdate, EngineIsAt, EngineReaches, FromEachState, HasBeenRefused, HasParsedPrefix, HasParsedWithoutBegin, HasTakenParsingTurn, HasTakenTurn, ParsesReleased, PartsAreAt, PartsAreAtWithMemory, PartsLeaveMemory, PartsReach}
pub use Rattle.vte.specs.private.Hold.{AddsToHold, FindsRelease, IsHeldTail, released_of, still_held}
pub use Rattle.vte.specs.private.JoinedTexts.{fits_text_capacity, FitsTextCapacity, joined_size, parts_left, text_to_join}
pub use Rattle.vte.specs.private.Parsing.{AdvancesAll, AdvancesUntilStop}
pub use Rattle.vte.specs.private.PerformerValue.{FitsText, performer_value, performer_with_event, PerformerValue, with_private_mode, with_private_modes}
pub use Rattle.vte.specs.Processor.{added_calls, all_bytes, AreInOrder, calls_between, calls_with_stops, done, EndsInBegin, ExpiredTurn, extend, given_bytes, hold_turn, HoldInvariantAt, IsInsideUpdate, IsOutsideUpdate, max_held, Meaning, parse, parsing_turn, ParsingTurn, prefix_to_begin, processor_meaning, release, State, stop, TakesAllTurns, TakesSteps, TakesTurns, timeout_set_times, turn, turn_kind_of, turns, update_nanos, with_held}
pub use Rattle.vte.specs.ProcessorCalls.{AdvancesInTurns, HasAdvanced, HasDelivered, HasParsedAll, HasReplayed, IsAt, Replays, StopsSync}
pub use Rattle.vte.specs.ProcessorFacts.{engine_facts, engine_facts_with, HasParsedAndHolds, held_of, long_facts, processor_facts, ProcessorFacts}
pub use Rattle.vte.specs.Refusal.{between_turns, HasAdvancedPart, inside_turn, ParsingTurnIsRefused, TakesTurnsUntilRefused, TurnIsRefused}
pub use Rattle.vte.specs.Rendition.{attribute_calls, attributes_from}
pub use Rattle.vte.specs.Split.{first_after, split_by}
pub use Rattle.vte.specs.Synchronized.{after_last_end, begin_count, begin_count_in_event, begin_update, begins_ending_in_last, end_update, from_begin_update, is_prefix_of, is_update_group, part_after_last_end, update_group_count}
pub use Rattle.vte.specs.Views.{engine_view, EngineView, limited_engine_view, limited_parser_view, long_parser_view, ParserView}
pub use Rattle.vte_core.proofs.lemmas.shapes.BrokenCharacters.{reported-settled, resumed_stream-settled, starts-settled}
pub use Rattle.vte_core.proofs.lemmas.streams.After.{added-nothing}
pub use Rattle.vte_core.proofs.lemmas.streams.EarlyStops.{added-append}
pub use Rattle.vte_core.proofs.lemmas.streams.StreamSteps.{counts_data, events_are_bounded, events_grow, opens_silently}
pub use Rattle.vte_core.specs.declared.parser.long_parser.LongParser.{LongParser}
pub use Rattle.vte_core.specs.declared.parser.refused.Refused.{Refused}
pub use Rattle.vte_core.specs.EarlyStop.{breaks_at, reported_before, resumed_stream, StopsExactly}
pub use Rattle.vte_core.specs.Event.{Event, OscDispatch, Print, replacement}
pub use Rattle.vte_core.specs.Stream.{added, default_limit, open_character}
unfoldable pub use Rattle.vte_core.specs.Stream.{events, outcome}
pub use Rattle.vte_handler.specs.Call.{Call, Input, ResetColor}
pub use Rattle.vte_handler.specs.Handler.{after}
pub use Rattle.vte_handler.specs.Timeout.{AllowsOnly, IsSteady, timeout_meaning, TimeoutMeaning}
pub use Rattle.vte_types.specs.Words.{after_word}
