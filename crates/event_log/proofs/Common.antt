-- Words from std, specs/ and `vte_core` for the files of proofs, so that a file imports one list from here instead of
-- one line for each module.
pub use Rattle.std.proofs.Common.{ap, append-nil, append_assoc, arith, Bool, Bor, codes, drop, Err, false, get_or, IfSome, if◌then◌else◌, inl, inr, is_err, IsTrue, length, length-append, List, map, max, None, Ok, OnOk, Option, refl, Result, rules, Some, suc, sym, take, true, zero, ℕ, [], ◌%◌, ◌&&◌, ◌*◌, ◌++◌, ◌+◌, ◌-◌, ◌/◌, ◌<◌, ◌^◌, ◌∙◌, ◌∷◌, ◌≡◌, ◌≤◌, ◌⊎◌}
pub use Rattle.std.proofs.lemmas.Bool.{cases_Bool, le-leb}
pub use Rattle.std.proofs.lemmas.Bool.Decides.{Decides-below_and, nat_tests}
pub use Rattle.std.proofs.lemmas.Fmt.{decimal_digit, decimal_step, length-decimal-le}
pub use Rattle.std.proofs.lemmas.Grind.{common_steps, flat_map-append}
pub use Rattle.std.proofs.lemmas.List.{length-drop, length-map, length-take-le, nil_from_length, take-append-drop, take_all}
pub use Rattle.std.proofs.lemmas.List.Elements.{All-head, All-tail}
pub use Rattle.std.proofs.lemmas.Str.{encode_ascii, encodes-chars, len_utf8_bounds, length-encode}
pub use Rattle.std.proofs.Math.Seq.{take-append_seam}
pub use Rattle.std.specs.Fmt.{decimal}
pub use Rattle.std.specs.List.{All, concat, flat_map, join_with_byte}
pub use Rattle.std.specs.Str.{bytes_eq, chars, IsUtf8}
pub use Rattle.event_log.specs.CollectedText.{capacity, collected_text_of, CollectedText, empty_text, has_room_after, is_to_be_written, with_event}
unfoldable pub use Rattle.event_log.specs.CollectedText.{with_text}
pub use Rattle.event_log.specs.declared.lines.LogBuffer.{LogBuffer}
pub use Rattle.event_log.specs.Lines.{blank, line_feed}
unfoldable pub use Rattle.event_log.specs.Lines.{flag_field, hex_byte, hex_character, hex_digit, hex_digits, hex_field, hex_length, line_of, pieces_fields, sequence_fields}
unfoldable pub use Rattle.event_log.specs.Plain.{plain_text_of}
pub use Rattle.event_log.specs.private.Line.{BeginsLine, EndsLine, ExtendsLine}
pub use Rattle.event_log.specs.private.Progress.{AddsUpTo, HasKept, HasReadStream, HasWritten}
pub use Rattle.vte_core.proofs.lemmas.streams.ParameterTexts.{after_colon, after_semicolon, group_text, group_written, groups_written, shown-nil}
pub use Rattle.vte_core.specs.declared.parser.Parser.{Parser}
pub use Rattle.vte_core.specs.EarlyStop.{breaks_at, IsStart, resumed_stream, StopsExactly}
unfoldable pub use Rattle.vte_core.specs.EarlyStop.{reported_before}
pub use Rattle.vte_core.specs.EarlyStopLaws.{GoesOnFromPositions, ReportsUnits}
pub use Rattle.vte_core.specs.Event.{after, CsiDispatch, EscDispatch, Event, Execute, Hook, OscDispatch, Print, replacement}
pub use Rattle.vte_core.specs.EventBounds.{AreBrief, IsBounded}
pub use Rattle.vte_core.specs.Parameters.{AllFitU16, AreGroups, count_of, FitsU16, greatest_number, IsNonEmpty, semicolon}
unfoldable pub use Rattle.vte_core.specs.Parameters.{shown}
pub use Rattle.vte_core.specs.Parser.{HasRead}
pub use Rattle.vte_core.specs.RunText.{is_layout, run_event}
pub use Rattle.vte_core.specs.Stream.{added, default_limit, events}
