-- What the calls of the library ensure.
use Rattle.std.specs.Prelude.{drop, false, length, List, take, ℕ, ◌++◌, ◌+◌, ◌<◌, ◌≡◌, ◌≤◌}
use Rattle.vte_c.specs.declared.event.VteEvent.{VteEvent}
use Rattle.vte_c.specs.declared.feed.VteCounts.{VteCounts}
use Rattle.vte_c.specs.Record.{data_kind, events_in, kinds_of, min_data, min_events, min_text, text_kind}
use Rattle.vte_c.specs.Reported.{AreEncoded, AtMostOneFollowsStop, bytes_read, HasReported, HasStripped, is_stop, no_room, NoEventStops, NoKindStops}
use Rattle.vte_core.specs.declared.parser.saved.Saved.{Saved}
use Rattle.vte_core.specs.Event.{Event}
use Rattle.vte_core.specs.Saved.{HasReadSaved}
use Rattle.vte_core.specs.Stream.{added, default_limit}

-- The result says that there was less than the minimum room, and nothing was read or written.
pub record FeedsNothing (parser next : Saved) (old_records records : List VteEvent)
    (old_area area : List ℕ) (counts : VteCounts) (result : ℕ) : Type 0 where
  pub returns_no_room : result ≡ no_room
  pub no_events : counts.events ≡ 0
  pub no_bytes : counts.bytes ≡ 0
  pub same_parser : next ≡ parser
  pub unwritten : (records ≡ old_records) × (area ≡ old_area)

-- `vte_feed` writes the events of the bytes, as many as fit.
pub record Feeds (kinds stop_kinds : ℕ) (parser next : Saved) (bytes : List ℕ)
    (old_records records : List VteEvent) (old_area area : List ℕ)
    (counts : VteCounts) (result : ℕ) : Type 0 where
  -- With enough room, the result is how many bytes were read.
  pub returns_bytes_read : min_events ≤ length old_records → min_data ≤ length old_area
      → result ≡ bytes_read result
  pub within : bytes_read result ≤ length bytes
  -- Whatever was given of these kinds before, what is written now comes next, and nothing else.
  pub exact : (given : List Event) (stream rest : List ℕ) →
      HasReported kinds parser given stream (bytes ++ rest) →
      HasReported kinds next (given ++ events_in counts.events records bytes area) stream
      (drop (bytes_read result) bytes ++ rest)
  -- The records and the data are the encoding of these events, and the counts are theirs.
  pub encoded : (given : List Event) (stream rest : List ℕ) →
      HasReported kinds parser given stream (bytes ++ rest) →
      AreEncoded (events_in counts.events records bytes area)
      counts.events counts.bytes records bytes area
  -- Whatever the parser's bytes are, what was written is in the buffers.
  pub fits : (counts.events ≤ length records) × (counts.bytes ≤ length area)
  -- With less than the minimum room nothing is read or written.
  pub too_few : length old_records < min_events
      → FeedsNothing parser next old_records records old_area area counts result
  pub too_little : length old_area < min_data
      → FeedsNothing parser next old_records records old_area area counts result
  -- With enough room, it reads at least one byte, unless it writes a record among the stops.
  pub reads_some : (given : List Event) (stream rest : List ℕ) →
      HasReported kinds parser given stream (bytes ++ rest) →
      min_events ≤ length old_records → min_data ≤ length old_area →
      NoKindStops stop_kinds (kinds_of (take counts.events records)) → 0 < length bytes → 0 < result
  -- If a record among the stops is written, at most one follows it.
  pub at_most_one_follows : (given : List Event) (stream rest : List ℕ) →
      HasReported kinds parser given stream (bytes ++ rest) →
      AtMostOneFollowsStop stop_kinds (kinds_of (take counts.events records))
  -- Unless text or data stop, a record among the stops came with the last byte that was read: no
  -- shorter prefix of the bytes adds one.
  pub stops_at_once : (stream : List ℕ) → HasReadSaved parser stream →
      is_stop kinds stop_kinds text_kind ≡ false → is_stop kinds stop_kinds data_kind ≡ false →
      (i : ℕ) → i < bytes_read result →
      NoEventStops (is_stop kinds stop_kinds) (added default_limit stream (take i bytes))

-- `vte_strip` writes the text of the bytes, as much as fits.
pub record Strips (parser next : Saved) (bytes old_text text : List ℕ)
    (written result : ℕ) : Type 0 where
  -- With enough room, the result is how many bytes were read.
  pub returns_bytes_read : min_text ≤ length old_text → result ≡ bytes_read result
  pub within : bytes_read result ≤ length bytes
  -- With enough room, it reads at least one byte, whatever the parser's bytes are.
  pub reads_some : min_text ≤ length old_text → 0 < length bytes → 0 < result
  -- It stops early only if the text of one more byte may not fit.
  pub fills : (given stream rest : List ℕ) → HasStripped parser given stream (bytes ++ rest) →
      min_text ≤ length old_text → result < length bytes → length text < written + 8
  -- Whatever text was written before, the text written now comes next, and nothing else.
  pub exact : (given stream rest : List ℕ) → HasStripped parser given stream (bytes ++ rest) →
      HasStripped next (given ++ take written text) stream (drop (bytes_read result) bytes ++ rest)
  -- Whatever the parser's bytes are, what was written is in the buffer.
  pub fits : written ≤ length text
  -- With less than the minimum room the result says so, and nothing is read or written.
  pub too_little : length old_text < min_text
      → (result ≡ no_room) × (written ≡ 0) × (next ≡ parser) × (text ≡ old_text)
