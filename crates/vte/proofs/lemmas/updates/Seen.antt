-- What the search from the end of a hold has seen (`HasSeen`), position by position: how many updates begin, and where
-- what is unread starts. Only a position with ESC can change it (`seen-skipped`, `last_escape`), and the older bytes
-- matter only by their last seven. A round of the search reads the last ESC (`seen-round`), and at the front the whole
-- hold is seen (`seen-all`).
use Rattle.std.proofs.lemmas.List.{take_rest}
use Rattle.std.specs.Prelude.{nat_lt, ◌&&◌}
use Rattle.memchr.specs.Find.{is_byte, NoneAfter, Nowhere, Passes}
use Rattle.vte.proofs.Common.{add-zero, after_last_end, after_word, ap, arith, begin_update, begins_ending_in_last, cases_Bool, drop, drop-drop, drop_all, drop_more, end_update, eqb, false, FindsRelease, from_begin_update, get_or, get_or-drop, get_or-take, inl, inr, is_prefix_of, IsHeldTail, length, length-append, length-drop, length-take-le, List, nat_tests, None, refl, rules, Some, suc, take, true, zero, ℕ, [], ◌++◌, ◌+◌, ◌-◌, ◌<◌, ◌∙◌, ◌∷◌, ◌≡◌, ◌≤◌}
use Rattle.vte.proofs.lemmas.updates.Sequences.{after_last_end-tail, after_word-whole, begins_ending_in_last-tail, from_begin-end_skipped, is_prefix_of-further, is_prefix_of-is, is_prefix_of-length, none_from_is_some}
use Rattle.vte.specs.private.Hold.{HasNoPrivateSequence, HasNoSequenceAt, HasNoSequenceBetween}

-- Neither sequence begins at a byte other than ESC, or if fewer than eight bytes are left.
neither-plain : (text : List ℕ) (position : ℕ) → position < length text → eqb (get_or text position 0) 0x1b ≡ false
    → HasNoSequenceAt text position
neither-plain text position within no_escape = grind (arith, nat_tests, drop_more)

is_prefix_of-short : (sequence text : List ℕ) → length text < length sequence → is_prefix_of sequence text ≡ false
is_prefix_of-short sequence text short = search (rules, arith, is_prefix_of-length)

neither-short : (text : List ℕ) (position : ℕ) → length text < position + 8 → HasNoSequenceAt text position
neither-short text position short =
    let at_most : length (drop position text) < 8 = rw length-drop (omega arith) in
    record {
      no_begin = is_prefix_of-short begin_update (drop position text) at_most;
      no_end = is_prefix_of-short end_update (drop position text) at_most;
    }

-- Neither sequence begins without ESC, or without `?` as the third byte.
neither-pair : (byte : ℕ) (rest text : List ℕ) (position : ℕ)
    → (eqb (get_or text position 0) 0x1b && eqb (get_or text (position + 2) 0) 0x3f) ≡ false
    → is_prefix_of (0x1b ∷ byte ∷ 0x3f ∷ rest) (drop position text) ≡ false
neither-pair byte rest text position not_both =
    let sequence = 0x1b ∷ byte ∷ 0x3f ∷ rest in elim (cases_Bool (is_prefix_of sequence (drop position text))) [
      | inl begins ↦
          let bytes_is = is_prefix_of-is sequence (drop position text) begins in
          let first : get_or (drop position text) 0 0 ≡ 0x1b = ap {B = ℕ} (λ bytes. get_or bytes 0 0) bytes_is in
          let third : get_or (drop position text) 2 0 ≡ 0x3f = ap {B = ℕ} (λ bytes. get_or bytes 2 0) bytes_is in
          absurd (grind (arith, nat_tests, get_or-drop, first, third, not_both))
      | inr not_begun ↦ not_begun
    ]

-- Neither sequence begins in a block, if no ESC of the block has `?` as the second byte after it.
pub neither-block : (text : List ℕ) (from n : ℕ) → HasNoPrivateSequence (take (n + 2) (drop from text)) n
    → HasNoSequenceBetween text from (from + n)
neither-block text from n no_private_sequence k low high =
    let i = k - from in
    let here : from + i ≡ k = omega arith in
    -- Byte j of the block, and of the two bytes after it, is byte `from + j` of the text.
    let byte : (j : ℕ) → j < n + 2 → get_or (take (n + 2) (drop from text)) j 0 ≡ get_or text (from + j) 0
    = λ j inside. get_or-take (n + 2) (drop from text) j 0 inside ∙ get_or-drop from text j 0 in
    let first : get_or (take (n + 2) (drop from text)) i 0 ≡ get_or text k 0 =
    byte i (omega arith) ∙ ap (λ position. get_or text position 0) here in
    let third : get_or (take (n + 2) (drop from text)) (i + 2) 0 ≡ get_or text (k + 2) 0 =
    byte (i + 2) (omega arith) ∙ ap (λ position. get_or text position 0) (omega arith) in
    -- So the test of the block says that byte k isn't ESC, or that the third byte from there isn't `?`.
    let not_both : (eqb (get_or text k 0) 0x1b && eqb (get_or text (k + 2) 0) 0x3f) ≡ false =
    rw (← first, ← third) (no_private_sequence i (omega arith)) in
    record {
      no_begin = neither-pair 0x5b (drop 3 begin_update) text k not_both;
      no_end = neither-pair 0x5b (drop 3 end_update) text k not_both;
    }

-- Neither sequence begins within the seven bytes before an ESC, as neither has an ESC after its first byte.
abbrev HasNoEscape : List ℕ → Type 0
HasNoEscape [] = Unit {0}
HasNoEscape (b ∷ bytes) = (eqb b 0x1b ≡ false) × HasNoEscape bytes

no_escape-within : (sequence text : List ℕ) (i : ℕ) → HasNoEscape sequence → i < length sequence
    → eqb (get_or text i 0) 0x1b ≡ true
    → is_prefix_of sequence text ≡ false
no_escape-within [] text i no_escape inside is_escape = absurd (omega arith)
no_escape-within (a ∷ sequence) [] i no_escape inside is_escape = refl
no_escape-within (a ∷ sequence) (b ∷ text) zero no_escape inside is_escape =
    let first = no_escape.0 in grind (arith, nat_tests)
no_escape-within (a ∷ sequence) (b ∷ text) (suc i) no_escape inside is_escape =
    is_prefix_of-further a b sequence text (no_escape-within sequence text i no_escape.1 (omega arith) is_escape)

begin_update_has_no_escape : HasNoEscape (drop 1 begin_update)
begin_update_has_no_escape = search rules

end_update_has_no_escape : HasNoEscape (drop 1 end_update)
end_update_has_no_escape = search rules

neither-before : (text : List ℕ) (position escape : ℕ) → position < escape → escape < position + 8
    → escape < length text
    → eqb (get_or text escape 0) 0x1b ≡ true → HasNoSequenceAt text position
neither-before text position escape before near inside is_escape =
    let cut = drop_more text position 0 (omega arith) in
    let i = escape - (position + 1) in
    let n : position + 1 + i ≡ escape = omega arith in
    -- The ESC is among the seven bytes after `position`.
    let there : eqb (get_or (drop (position + 1) text) i 0) 0x1b ≡ true = rw (get_or-drop, n) is_escape in
    -- A sequence has no ESC after its first byte, so none begins at `position`.
    let none_begins : (sequence : List ℕ) → HasNoEscape sequence → 7 ≡ length sequence
    → is_prefix_of (0x1b ∷ sequence) (drop position text) ≡ false
    = λ sequence no_escape size_is.
    rw cut
    (is_prefix_of-further 0x1b _ sequence _ (no_escape-within sequence _ i no_escape (omega (arith, size_is)) there)) in
    record {
      no_begin = none_begins (drop 1 begin_update) begin_update_has_no_escape refl;
      no_end = none_begins (drop 1 end_update) end_update_has_no_escape refl;
    }

after_word-begin : (text : List ℕ) → is_prefix_of begin_update text ≡ true → after_word end_update text ≡ None
after_word-begin text begins = rw (is_prefix_of-is begin_update text begins) refl

-- What was seen after the position `unread` of a text, of which the last `new` bytes are new.
pub record HasSeen (text : List ℕ) (new unread first_begin begin_count : ℕ) : Type 0 where
  pub no_end : after_last_end (drop unread text) ≡ None
  pub first_begin_is : first_begin ≡ length text - length (from_begin_update (drop unread text))
  pub begin_count_is : begin_count ≡ begins_ending_in_last new (drop unread text)

-- ---- one position more, from the end down

-- At the position, neither sequence begins, or a begin-update does, or an end-update, which ends the search.

module _ {text : List ℕ} {new position first_begin begin_count : ℕ} (within : position < length text)
    (seen : HasSeen text new (position + 1) first_begin begin_count) where
  seen-other : HasNoSequenceAt text position → HasSeen text new position first_begin begin_count
  seen-other neither = let cut = drop_more text position 0 within in
      let no_begin = none_from_is_some _ (rw cut at neither.no_begin) in
      let no_end = none_from_is_some _ (rw cut at neither.no_end) in
      grind (arith, cut)

  -- A begin-update with at most seven older bytes from its start on ends among the new ones, so it is counted.
  seen-begin : length text ≤ position + 7 + new → is_prefix_of begin_update (drop position text) ≡ true
      → HasSeen text new position position (begin_count + 1)
  seen-begin at_most is_begin =
      let cut = drop_more text position 0 within in
      let long = is_prefix_of-length begin_update (drop position text) is_begin in
      -- Fewer than `new` bytes follow the sequence, so it ends among the new bytes.
      let near : nat_lt (length (drop 7 (drop (position + 1) text))) new ≡ true =
      (let size = rw length-drop at long in rw (length-drop, length-drop) (grind (arith, nat_tests))) in
      let here = rw cut at is_begin in
      -- A begin-update is no end-update, so there is still none of those.
      let no_end = rw cut at (after_word-begin (drop position text) is_begin) in
      -- So the earliest begin-update is here, and one more ends among the new bytes.
      record {
        no_end = rw (cut, seen.no_end, no_end) refl;
        first_begin_is = rw (cut, here) (rw length-drop (omega arith));
        begin_count_is = rw (cut, after_word-whole begin_update _ here, near) (omega (arith, seen.begin_count_is));
      }

  -- An end-update ends the search, with what was seen after it.
  pub seen-end : is_prefix_of end_update (drop position text) ≡ true
      → FindsRelease text new (record { begin_count = begin_count; released = first_begin })
  seen-end is_end =
      let cut = drop_more text position 0 within in
      let here = rw cut at is_end in
      -- No update begins inside the end-update, so what was seen is what follows it.
      let skipped = from_begin-end_skipped new (get_or text position 0) (drop (position + 1) text) here in
      -- It is the last end-update of the text, as none was seen after it.
      let last : after_last_end text ≡ Some (drop 7 (drop (position + 1) text)) =
      after_last_end-earlier position text _ (rw (cut, seen.no_end, after_word-whole end_update _ here) refl) in
      record {
        begin_count = rw last (seen.begin_count_is ∙ skipped.1);
        released = rw last (seen.first_begin_is ∙ ap (λ part. length text - length part) skipped.0);
      }
    where
      after_last_end-earlier : (n : ℕ) (bytes later : List ℕ) → after_last_end (drop n bytes) ≡ Some later
          → after_last_end bytes ≡ Some later
      after_last_end-earlier zero bytes later is_last = is_last
      after_last_end-earlier (suc n) [] later is_last = is_last
      after_last_end-earlier (suc n) (b ∷ bytes) later is_last = rw (after_last_end-earlier n bytes later is_last) refl

-- ---- many positions more, at which no sequence begins

seen-further : {text : List ℕ} {new : ℕ} (n : ℕ) {position first_begin begin_count : ℕ} → position + n ≤ length text
    → ((k : ℕ) → position ≤ k → k < position + n → HasNoSequenceAt text k)
    → HasSeen text new (position + n) first_begin begin_count → HasSeen text new position first_begin begin_count
seen-further zero within neither seen = rw add-zero at seen
seen-further {text} {new} (suc n) {position} {first_begin} {begin_count} within neither seen =
    let same : position + suc n ≡ position + n + 1 = omega arith in
    seen-further n (omega arith) (λ k low high. neither k low (omega arith))
    (seen-other (omega arith) (rw same at seen) (neither (position + n) (omega arith) (omega arith)))

-- What was seen from `unread` on was also seen from an earlier position on, if no sequence begins in between.
seen-down : {text : List ℕ} {new position unread first_begin begin_count : ℕ} → position ≤ unread → unread ≤ length text
    → ((k : ℕ) → position ≤ k → k < unread → HasNoSequenceAt text k)
    → HasSeen text new unread first_begin begin_count → HasSeen text new position first_begin begin_count
seen-down {position} {unread} below within neither seen =
    let same : unread ≡ position + (unread - position) = omega arith in
    seen-further (unread - position) (omega arith) (λ k low high. neither k low (omega arith)) (rw same at seen)

-- ---- the end of a hold

-- There is an ESC at `position`, and everything after it was seen.
pub record IsLastEscape (all : List ℕ) (new position unread first_begin begin_count : ℕ) : Type 0 where
  pub earlier : position < unread
  pub inside : position < length all
  pub here : eqb (get_or all position 0) 0x1b ≡ true
  pub seen : HasSeen all new (position + 1) first_begin begin_count

module _ {all : List ℕ} {new position unread first_begin begin_count : ℕ}
    (last : IsLastEscape all new position unread first_begin begin_count)
    (from : ℕ) (low : from ≤ position) (near : position ≤ from + 7) where
  seen-before_escape : {first count : ℕ} → HasSeen all new position first count → HasSeen all new from first count
  seen-before_escape {first} {count} seen =
      let inside = last.inside in
      seen-down low (omega arith)
      (λ k low high. neither-before all k position high (omega arith) inside last.here) seen

  -- If the ESC begins a begin-update, this is counted, and all from up to seven bytes before it is seen.
  pub seen-begin_before : length all ≤ position + 7 + new → is_prefix_of begin_update (drop position all) ≡ true
      → HasSeen all new from position (begin_count + 1)
  seen-begin_before at_most is_begin = seen-before_escape (seen-begin last.inside last.seen at_most is_begin)

  -- If the ESC begins neither sequence, the same is seen.
  pub seen-other_before : is_prefix_of begin_update (drop position all) ≡ false
      → is_prefix_of end_update (drop position all) ≡ false → HasSeen all new from first_begin begin_count
  seen-other_before no_begin no_end =
      seen-before_escape (seen-other last.inside last.seen (record { no_begin = no_begin; no_end = no_end }))

module _ {held more text : List ℕ} {start : ℕ} (held_tail : IsHeldTail held more text start) where
  -- All held bytes, the older and the new ones. Byte k of their tail is byte `start + k` of them.
  abbrev all : List ℕ
  all = held ++ more

  tail-size : start + length text ≡ length all
  tail-size =
      let from = held_tail.start_is in
      omega (arith, ap length held_tail.bytes_is, length-drop start all, length-append held more)

  -- The search looks for a sequence in the tail as if in all bytes.
  pub tail-sequence : (position : ℕ) → take (length text - position) (drop position text) ≡ drop (start + position) all
  tail-sequence position =
      take_rest text position ∙ ap (drop position) held_tail.bytes_is ∙ drop-drop position start all

  tail-byte : (unread k : ℕ) → k < unread → get_or (take unread text) k 0 ≡ get_or all (start + k) 0
  tail-byte unread k inside =
      get_or-take unread text k 0 inside ∙ ap (λ bytes. get_or bytes k 0) held_tail.bytes_is ∙ rw get_or-drop

  neither-between : (from low unread : ℕ) → start + from ≡ low → unread ≤ length text
      → Nowhere (Passes (is_byte 0x1b) (take unread text)) from (length (take unread text))
      → (k : ℕ) → low ≤ k → k < start + unread → HasNoSequenceAt all k
  neither-between from low unread low_is within nowhere k above high =
      let i = k - start in
      let position : start + i ≡ k = omega arith in
      let here : get_or (take unread text) i 0 ≡ get_or all k 0 = tail-byte unread i (omega arith) ∙ rw position in
      neither-plain all k (omega (arith, tail-size))
      (grind (arith, nowhere i (omega arith) (rw length-take-le (omega arith))))

  -- Blocks in which neither sequence begins change nothing.
  pub seen-skipped : (unread before : ℕ) {first_begin begin_count : ℕ} → unread ≤ before → before ≤ length text
      → HasNoSequenceBetween text unread before → HasSeen all (length more) (start + before) first_begin begin_count
      → HasSeen all (length more) (start + unread) first_begin begin_count
  seen-skipped unread before at_most within none_between seen =
      seen-down (omega arith) (omega (arith, tail-size))
      (λ k low high.
      let position : k - start + start ≡ k = omega arith in
      let neither = none_between (k - start) (omega arith) (omega arith) in
      let tail : drop (k - start) text ≡ drop k all =
      ap (drop (k - start)) held_tail.bytes_is ∙ drop-drop (k - start) start all
      ∙ ap (λ position. drop position all) (omega arith) in
      record { no_begin = rw tail at neither.no_begin; no_end = rw tail at neither.no_end })
      seen

  -- The last seven bytes are too few for a sequence.
  pub seen-nothing : (unread : ℕ) → unread ≡ length text - 7
      → HasSeen all (length more) (start + unread) (start + length text) 0
  seen-nothing unread unread_is =
      let nothing_left = drop_all (length all) all (omega arith) in
      seen-down {unread = length all} (omega (arith, tail-size)) (omega arith)
      (λ k low high. neither-short all k (omega (arith, tail-size)))
      (record {
        no_end = rw nothing_left;
        first_begin_is = rw nothing_left (omega (arith, tail-size));
        begin_count_is = rw nothing_left;
      })

  -- The last ESC of what is unread is found, and everything after it was seen.
  pub last_escape : (position unread : ℕ) {first_begin begin_count : ℕ} → unread ≤ length text
      → NoneAfter (Passes (is_byte 0x1b) (take unread text)) 0 (length (take unread text)) position
      → Passes (is_byte 0x1b) (take unread text) position
      → HasSeen all (length more) (start + unread) first_begin begin_count
      → IsLastEscape all (length more) (start + position) (start + unread) first_begin begin_count
  last_escape position unread within none_after is_escape seen =
      let earlier : position < unread = omega (arith, length-take-le unread text within, none_after.high) in
      record {
        earlier = omega arith;
        inside = omega (arith, tail-size);
        here = rw (tail-byte unread position earlier) at is_escape;
        -- None of the bytes after the ESC is another one, so no sequence begins at them.
        seen =
            seen-down (omega arith)
            (omega (arith, tail-size))
            (neither-between (position + 1) _ unread (omega arith) within none_after.after) seen;
      }

  -- If no ESC is left, there is no end-update, as there is none in the older bytes.
  pub seen-all : (unread first_begin begin_count : ℕ) → after_last_end held ≡ None → unread ≤ length text
      → Nowhere (Passes (is_byte 0x1b) (take unread text)) 0 (length (take unread text))
      → HasSeen all (length more) (start + unread) first_begin begin_count
      → FindsRelease all (length more) (record { begin_count = begin_count; released = 0 })
  seen-all unread first_begin begin_count held_no_end within nowhere seen =
      -- Without ESC no sequence begins in what is unread, so all of the tail is seen.
      let rest =
      seen-down (omega arith) (omega (arith, tail-size))
      (neither-between 0 start unread (omega arith) within nowhere) seen in
      let tail : drop start all ≡ drop (length held - 7) all = rw held_tail.start_is in
      -- The tail has no end-update. With none in the older bytes, there is none at all.
      let no_end : after_last_end all ≡ None = cc (tail, after_last_end-tail held more held_no_end, rest.no_end) in
      -- So no bytes are released, and the updates that begin are those of the tail.
      record {
        begin_count = rw no_end (cc (tail, rest.begin_count_is, begins_ending_in_last-tail held more refl));
        released = rw no_end (omega arith);
      }

-- ---- a round of the search

-- The last ESC of what is unread is read, at `position`, and the blocks from `next` to `before` are skipped.
pub record IsRound (text : List ℕ) (unread position before next : ℕ) : Type 0 where
  pub within : unread ≤ length text
  pub none_after : NoneAfter (Passes (is_byte 0x1b) (take unread text)) 0 (length (take unread text)) position
  pub is_escape : Passes (is_byte 0x1b) (take unread text) position
  pub before_is : before ≡ position - 7
  pub skips : next ≤ before
  pub none_between : HasNoSequenceBetween text next before

-- A round by the contracts of what it calls: the `memrchr` that finds the ESC, and the function that skips blocks.
pub is_round : (text : List ℕ) (unread : ℕ) {position before next : ℕ} → unread ≤ length text
    → NoneAfter (Passes (is_byte 0x1b) (take unread text)) 0 (length (take unread text)) position
    × Passes (is_byte 0x1b) (take unread text) position
    → before ≡ position - 7 → next ≤ before → HasNoSequenceBetween text next before
    → IsRound text unread position before next
is_round text unread within found before_is skips none_between = record {
  within = within;
  none_after = found.0;
  is_escape = found.1;
  before_is = before_is;
  skips = skips;
  none_between = none_between;
}

module _ {text : List ℕ} {unread position before next : ℕ} (round : IsRound text unread position before next) where
  escape-earlier : position < unread
  escape-earlier = omega (arith, length-take-le unread text round.within, round.none_after.high)

  -- After a round fewer bytes are unread, so the search ends.
  pub unread-decreases : next < unread
  unread-decreases = omega (arith, escape-earlier, round.before_is, round.skips)

  -- What is seen if the ESC is read was seen from the end of the skipped blocks on.
  pub seen-round : {held more : List ℕ} {start first_begin begin_count first_begin_then begin_count_then : ℕ}
      (held_tail : IsHeldTail held more text start)
      → HasSeen (held ++ more) (length more) (start + unread) first_begin begin_count
      → (IsLastEscape (held ++ more) (length more) (start + position) (start + unread) first_begin begin_count
      → (from : ℕ) → from ≤ start + position → start + position ≤ from + 7
      → HasSeen (held ++ more) (length more) from first_begin_then begin_count_then)
      → HasSeen (held ++ more) (length more) (start + next) first_begin_then begin_count_then
  seen-round {start} held_tail seen reads =
      let before_is = round.before_is in
      seen-skipped held_tail next before round.skips (omega (arith, escape-earlier, round.within)) round.none_between
      (reads (last_escape held_tail position unread round.within round.none_after round.is_escape seen) (start + before)
      (omega arith) (omega arith))
