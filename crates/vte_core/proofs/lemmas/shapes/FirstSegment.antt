-- What a text gives, from its prefix, by the definition alone: the event of its first segment, and then what the rest
-- gives as a text. `text_outcome-X` says so if the text begins with X.
use Rattle.vte_core.proofs.Common.{ap, append-nil, arith, character_event, CharacterToClose, false, is_control_character, is_truncated, is_well_formed, leaves, length, List, malformed_event, nat_tests, NothingToClose, Print, refl, replacement, report, rows_after_byte, rows_after_bytes, rules, scalar_of, segment_event, segments, segments_after, segments_outcome, subst, take-append_seam, text_outcome, trailing_count, true, utf8_rows, ℕ, [], ◌++◌, ◌∙◌, ◌∷◌, ◌≡◌, ◌≤◌}
use Rattle.vte_core.proofs.lemmas.bytes.Utf8.{allowed_length-broken, allowed_length-end, allowed_length-none, allowed_length-whole, AtMostOne-first, AtMostOne-rows_after_bytes, complete_not_truncated, neither_complete_nor_truncated, rows_after_bytes-append, truncated-first, truncated_not_complete}

-- ---- no sequence is both well formed and truncated: at most one row is left after its bytes

well_formed_not_truncated : (opened : List ℕ) → is_well_formed opened ≡ true → is_truncated opened ≡ false
unfolding is_well_formed is_truncated
well_formed_not_truncated [] well_formed = refl
well_formed_not_truncated (a ∷ opened) well_formed =
    complete_not_truncated (rows_after_bytes opened (rows_after_byte a utf8_rows))
    (AtMostOne-rows_after_bytes opened _ (AtMostOne-first a)) well_formed

truncated_not_well_formed : (opened : List ℕ) → is_truncated opened ≡ true → is_well_formed opened ≡ false
unfolding is_well_formed is_truncated
truncated_not_well_formed [] truncated = cc
truncated_not_well_formed (a ∷ opened) truncated =
    truncated_not_complete (rows_after_bytes opened (rows_after_byte a utf8_rows))
    (AtMostOne-rows_after_bytes opened _ (AtMostOne-first a)) truncated

-- ---- how far a segment goes

-- The rest of a segment is as long as the rows allow: up to the end of a sequence, or to what breaks a truncated one.

pub trailing_count-well_formed : (first : ℕ) (rest following : List ℕ) → is_well_formed (first ∷ rest) ≡ true
    → trailing_count first (rest ++ following) ≡ length rest
unfolding is_well_formed trailing_count
trailing_count-well_formed first rest following well_formed =
    allowed_length-whole (rows_after_byte first utf8_rows) rest following (AtMostOne-first first) well_formed

trailing_count-broken : (first : ℕ) (rest : List ℕ) (b : ℕ) (following : List ℕ) → is_truncated (first ∷ rest) ≡ true
    → is_well_formed (first ∷ rest ++ b ∷ []) ≡ false → is_truncated (first ∷ rest ++ b ∷ []) ≡ false
    → trailing_count first (rest ++ b ∷ following) ≡ length rest
unfolding is_well_formed is_truncated trailing_count
trailing_count-broken first rest b following truncated not_well_formed_after not_truncated_after =
    search (rules, arith, allowed_length-broken, rows_after_bytes-append, neither_complete_nor_truncated)

trailing_count-end : (first : ℕ) (rest : List ℕ) → is_truncated (first ∷ rest) ≡ true
    → trailing_count first rest ≡ length rest
unfolding is_truncated trailing_count
trailing_count-end first rest truncated = allowed_length-end (rows_after_byte first utf8_rows) rest truncated

trailing_count-lone : (b : ℕ) (following : List ℕ) → is_well_formed (b ∷ []) ≡ false → is_truncated (b ∷ []) ≡ false
    → trailing_count b following ≡ 0
unfolding is_well_formed is_truncated trailing_count
trailing_count-lone b following not_well_formed not_truncated =
    rw (neither_complete_nor_truncated (rows_after_byte b utf8_rows) not_well_formed not_truncated)
    (allowed_length-none following)

-- ---- the first segment of a text

segments_after-length : (bytes following : List ℕ)
    → segments_after (length bytes) (bytes ++ following) ≡ segments following
segments_after-length [] following = refl
segments_after-length (a ∷ bytes) following = segments_after-length bytes following

-- What follows the first segment is divided by itself.
pub segments-first : (first : ℕ) (rest following : List ℕ) → trailing_count first (rest ++ following) ≡ length rest
    → segments (first ∷ rest ++ following) ≡ (first ∷ rest) ∷ segments following
segments-first first rest following counts_rest =
    rw (counts_rest, take-append_seam rest following, segments_after-length rest following) refl

-- ---- its event

-- A segment that isn't truncated is reported before those that follow.
segments_outcome-first : (segment : List ℕ) (more : List (List ℕ)) → is_truncated segment ≡ false
    → segments_outcome (segment ∷ more) ≡ report (segment_event segment ∷ []) (segments_outcome more)
segments_outcome-first segment more not_truncated = search (rules, arith)

lead_is_no_control : (a : ℕ) → 0xc2 ≤ a → is_control_character a ≡ false
lead_is_no_control a low = grind (arith, nat_tests)

malformed_event-truncated : (opened : List ℕ) → is_truncated opened ≡ true → malformed_event opened ≡ Print replacement
unfolding malformed_event
malformed_event-truncated opened truncated = search (rules, arith, lead_is_no_control, truncated-first)

segment_event-truncated : (opened : List ℕ) → is_truncated opened ≡ true → segment_event opened ≡ Print replacement
unfolding segment_event
segment_event-truncated opened truncated =
    rw (truncated_not_well_formed opened truncated) (malformed_event-truncated opened truncated)

-- ---- what a text gives, from the prefix

-- The event of its first segment, and then what the rest gives as a text.

text_outcome-first : (first : ℕ) (rest following : List ℕ) → trailing_count first (rest ++ following) ≡ length rest
    → is_truncated (first ∷ rest) ≡ false
    → text_outcome (first ∷ rest ++ following) ≡ report (segment_event (first ∷ rest) ∷ []) (text_outcome following)
unfolding text_outcome
text_outcome-first first rest following counts_rest not_truncated =
    ap segments_outcome (segments-first first rest following counts_rest)
    ∙ segments_outcome-first (first ∷ rest) (segments following) not_truncated

pub not_well_formed-nothing : is_well_formed [] ≡ false
unfolding is_well_formed utf8_rows
not_well_formed-nothing = refl

-- A well-formed sequence at the start of a text gives its event, and the text goes on after it.
pub text_outcome-well_formed : (bytes following : List ℕ) → is_well_formed bytes ≡ true
    → text_outcome (bytes ++ following) ≡ report (character_event (scalar_of bytes) ∷ []) (text_outcome following)
unfolding segment_event
text_outcome-well_formed bytes following well_formed =
    search (
      rules,
      arith,
      not_well_formed-nothing,
      text_outcome-first,
      trailing_count-well_formed,
      well_formed_not_truncated,
    )

-- After the U+FFFD of a broken character, the text goes on from the byte that broke it.
pub text_outcome-broken : (opened : List ℕ) (b : ℕ) → is_truncated opened ≡ true
    → is_well_formed (opened ++ b ∷ []) ≡ false
    → is_truncated (opened ++ b ∷ []) ≡ false
    → (following : List ℕ)
    → text_outcome (opened ++ b ∷ following) ≡ report (Print replacement ∷ []) (text_outcome (b ∷ following))
unfolding text_outcome is_truncated
text_outcome-broken opened b truncated not_well_formed_after not_truncated_after following =
    search (rules, arith, segments-first, trailing_count-broken, segment_event-truncated)

-- A byte that is malformed by itself gives its event, and the text goes on after it.
pub text_outcome-lone : (following : List ℕ) (b : ℕ) → is_well_formed (b ∷ []) ≡ false → is_truncated (b ∷ []) ≡ false
    → text_outcome (b ∷ following) ≡ report (malformed_event (b ∷ []) ∷ []) (text_outcome following)
unfolding segment_event
text_outcome-lone following b not_well_formed not_truncated =
    text_outcome-first b [] following (trailing_count-lone b following not_well_formed not_truncated) not_truncated
    ∙ rw not_well_formed refl

-- The bytes of an open character alone report nothing, and leave it open.
pub text_outcome-end : (opened : List ℕ) → is_truncated opened ≡ true
    → text_outcome opened ≡ leaves (CharacterToClose opened)
unfolding text_outcome is_truncated
text_outcome-end [] truncated = cc
text_outcome-end (a ∷ opened) truncated =
    ap segments_outcome one_segment ∙ rw truncated refl
  where
    one_segment : segments (a ∷ opened) ≡ (a ∷ opened) ∷ []
    one_segment =
        let same : opened ++ [] ≡ opened = append-nil opened in
        subst (λ (v : List ℕ). segments (a ∷ v) ≡ (a ∷ opened) ∷ []) same
        (segments-first a opened [] (ap (trailing_count a) same ∙ trailing_count-end a opened truncated))

pub text_outcome-nothing : text_outcome [] ≡ leaves NothingToClose
unfolding text_outcome
text_outcome-nothing = refl
