-- Where the next byte breaks a character, what is reported there, and how the stream goes on: by the definitions, from
-- whether the character and the byte together are well formed, truncated or neither.
--
-- `reported-X`, `resumed_stream-X` and `starts-X` say of `reported_before`, `resumed_stream` and `IsStart` what holds
-- if X: the open character is `broken`, none is open (`settled`), or `all` bytes are read. `breaks-X` and `breaks_at-X`
-- say when.
use Rattle.vte_core.proofs.Common.{added, append-nil, arith, breaks, breaks_at, drop, drop_all, drop_more, false, get_or, inl, inr, is_truncated, is_well_formed, IsStart, length, List, open_character, Option, Print, refl, replacement, reported_before, resumed_stream, rules, slice_index, take, take_all, true, ℕ, [], ◌++◌, ◌+◌, ◌<◌, ◌∷◌, ◌≡◌, ◌≤◌}

-- ---- a byte breaks the open character if both together are neither well formed nor truncated

pub breaks-broken : (opened : List ℕ) (b : ℕ) → is_truncated opened ≡ true → is_well_formed (opened ++ b ∷ []) ≡ false
    → is_truncated (opened ++ b ∷ []) ≡ false → breaks opened (b ∷ []) ≡ true
unfolding is_truncated
breaks-broken opened b truncated not_well_formed_after not_truncated_after = search (rules, arith)

pub breaks-open : (opened : List ℕ) (b : ℕ) → is_truncated (opened ++ b ∷ []) ≡ true
    → breaks opened (b ∷ []) ≡ false
breaks-open [] b truncated_after = refl
breaks-open (a ∷ opened) b truncated_after = rw truncated_after refl

pub breaks-well_formed : (opened : List ℕ) (b : ℕ) → is_well_formed (opened ++ b ∷ []) ≡ true
    → breaks opened (b ∷ []) ≡ false
breaks-well_formed opened b well_formed_after = search (rules, arith)

pub breaks-no_byte : (opened : List ℕ) → breaks opened [] ≡ false
breaks-no_byte [] = refl
breaks-no_byte (a ∷ opened) = refl

-- Whether unread bytes break a character depends on the next one alone.
pub breaks-next : (opened : List ℕ) (b : ℕ) (rest other : List ℕ) → breaks opened (b ∷ rest) ≡ breaks opened (b ∷ other)
breaks-next [] b rest other = refl
breaks-next (a ∷ opened) b rest other = refl

-- Whether a byte breaks the open character depends on both alone.
pub breaks_at-byte : (stream bytes : List ℕ) {opened : List ℕ} (i : ℕ) {b : ℕ} → i < length bytes
    → b ≡ slice_index bytes i
    → open_character (stream ++ take i bytes) ≡ opened
    → breaks_at stream bytes i ≡ breaks opened (b ∷ [])
unfolding breaks_at
breaks_at-byte stream bytes {opened} i before_end is_next is_open =
    rw (is_open, drop_more bytes i 0 before_end, is_next)
    (breaks-next opened (get_or bytes i 0) (drop (i + 1) bytes) [])

pub breaks_at-settled : (stream bytes : List ℕ) (i : ℕ) → open_character (stream ++ take i bytes) ≡ []
    → breaks_at stream bytes i ≡ false
unfolding breaks_at
breaks_at-settled stream bytes i settled = rw settled refl

pub breaks_at-all : (stream bytes : List ℕ) (n : ℕ) → length bytes ≤ n → breaks_at stream bytes n ≡ false
unfolding breaks_at
breaks_at-all stream bytes n all_read = search (rules, arith, drop_all, breaks-no_byte)

-- ---- something starts where no character is open, and at a byte that breaks one

pub starts-settled : {stream bytes : List ℕ} {i : ℕ} → i < length bytes → open_character (stream ++ take i bytes) ≡ []
    → IsStart stream bytes i
starts-settled before_end settled = record { before_end = before_end; starts = inl settled }

pub starts-broken : {stream bytes : List ℕ} {i : ℕ} → i < length bytes → breaks_at stream bytes i ≡ true
    → IsStart stream bytes i
starts-broken before_end broken = record { before_end = before_end; starts = inr broken }

-- A byte that continues an open character is no start.
pub no_start : {stream bytes opened : List ℕ} {i b : ℕ} → i < length bytes → b ≡ slice_index bytes i
    → open_character (stream ++ take i bytes) ≡ opened
    → (opened ≡ [] → ⊥) → breaks opened (b ∷ []) ≡ false
    → IsStart stream bytes i → ⊥
no_start {stream} {bytes} {i} before_end is_next is_open some_open unbroken start =
    search (rules, arith, breaks_at-byte)

-- ---- what is reported, and how the stream goes on

pub reported-settled : (limit : Option ℕ) (stream bytes : List ℕ) (i : ℕ) → breaks_at stream bytes i ≡ false
    → reported_before limit stream bytes i ≡ added limit stream (take i bytes)
unfolding reported_before
reported-settled limit stream bytes i unbroken = rw unbroken (append-nil (added limit stream (take i bytes)))

pub reported-broken : (limit : Option ℕ) (stream bytes : List ℕ) (i : ℕ) → breaks_at stream bytes i ≡ true
    → reported_before limit stream bytes i ≡ added limit stream (take i bytes) ++ Print replacement ∷ []
unfolding reported_before
reported-broken limit stream bytes i broken = rw broken refl

pub reported-all : (limit : Option ℕ) (stream bytes : List ℕ) (n : ℕ) → n ≡ length bytes
    → reported_before limit stream bytes n ≡ added limit stream bytes
reported-all limit stream bytes n all_read = search (rules, arith, reported-settled, breaks_at-all, take_all)

pub resumed_stream-settled : (stream bytes : List ℕ) (n : ℕ) → breaks_at stream bytes n ≡ false
    → resumed_stream stream bytes n ≡ stream ++ take n bytes
unfolding resumed_stream
resumed_stream-settled stream bytes n unbroken = rw unbroken refl

pub resumed_stream-broken : (stream bytes : List ℕ) (n : ℕ) → breaks_at stream bytes n ≡ true
    → resumed_stream stream bytes n ≡ []
unfolding resumed_stream
resumed_stream-broken stream bytes n broken = rw broken refl

pub resumed_stream-all : (stream bytes : List ℕ) (n : ℕ) → n ≡ length bytes
    → resumed_stream stream bytes n ≡ stream ++ bytes
resumed_stream-all stream bytes n all_read = search (rules, arith, resumed_stream-settled, breaks_at-all, take_all)
