-- A text is a word, or begins with it, exactly if a comparison byte by byte says so. In a table, a text has the entry
-- of this row if the row's word is the text, and otherwise that of the rows that follow.
use Rattle.std.proofs.Common.{ap, arith, Bool, Bor, cond, drop, drop-cons, eqb, false, get_or, length, List, MatchOption, None, Option, option_map, refl, Some, suc, sym, true, zero, ℕ, [], ◌++◌, ◌+◌, ◌<◌, ◌∙◌, ◌∷◌, ◌≡◌, ◌≢◌}
use Rattle.std.proofs.lemmas.Bool.{and_parts, false_from_ne_true, ltb-true}
use Rattle.std.proofs.lemmas.Bool.Decides.{nat_tests}
use Rattle.std.proofs.lemmas.Slice.Eq.{bytes_eq-Decides}
use Rattle.std.proofs.lemmas.Str.{is_utf8-from_IsUtf8, IsUtf8-from_ascii}
use Rattle.std.specs.Prelude.{bytes_eq, map, nat_lt, ◌&&◌}
use Rattle.std.specs.Str.{is_utf8, IsAscii}
use Rattle.vte_types.specs.CursorIcon.{icon_of, icons}
use Rattle.vte_types.specs.Words.{after_word, entry_of_word}

-- Texts that differ aren't equal byte by byte.
pub bytes_eq-other : (text word : List ℕ) → (text ≡ word → ⊥) → bytes_eq text word ≡ false
bytes_eq-other text word differ = false_from_ne_true _ (λ equal. differ ((bytes_eq-Decides text word).0 equal))

-- A text that is shorter or longer differs.
pub bytes_eq-shorter : (text word : List ℕ) → length text < length word → bytes_eq text word ≡ false
bytes_eq-shorter text word shorter =
    bytes_eq-other text word (λ same. let same_length = ap length same in omega arith)

pub bytes_eq-longer : (text word : List ℕ) → length word < length text → bytes_eq text word ≡ false
bytes_eq-longer text word longer =
    bytes_eq-other text word (λ same. let same_length = ap length same in omega arith)

after_word-same_first : (a : ℕ) (word text : List ℕ) (t : Bool) → eqb a a ≡ t
    → cond t (after_word word text) None ≡ after_word word text
after_word-same_first a word text true test = refl
after_word-same_first a word text false test = absurd (grind (arith, nat_tests))

-- What follows a word is found after it.
pub after_word-append : (word rest : List ℕ) → after_word word (word ++ rest) ≡ Some rest
after_word-append [] rest = refl
after_word-append (a ∷ word) rest =
    after_word-same_first a word (word ++ rest) (eqb a a) refl ∙ after_word-append word rest

after_word-other_first : (a b : ℕ) (word text : List ℕ) (further : ((rest : List ℕ) → text ≢ word ++ rest)
    → after_word word text ≡ None) (t : Bool) → eqb a b ≡ t
    → ((rest : List ℕ) → (b ∷ text) ≢ (a ∷ word) ++ rest) → cond t (after_word word text) None ≡ None
after_word-other_first a b word text further true test differ =
    further (λ rest same. differ rest (let same_first : a ≡ b = grind (arith, nat_tests) in cc))
after_word-other_first a b word text further false test differ = refl

-- A text that doesn't begin with a word has nothing after it.
pub after_word-other : (word text : List ℕ) → ((rest : List ℕ) → text ≢ word ++ rest) → after_word word text ≡ None
after_word-other [] text differ = absurd (differ text refl)
after_word-other (a ∷ word) [] differ = refl
after_word-other (a ∷ word) (b ∷ text) differ =
    after_word-other_first a b word text (after_word-other word text) (eqb a b) refl differ

-- `strip_prefix` of the code finds what the definition has after a word.
pub after_word-is : (word text : List ℕ) (found : Option (Bor (List ℕ)))
    → MatchOption found ((rest : List ℕ) → text ≢ word ++ rest) (λ rest. text ≡ word ++ rest.now)
    → option_map (λ rest. rest.now) found ≡ after_word word text
after_word-is word text None differ = sym (after_word-other word text differ)
after_word-is word text (Some rest) text_is = sym (ap (after_word word) text_is ∙ after_word-append word rest.now)

-- ---- a table of words

-- A table in code has references to its words, and one in a definition has the words.
abbrev pub table_of : {A : Type 0} → List (Bor (List ℕ) × A) → List (List ℕ × A)
table_of rows = map (λ row. (row.0.now, row.1)) rows

-- From a row on, a text has that row's entry, or the one that it has from the next row on.
pub entry-from_row : {A : Type 0} (rows : List (Bor (List ℕ) × A)) (i : ℕ) (d : Bor (List ℕ) × A) (text : List ℕ)
    (t : Bool) → i < length rows → t ≡ bytes_eq text (get_or rows i d).0.now
    → entry_of_word (table_of (drop i rows)) text
    ≡ cond t (Some (get_or rows i d).1) (entry_of_word (table_of (drop (i + 1) rows)) text)
entry-from_row rows i d text t within test =
    let next : suc i ≡ i + 1 = omega arith in
    ap (λ rows. entry_of_word (table_of rows) text)
    (drop-cons rows i d within ∙ ap (λ n. get_or rows i d ∷ drop n rows) next)
    ∙ ap (λ t. cond t (Some (get_or rows i d).1) (entry_of_word (table_of (drop (i + 1) rows)) text))
    (sym test)

-- ---- keywords

-- They are ASCII, as a test of the whole table computes. So a text that isn't UTF-8 differs from each of them.

entry-other : {A : Type 0} (entry : A) (others : Option A) (t : Bool) → t ≡ false → others ≡ None
    → cond t (Some entry) others ≡ None
entry-other entry others true is_false others_none = cc
entry-other entry others false is_false others_none = others_none

-- Whether all bytes are ASCII.
abbrev are_ascii : List ℕ → Bool
are_ascii [] = true
are_ascii (b ∷ bytes) = nat_lt b 128 && are_ascii bytes

-- Whether the words of all rows are ASCII.
abbrev have_ascii_words : {A : Type 0} → List (List ℕ × A) → Bool
have_ascii_words [] = true
have_ascii_words (row ∷ rows) = are_ascii row.0 && have_ascii_words rows

are_below : (bytes : List ℕ) → are_ascii bytes ≡ true → IsAscii bytes
are_below [] ascii i = omega arith
are_below (b ∷ bytes) ascii zero = ltb-true b 128 (and_parts _ _ ascii).0
are_below (b ∷ bytes) ascii (suc i) = are_below bytes (and_parts _ _ ascii).1 i

ascii_is_utf8 : (bytes : List ℕ) → are_ascii bytes ≡ true → is_utf8 bytes ≡ true
ascii_is_utf8 bytes ascii = is_utf8-from_IsUtf8 bytes (IsUtf8-from_ascii bytes (are_below bytes ascii))

entry-other_bytes : {A : Type 0} (rows : List (List ℕ × A)) (text : List ℕ) → have_ascii_words rows ≡ true
    → is_utf8 text ≡ false → entry_of_word rows text ≡ None
entry-other_bytes [] text ascii not_utf8 = refl
entry-other_bytes (row ∷ rows) text ascii not_utf8 =
    entry-other row.1 (entry_of_word rows text) (bytes_eq text row.0)
    (bytes_eq-other text row.0
    (λ same. let same_test = ap is_utf8 same in let word_utf8 = ascii_is_utf8 row.0 (and_parts _ _ ascii).0 in cc))
    (entry-other_bytes rows text (and_parts _ _ ascii).1 not_utf8)

-- A text that isn't UTF-8 is no keyword.
pub no_icon : (text : List ℕ) → is_utf8 text ≡ false → icon_of text ≡ None
no_icon text not_utf8 = entry-other_bytes icons text refl not_utf8
