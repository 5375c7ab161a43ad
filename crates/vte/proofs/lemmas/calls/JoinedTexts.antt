-- Texts that are joined one by one: the buffer holds what was joined, the rest adds the others, and they fit (`Joins`).
-- A title or a link of one piece needs no joining.
use Rattle.std.proofs.lemmas.Str.{is_utf8-from_IsUtf8, IsUtf8-from_is_utf8}
use Rattle.std.specs.Option.{option_map, unwrap_or}
use Rattle.vte.proofs.Common.{ap, append-nil, append_assoc, arith, Bool, Bor, concat, drop, drop_more, false, false_from_ne_true, filter_map, FitsTextCapacity, get_or, id_of, is_utf8, IsUtf8, join_with_byte, joined_size, joined_texts, length, length-append, link_to, List, map, None, Option, refl, Some, sym, text_in, text_to_join, true, ℕ, [], ◌++◌, ◌+◌, ◌<◌, ◌∙◌, ◌∷◌, ◌≡◌, ◌≤◌}
use Rattle.vte.specs.declared.ansi.calls.joined_text.MalformedPiece.{MalformedPiece}
use Rattle.vte.specs.declared.ansi.calls.joined_text.MalformedPiece.TheVariants.{Empty, LeftOut}

-- What texts add after others, each with a separator unless it is the first.
abbrev joined_more : Bool → List (List ℕ) → List ℕ
joined_more is_first [] = []
joined_more is_first (text ∷ texts) = text_to_join is_first text ++ joined_more false texts

joined-text_to_join : (text : List ℕ) (texts : List (List ℕ))
    → join_with_byte 0x3b (text ∷ texts) ≡ text ++ joined_more false texts
joined-text_to_join text [] = sym (append-nil text)
joined-text_to_join text (next ∷ texts) = ap (λ more. text ++ (0x3b ∷ more)) (joined-text_to_join next texts)

joined-all : (texts : List (List ℕ)) → joined_more true texts ≡ join_with_byte 0x3b texts
joined-all [] = refl
joined-all (text ∷ texts) = sym (joined-text_to_join text texts)

-- The text holds what was joined, the texts of the pieces that are left add the rest, and they fit.
pub record Joins (malformed : MalformedPiece) (size : ℕ) (text : List ℕ) (is_first : Bool)
    (left all : List (List ℕ)) : Type 0 where
  pub joins : text ++ joined_more is_first (filter_map (text_in malformed) left) ≡ joined_texts malformed all
  pub fits : length text + joined_size left ≤ size

-- At the start nothing is joined, and all pieces are left.
pub joins-begin : {malformed : MalformedPiece} {size : ℕ} {text : List ℕ} {all : List (List ℕ)} → text ≡ []
    → FitsTextCapacity size all → Joins malformed size text true all all
joins-begin {malformed} {all} empty fits =
    record { joins = rw empty (joined-all (filter_map (text_in malformed) all)); fits = rw empty (omega (arith, fits)) }

texts-more : (malformed : MalformedPiece) (piece : List ℕ) {part : List ℕ} (left : List (List ℕ))
    → Some part ≡ text_in malformed piece
    → filter_map (text_in malformed) (piece ∷ left) ≡ part ∷ filter_map (text_in malformed) left
texts-more malformed piece left has_text = rw (← has_text) refl

texts-same : (malformed : MalformedPiece) (piece : List ℕ) (left : List (List ℕ)) → None ≡ text_in malformed piece
    → filter_map (text_in malformed) (piece ∷ left) ≡ filter_map (text_in malformed) left
texts-same malformed piece left no_text = rw (← no_text) refl

text-short : (malformed : MalformedPiece) (piece part : List ℕ) → Some part ≡ text_in malformed piece
    → length part ≤ length piece
text-short LeftOut piece part has_text = grind arith
text-short Empty piece part has_text = grind arith

text_to_join-length : (is_first : Bool) (text : List ℕ) → length (text_to_join is_first text) ≤ length text + 1
text_to_join-length true text = omega arith
text_to_join-length false text = omega arith

module _ (malformed : MalformedPiece) (pieces : List (Bor (List ℕ))) (i : ℕ) (d : Bor (List ℕ))
    (inside : i < length pieces)
    {size : ℕ} {text : List ℕ} {is_first : Bool}
    {all : List (List ℕ)}
    (before : Joins malformed size text is_first (map (λ piece. piece.now) (drop i pieces)) all) where
  -- Piece i, which is joined next.
  abbrev piece : List ℕ
  piece = (get_or pieces i d).now

  -- The pieces after it.
  abbrev left : List (List ℕ)
  left = map (λ (piece : Bor (List ℕ)). piece.now) (drop (i + 1) pieces)

  joins-opened : Joins malformed size text is_first (piece ∷ left) all
  joins-opened = rw (drop_more pieces i d inside) at before

  -- The next text fits into the size, with its separator.
  pub joins-fits : {part : List ℕ} → Some part ≡ text_in malformed piece → length text + length part + 1 ≤ size
  joins-fits {part} has_text =
      omega (arith, text-short malformed piece part has_text, joins-opened.fits, length-append piece (concat left))

  -- If the next piece has a text, it is joined to the others.
  pub joins-more : {part : List ℕ} → Some part ≡ text_in malformed piece
      → Joins malformed size (text ++ text_to_join is_first part) false left all
  joins-more {part} has_text = record {
    joins =
        append_assoc text (text_to_join is_first part) _
        ∙ (rw (texts-more malformed piece left has_text) at joins-opened.joins);
    fits = omega (
      arith,
      text-short malformed piece part has_text,
      joins-opened.fits,
      length-append text (text_to_join is_first part),
      length-append piece (concat left),
      text_to_join-length is_first part,
    );
  }

  -- If the next piece has no text, nothing is joined.
  pub joins-same : None ≡ text_in malformed piece → Joins malformed size text is_first left all
  joins-same no_text =
      record {
        joins = rw (texts-same malformed piece left no_text) at joins-opened.joins;
        fits = omega (arith, joins-opened.fits, length-append piece (concat left));
      }

-- ---- pieces that may be no text

-- The test `is_utf8` is true of a text if and only if it is `IsUtf8`.
pub no_utf8 : (text : List ℕ) → ¬ (IsUtf8 text) → is_utf8 text ≡ false
no_utf8 text not_utf8 = false_from_ne_true _ (λ utf8. not_utf8 (IsUtf8-from_is_utf8 text utf8))

pub is_text : (text : List ℕ) → IsUtf8 text → is_utf8 text ≡ true
is_text text utf8 = is_utf8-from_IsUtf8 text utf8

-- One piece needs no joining: its text, if any, is the joined text.
pub one_text : (malformed : MalformedPiece) (piece : List ℕ) (found : Option (Bor (List ℕ))) (nothing : Bor (List ℕ))
    → option_map (λ text. text.now) found ≡ text_in malformed piece
    → nothing.now ≡ [] → joined_texts malformed (piece ∷ []) ≡ (unwrap_or found nothing).now
one_text malformed piece None nothing found_is empty = rw (← found_is, empty) refl
one_text malformed piece (Some text) nothing found_is empty = rw (← found_is) refl

-- ---- the link to a text

-- A URI that isn't empty makes a link.
pub some_link : (parameters uri : List ℕ) → (uri ≡ [] → ⊥)
    → link_to parameters uri ≡ Some (record { id = id_of parameters; uri = uri })
some_link parameters [] some_uri = absurd (some_uri refl)
some_link parameters (byte ∷ uri) some_uri = refl
