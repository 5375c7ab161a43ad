-- Runs of text among the bytes of a call (`IsRun`): `run-X`, X is a run. By what std has of characters and their bytes.
use Rattle.std.proofs.lemmas.List.{get_or-take, length-take}
use Rattle.std.proofs.lemmas.List.Elements.{All-from_get_or}
use Rattle.std.proofs.lemmas.Str.{chars-append, chars-IsAscii, chars-nil, chars_past_char, IsUtf8-append, IsUtf8-encode, IsUtf8-from_ascii, IsUtf8-nil}
use Rattle.std.proofs.lemmas.Str.Ascii.{IsAscii-cons, IsAscii-from_reads, IsAscii-nil}
use Rattle.vte_core.proofs.Common.{after, All, All-append, All-cons, All-nil, ap, append-nil, ArePrintedAscii, arith, Bool, chars, drop, encode, Event, false, get_or, get_or-drop, is_control_character, is_in, is_layout, IsAscii, IsPrintedAscii, IsRun, IsScalar, IsUtf8Run, length, List, map, nat_tests, Print, printed_ascii, refl, rules, run_event, slice_index, StaysInRun, subst, sym, take, true, ℕ, [], ◌++◌, ◌+◌, ◌-◌, ◌<◌, ◌∙◌, ◌∷◌, ◌≡◌, ◌≤◌}
use Rattle.vte_core.proofs.lemmas.bytes.Each.{one_byte, slice-then}

-- ---- which characters stay in a run

-- All characters except controls stay in a run, and with `layout` HT, LF and CR do too.

pub no_control-stays : (layout : Bool) (scalar : ℕ) → is_control_character scalar ≡ false → StaysInRun layout scalar
no_control-stays layout scalar no_control = search (rules, arith)

pub layout-stays : (scalar : ℕ) → is_layout scalar ≡ true → StaysInRun true scalar
layout-stays scalar is_layout_character = rw is_layout_character refl

-- HT, LF and CR are controls, and ASCII.
pub layout-is_control_character : (scalar : ℕ) → is_layout scalar ≡ true → is_control_character scalar ≡ true
layout-is_control_character scalar is_layout_character = grind (arith, nat_tests)

pub layout-is_ascii : (scalar : ℕ) → is_layout scalar ≡ true → scalar < 0x80
layout-is_ascii scalar is_layout_character = grind (arith, nat_tests)

no_layout : (b : ℕ) → IsPrintedAscii b → is_layout b ≡ false
no_layout b printed = let low = printed.0 in let high = printed.1 in grind (arith, nat_tests)

-- A byte of printed ASCII gives the same event, whether runs keep HT, LF and CR or not.
pub run_event-printed : (layout : Bool) (b : ℕ) → IsPrintedAscii b → run_event layout b ≡ Print b
run_event-printed false b printed = refl
run_event-printed true b printed = rw (no_layout b printed) refl

plain-stays : (layout : Bool) (b : ℕ) → IsPrintedAscii b → StaysInRun layout b
plain-stays layout b printed = search (rules, arith)

-- ---- printed ASCII is a run, and two runs joined are one

utf8_run-ascii : {layout : Bool} {bytes : List ℕ} → IsAscii bytes → All (StaysInRun layout) bytes
    → IsUtf8Run layout bytes
utf8_run-ascii {layout} {bytes} ascii stay =
    record {
      utf8 = IsUtf8-from_ascii bytes ascii;
      plain = subst (All (StaysInRun layout)) (sym (chars-IsAscii bytes ascii)) stay;
    }

utf8_run-printed : (layout : Bool) (bytes : List ℕ) (n : ℕ) → ArePrintedAscii bytes 0 n
    → IsUtf8Run layout (take n bytes)
utf8_run-printed layout bytes n are_printed =
    let printed : (k : ℕ) → k < length (take n bytes) → IsPrintedAscii (get_or (take n bytes) k 0) = λ k l.
    let below : k < n = omega (arith, l, length-take n bytes) in
    subst IsPrintedAscii (sym (get_or-take n bytes k 0 below)) (are_printed k (omega arith) below) in
    utf8_run-ascii
    (IsAscii-from_reads (take n bytes) (length (take n bytes)) (omega arith) (λ k l. omega (arith, (printed k l).1)))
    (All-from_get_or (StaysInRun layout) (take n bytes) 0 (λ k l. plain-stays layout _ (printed k l)))

-- No bytes are a run too.
pub utf8_run-nil : (layout : Bool) → IsUtf8Run layout []
utf8_run-nil layout =
    record {
      utf8 = IsUtf8-nil;
      plain = subst (All (StaysInRun layout)) (sym chars-nil) (All-nil (StaysInRun layout));
    }

pub utf8_run-append : {layout : Bool} {xs ys : List ℕ} → IsUtf8Run layout xs → IsUtf8Run layout ys
    → IsUtf8Run layout (xs ++ ys)
utf8_run-append {layout} {xs} {ys} run run_more = record {
  utf8 = IsUtf8-append xs ys run.utf8 run_more.utf8;
  plain =
      subst (All (StaysInRun layout)) (sym (chars-append xs ys run.utf8))
      (All-append (StaysInRun layout) (chars xs) (chars ys) run.plain run_more.plain);
}

-- ---- one character: its bytes decode to it alone, and a run of it is its event

pub chars-encode : (scalar : ℕ) → IsScalar scalar → chars (encode scalar) ≡ scalar ∷ []
chars-encode scalar is_scalar =
    chars_past_char (encode scalar) [] scalar (IsUtf8-encode scalar is_scalar) (sym (append-nil (encode scalar)))
    ∙ ap (λ cs. scalar ∷ cs) chars-nil

-- If a character stays in a run, so do its bytes.
pub run_one : (layout : Bool) (scalar : ℕ) → IsScalar scalar → StaysInRun layout scalar
    → All (StaysInRun layout) (chars (encode scalar))
run_one layout scalar is_scalar stays = subst (All (StaysInRun layout)) (sym (chars-encode scalar is_scalar))
    (All-cons (StaysInRun layout) scalar [] stays (All-nil (StaysInRun layout)))

pub after-character : {V : Type 0} (layout : Bool) (step : V → Event → V) (old : V) (scalar : ℕ) → IsScalar scalar
    → after step old (map (run_event layout) (chars (encode scalar))) ≡ step old (run_event layout scalar)
after-character layout step old scalar is_scalar =
    ap (λ cs. after step old (map (run_event layout) cs)) (chars-encode scalar is_scalar)

-- A character that is no control is printed, whatever runs keep.
pub run_event-no_control : (layout : Bool) {scalar : ℕ} → is_control_character scalar ≡ false
    → run_event layout scalar ≡ Print scalar
run_event-no_control layout {scalar} no_control = grind (arith, nat_tests, layout-is_control_character scalar)

-- ---- runs from one position of the bytes to another

-- The test that the code makes of a byte.
pub printed-in_range : (b : ℕ) → is_in printed_ascii b ≡ true → IsPrintedAscii b
printed-in_range b in_range = grind (arith, nat_tests)

-- The slice of a byte of printed ASCII is one character.
pub chars-one : (bytes : List ℕ) (from b : ℕ) → from < length bytes → b ≡ slice_index bytes from → IsPrintedAscii b
    → chars (take (from + 1 - from) (drop from bytes)) ≡ b ∷ []
chars-one bytes from b before_end byte_is printed =
    ap chars (one_byte bytes from b before_end byte_is)
    ∙ chars-IsAscii (b ∷ []) (IsAscii-cons b [] (omega (arith, printed.1)) IsAscii-nil)

-- HT, LF and CR are each a run, if runs keep them.
pub run-layout : (bytes : List ℕ) (from b : ℕ) → from < length bytes → b ≡ slice_index bytes from → is_layout b ≡ true
    → IsRun true bytes from (from + 1)
run-layout bytes from b before_end byte_is layout =
    subst (IsUtf8Run true) (sym (one_byte bytes from b before_end byte_is))
    (utf8_run-ascii (IsAscii-cons b [] (layout-is_ascii b layout) IsAscii-nil)
    (All-cons (StaysInRun true) b [] (layout-stays b layout)
    (All-nil (StaysInRun true))))

-- No bytes are a run, printed ASCII is one, and so are two runs, one after the other.
pub run-none : (layout : Bool) (bytes : List ℕ) (from : ℕ) → IsRun layout bytes from from
run-none layout bytes from =
    subst (λ n. IsUtf8Run layout (take n (drop from bytes))) (let same : 0 ≡ from - from = omega arith in same)
    (utf8_run-nil layout)

pub run-ascii : (layout : Bool) (bytes : List ℕ) (from to : ℕ) → ArePrintedAscii bytes from to
    → IsRun layout bytes from to
run-ascii layout bytes from to printed = utf8_run-printed layout (drop from bytes) (to - from) (λ k low high.
    subst IsPrintedAscii (sym (get_or-drop from bytes k 0)) (printed (from + k) (omega arith) (omega (arith, high))))

pub run-append : (layout : Bool) (bytes : List ℕ) (i j k : ℕ) → i ≤ j → j ≤ k → IsRun layout bytes i j
    → IsRun layout bytes j k → IsRun layout bytes i k
run-append layout bytes i j k low high run run_more =
    subst (IsUtf8Run layout) (sym (slice-then bytes i j k low high)) (utf8_run-append run run_more)
