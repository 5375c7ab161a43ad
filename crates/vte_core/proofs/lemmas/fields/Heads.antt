-- What one byte makes of the numbers and of the head that are collected: by the part of the head that was reached and
-- the byte's class.
use Rattle.std.proofs.lemmas.List.{length-take}
use Rattle.vte_core.proofs.Common.{ap, append-nil, append_assoc, arith, Bool, Class, class_of, CollectedHead, count_of, CountsNumbers, Entry, Event, false, greatest_number, grouped, groups_of, has_too_many_numbers, HasReadHead, head_of, HeadProgress, HoldsHead, HoldsIntermediates, HoldsNumbers, IllShaped, inl, inr, Intermediate, Intermediates, is_colon, is_head_byte, is_intermediate, is_marker, is_parameter_byte, is_separator, is_well_shaped, length, length-append, List, Marker, max_numbers, min, nat_tests, numbers, Parameters, refl, rules, SameIntermediates, SameNumbers, sequence_event, StaysIllShaped, sym, take, take-append-le, take_all, true, with_number, ℕ, [], ◌*◌, ◌++◌, ◌+◌, ◌-◌, ◌<◌, ◌||◌, ◌∙◌, ◌∷◌, ◌≡◌, ◌≤◌, ◌⊎◌}
use Rattle.vte_core.proofs.lemmas.bytes.Classes.{AreInClass-append}
use Rattle.vte_core.proofs.lemmas.fields.FlatGroups.{numbered}
use Rattle.vte_core.proofs.lemmas.fields.Numbers.{count_of-grouped, grouped-push, is_digit_no_separator, number_of-push, numbers_are}
use Rattle.vte_core.proofs.lemmas.shapes.HeadParts.{begins-intermediates, collected-parts, collected-well_shaped, head_of-parts, list_all-not}
use Rattle.vte_core.specs.private.CollectedHead.{HoldsWholeHead}

-- ---- numbers

-- The numbers are those of the text read so far, of which the last is open. `counts-X`: the numbers are counted after X
-- (`CountsNumbers`); `stores-X`: the last one is stored (`HoldsNumbers`).

-- The numbers of the text are those before the last one, and the last one, which is being read.
counts-numbers : (collected : CollectedHead) (text : List ℕ) (counts : CountsNumbers collected text)
    → numbers text ≡ counts.prefix ++ numbered collected.joined collected.number ∷ []
counts-numbers collected text counts =
    sym (ap numbers (append-nil text)) ∙ counts.same_numbers []
    ∙ ap (λ n. counts.prefix ++ numbered collected.joined n ∷ []) (sym counts.number)

counts-collected : (collected : CollectedHead) (text : List ℕ) (counts : CountsNumbers collected text)
    → count_of collected.params ≡ min max_numbers (length counts.prefix)
counts-collected collected text counts =
    ap count_of counts.params ∙ count_of-grouped (take max_numbers counts.prefix)
    ∙ length-take max_numbers counts.prefix

-- If there is no room for the last number, the text has too many numbers.
pub stores-full : {collected : CollectedHead} {text : List ℕ} → CountsNumbers collected text
    → max_numbers ≤ count_of collected.params
    → HoldsNumbers collected true text
unfolding groups_of has_too_many_numbers
stores-full {collected} {text} counts full =
    let collected_count = counts-collected collected text counts in
    let last = numbered collected.joined collected.number in
    let n : length (counts.prefix ++ last ∷ []) ≡ length counts.prefix + 1 = length-append counts.prefix (last ∷ []) in
    record {
      groups =
          counts.params
          ∙ rw (counts-numbers collected text counts)
          (ap grouped (sym (take-append-le max_numbers counts.prefix (last ∷ []) (omega arith))));
      more = rw (counts-numbers collected text counts) (grind (arith, nat_tests));
    }

-- If there is room for the last number, it is pushed.
pub stores-push : {old new : CollectedHead} {text : List ℕ} → CountsNumbers old text → count_of old.params < max_numbers
    → new.params ≡ with_number old.params (numbered old.joined old.number) → HoldsNumbers new false text
unfolding groups_of has_too_many_numbers
stores-push {old} {text} counts room pushed =
    let collected_count = counts-collected old text counts in
    let last = numbered old.joined old.number in
    let n : length (counts.prefix ++ last ∷ []) ≡ length counts.prefix + 1 = length-append counts.prefix (last ∷ []) in
    let before : old.params ≡ grouped counts.prefix =
    counts.params ∙ ap grouped (take_all max_numbers counts.prefix (omega arith)) in
    let all : take max_numbers (numbers text) ≡ counts.prefix ++ last ∷ [] =
    rw (counts-numbers old text counts) (take_all max_numbers (counts.prefix ++ last ∷ []) (omega arith)) in
    record {
      groups =
          pushed ∙ ap (λ groups. with_number groups last) before ∙ sym (grouped-push counts.prefix last)
          ∙ ap grouped (sym all);
      more = rw (counts-numbers old text counts) (grind (arith, nat_tests));
    }

-- A separator begins the next number, at 0.
pub counts-separator : {old stored new : CollectedHead} {more : Bool} {text : List ℕ} (b : ℕ) → CountsNumbers old text
    → HoldsNumbers stored more text → is_separator b ≡ true
    → new.params ≡ stored.params → new.joined ≡ is_colon b → new.number ≡ 0 → CountsNumbers new (text ++ b ∷ [])
unfolding groups_of
counts-separator {old} {text} b counts holds separates params joined number = record {
  prefix = counts.prefix ++ numbered old.joined old.number ∷ [];
  digits = [];
  same_numbers =
      λ later. ap numbers (append_assoc text (b ∷ []) later) ∙ counts.same_numbers (b ∷ later)
      ∙ rw (separates, joined, counts.number, append_assoc counts.prefix) refl;
  params = params ∙ holds.groups ∙ ap (λ ns. grouped (take max_numbers ns)) (counts-numbers old text counts);
  number = number;
}

-- A digit is added to the number that is being read.
pub counts-digit : {old new : CollectedHead} {text : List ℕ} (digit : ℕ) → CountsNumbers old text → 0x30 ≤ digit
    → digit < 0x3a
    → new.params ≡ old.params
    → new.joined ≡ old.joined → new.number ≡ min greatest_number (10 * old.number + (digit - 0x30))
    → CountsNumbers new (text ++ digit ∷ [])
counts-digit {text} digit counts low high params joined number =
    search (rules, arith, append_assoc, is_digit_no_separator, number_of-push)

-- Cleared fields are those of an empty parameter text.
pub counts-nothing : (new : CollectedHead) → new.params ≡ [] → new.joined ≡ false → new.number ≡ 0
    → CountsNumbers new []
counts-nothing new params joined number =
    record {
      prefix = [];
      digits = [];
      same_numbers = λ later. rw joined (numbers_are later);
      params = params;
      number = number;
    }

-- ---- heads

-- `holds-X`: the head is collected after X (`HoldsHead`); `ill_shaped-X`: it stays ill-shaped after X.

-- Numbers that are kept are those of the same text.
CountsNumbers-kept : {old new : CollectedHead} {text : List ℕ} → SameNumbers old new → CountsNumbers old text
    → CountsNumbers new text
CountsNumbers-kept same_numbers counts = search (rules, arith)

HoldsIntermediates-kept : {old new : CollectedHead} {intermediates : List ℕ} → SameIntermediates old new
    → HoldsIntermediates old intermediates
    → HoldsIntermediates new intermediates
HoldsIntermediates-kept same_intermediates holds = search (rules, arith)

-- A head can go on with an intermediate, however far it has come.
pub holds-intermediate : {old new : CollectedHead} {reached : HeadProgress} {head : List ℕ} (b : ℕ)
    → HoldsHead old reached head
    → class_of b ≡ Intermediate
    → SameNumbers old new
    → ((intermediates : List ℕ) → HoldsIntermediates old intermediates
    → HoldsIntermediates new (intermediates ++ b ∷ []))
    → HoldsHead new Intermediates (head ++ b ∷ [])
holds-intermediate b holds is_class same_numbers holds_more = record {
  marker = holds.marker;
  parameters = holds.parameters;
  intermediates = holds.intermediates ++ b ∷ [];
  shape = rw holds.shape (simp append_assoc);
  is_marker = holds.is_marker;
  are_parameters = holds.are_parameters;
  are_intermediates =
      AreInClass-append is_intermediate holds.intermediates (b ∷ []) holds.are_intermediates (rw is_class refl, tt);
  reaches = omega (arith, length-append {A = ℕ});
  holds = rw append_assoc at (holds_more (holds.marker ++ holds.intermediates) holds.holds);
  counts = CountsNumbers-kept same_numbers holds.counts;
}

-- A head can begin with a marker.
pub holds-marker : (old new : CollectedHead) (head : List ℕ) (b : ℕ) → HoldsHead old Entry head → class_of b ≡ Marker
    → SameNumbers old new
    → ((intermediates : List ℕ) → HoldsIntermediates old intermediates
    → HoldsIntermediates new (intermediates ++ b ∷ []))
    → HoldsHead new Parameters (head ++ b ∷ [])
holds-marker old new head b holds is_class same_numbers holds_more =
    let nothing : head ≡ [] = holds.shape ∙ rw (holds.reaches.0, holds.reaches.1, holds.reaches.2) refl in
    let holds_none : HoldsIntermediates old [] = rw (holds.reaches.0, holds.reaches.2) at holds.holds in
    record {
      marker = b ∷ [];
      parameters = holds.parameters;
      intermediates = [];
      shape = rw (nothing, holds.reaches.1) refl;
      is_marker = (rw is_class refl, tt);
      are_parameters = holds.are_parameters;
      are_intermediates = tt;
      reaches = (omega arith, refl);
      holds = holds_more [] holds_none;
      counts = CountsNumbers-kept same_numbers holds.counts;
    }

-- A head without intermediates can go on with a byte of the parameters.
after_no_intermediate : {old new : CollectedHead} (reached : HeadProgress) (head : List ℕ) (b : ℕ)
    (holds : HoldsHead old reached head)
    → holds.intermediates ≡ []
    → is_parameter_byte (class_of b) ≡ true → SameIntermediates old new
    → ((text : List ℕ) → CountsNumbers old text → CountsNumbers new (text ++ b ∷ []))
    → HoldsHead new Parameters (head ++ b ∷ [])
after_no_intermediate {old} reached head b holds no_intermediate is_parameter same_intermediates counts_more =
    let kept : HoldsIntermediates old (holds.marker ++ []) = rw no_intermediate at holds.holds in
    record {
      marker = holds.marker;
      parameters = holds.parameters ++ b ∷ [];
      intermediates = [];
      shape = rw (holds.shape, no_intermediate) (simp (append-nil, append_assoc));
      is_marker = holds.is_marker;
      are_parameters = AreInClass-append is_parameter_byte holds.parameters (b ∷ []) holds.are_parameters
          (is_parameter, tt);
      are_intermediates = tt;
      reaches = (omega (arith, length-append {A = ℕ}), refl);
      holds = HoldsIntermediates-kept same_intermediates kept;
      counts = counts_more holds.parameters holds.counts;
    }

-- A head that has come no further than its parameters holds no intermediate, so a byte of the parameters fits.
pub holds-parameter : {old new : CollectedHead} {reached : HeadProgress} (head : List ℕ) (b : ℕ)
    → (reached ≡ Entry) ⊎ (reached ≡ Parameters) → HasReadHead old reached head
    → is_parameter_byte (class_of b) ≡ true → SameIntermediates old new
    → ((text : List ℕ) → CountsNumbers old text → CountsNumbers new (text ++ b ∷ []))
    → HoldsHead new Parameters (head ++ b ∷ [])
holds-parameter {old} head b (inl at_entry) has_read is_parameter same_intermediates counts_more =
    search (rules, arith, after_no_intermediate)
holds-parameter {old} head b (inr at_parameters) has_read is_parameter same_intermediates counts_more =
    let holds : HoldsHead old Parameters head =
    rw at_parameters at has_read in
    after_no_intermediate Parameters head b holds holds.reaches.1 is_parameter same_intermediates counts_more

-- A marker after a marker or a parameter makes the head ill-shaped for good.
ill_shaped-marker : (old : CollectedHead) (head : List ℕ) (b : ℕ) → HoldsHead old Parameters head → class_of b ≡ Marker
    → StaysIllShaped (head ++ b ∷ [])
unfolding is_well_shaped
ill_shaped-marker old head b holds is_marker =
    search (rules, arith, append-nil, append_assoc, head_of-parts, list_all-not)

-- After an intermediate, any byte other than an intermediate makes the head ill-shaped for good.
ill_shaped-after_intermediate : (old : CollectedHead) (head : List ℕ) (b : ℕ) → HoldsHead old Intermediates head
    → is_intermediate (class_of b) ≡ false → StaysIllShaped (head ++ b ∷ [])
unfolding is_well_shaped
ill_shaped-after_intermediate old head b holds no_intermediate = record {
  stays = λ more.
      let same : (head ++ b ∷ []) ++ more ≡ holds.marker ++ (holds.parameters ++ (holds.intermediates ++ (b ∷ more))) =
      rw holds.shape (simp append_assoc) in
      let begins = λ (has : Class → Bool) (excludes : has Intermediate ≡ false).
      begins-intermediates has excludes holds.intermediates (b ∷ more) holds.are_intermediates
      (λ no_intermediates. absurd (omega (arith, ap length no_intermediates, holds.reaches))) in
      let parts =
      head_of-parts holds.marker holds.parameters (holds.intermediates ++ b ∷ more) holds.is_marker holds.are_parameters
      (begins is_parameter_byte refl) (λ _. begins is_marker refl) in
      rw (same, parts) (list_all-not holds.intermediates b more no_intermediate);
}

ill_shaped-more : (head : List ℕ) (b : ℕ) → StaysIllShaped head → StaysIllShaped (head ++ b ∷ [])
ill_shaped-more head b stays = record { stays = λ more. rw append_assoc (stays.stays (b ∷ more)) }

pub ill_shaped-now : {head : List ℕ} → StaysIllShaped head → is_well_shaped (head_of head) ≡ false
ill_shaped-now stays = rw append-nil at (stays.stays [])

-- At the end of a head that is well shaped, what is collected is ready.
pub head-whole : {old new : CollectedHead} (more : Bool) {ignored : Bool} {reached : HeadProgress} {head : List ℕ}
    → ((text : List ℕ) → CountsNumbers old text → HoldsNumbers new more text)
    → SameIntermediates old new → HoldsHead old reached head → ignored ≡ (new.too_many_intermediates || more)
    → HoldsWholeHead new ignored head
head-whole more stores same_intermediates holds ignored_is =
    search (rules, arith, collected-parts, HoldsIntermediates-kept, collected-well_shaped)

-- Nothing is collected of an empty head.
pub holds-nothing : (new : CollectedHead) → HoldsIntermediates new [] → CountsNumbers new [] → HoldsHead new Entry []
holds-nothing new holds counts = search (rules, arith)

-- A class of head bytes that is neither of parameters nor of intermediates is that of markers.
pub left_is_marker : (class : Class) → is_head_byte class ≡ true → is_parameter_byte class ≡ false
    → is_intermediate class ≡ false → class ≡ Marker
left_is_marker Marker is_head no_parameter no_intermediate = refl
left_is_marker _ is_head no_parameter no_intermediate = cc

-- A marker that isn't first, or a digit or separator that may not come next, makes the head ill-shaped for good.
pub ill_shaped-late : (old : CollectedHead) (reached : HeadProgress) (head : List ℕ) (b : ℕ)
    → HasReadHead old reached head
    → is_head_byte (class_of b) ≡ true
    → is_intermediate (class_of b) ≡ false
    → ((reached ≡ Entry) ⊎ (reached ≡ Parameters) → is_parameter_byte (class_of b) ≡ false)
    → (reached ≡ Entry → ⊥) → StaysIllShaped (head ++ b ∷ [])
ill_shaped-late old reached head b has_read is_head no_intermediate no_parameter no_entry =
    grind (arith, nat_tests, ill_shaped-marker, left_is_marker, ill_shaped-after_intermediate, ill_shaped-more)

-- At the end of a head, the call has the event of the sequence.
pub dispatched-ready : (call : List (List ℕ) → List ℕ → Bool → ℕ → Event) {collected : CollectedHead} {ignored : Bool}
    {head : List ℕ} (final : ℕ)
    → HoldsWholeHead collected ignored head
    → call collected.params collected.intermediates.items ignored final ≡ sequence_event call (head_of head) final
unfolding sequence_event
dispatched-ready call final ready = rw (ready.groups, ready.intermediates, ready.ignore) refl

-- Unless the head is ill-shaped, what was read of it is collected.
pub head-holds : {collected : CollectedHead} {reached : HeadProgress} {head : List ℕ} → (reached ≡ IllShaped → ⊥)
    → HasReadHead collected reached head → HoldsHead collected reached head
head-holds {reached = IllShaped} well_shaped has_read = absurd (well_shaped refl)
head-holds well_shaped has_read = has_read
