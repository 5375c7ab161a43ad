-- Parameters sent back: the text of groups is written from its prefix, and read as the same groups, since digits give
-- their number back, `:` joins and `;` parts.
use Rattle.std.proofs.lemmas.Fmt.{decimal_is_IsNumeral}
use Rattle.std.proofs.lemmas.List.Folds.{flat_map-map}
use Rattle.std.proofs.lemmas.Str.Parse.{digit_from_value}
use Rattle.std.specs.Str.Parse.{AllDigits, digits_value}
use Rattle.vte_core.proofs.Common.{All, All-append, All-cons, All-head, All-map, All-nil, All-tail, AllFitU16, ap, append-nil, append_assoc, AreInClass, AreParameters, arith, Bool, BytesLead, class_of, colon, count_of, CsiDispatch, decimal, DispatchesShown, drop, false, flat_map, flat_map-append, fold, fold-append, get_or, greatest_number, groups_of, has_too_many_numbers, head_of, if◌then◌else◌, InControlSequence, InText, is_colon, is_parameter_byte, is_separator, is_well_shaped, IsNonEmpty, join_with_byte, length, List, map, max_numbers, nat_tests, Number, number_of, numbers, numbers_from, Option, refl, rules, semicolon, sequence_event, sequence_kind, shown, sym, take, take_all, true, with_number, ℕ, [], ◌++◌, ◌-◌, ◌∙◌, ◌∷◌, ◌≡◌, ◌≤◌}
use Rattle.vte_core.proofs.lemmas.bytes.Classes.{head_ends_nothing, parameter_is_head}
use Rattle.vte_core.proofs.lemmas.fields.FlatGroups.{numbered, with_number-begins, with_number-joins}
use Rattle.vte_core.proofs.lemmas.fields.Numbers.{count_of-grouped, is_digit_no_separator, IsNoSeparator, numbers_are, ValueFitsU16}
use Rattle.vte_core.proofs.lemmas.places.BytesInStream.{bytes_lead-append, bytes_lead-byte, bytes_lead-escape, bytes_lead-nothing, no_escape}
use Rattle.vte_core.proofs.lemmas.places.PlaceLeads.{control-dispatched, control-head, escape-key}
use Rattle.vte_core.proofs.lemmas.shapes.HeadParts.{collected-parts, collected-well_shaped}
use Rattle.vte_core.proofs.lemmas.streams.StreamSteps.{reported_by_stream}

-- ---- what is written

-- The text has separators between the parts; a loop writes one before each part but the first. Both are the same text.

-- The text of one group.
abbrev pub group_text : List ℕ → List ℕ
group_text group = join_with_byte colon (map decimal group)

-- What the loops write for a number and a group after the first.
abbrev pub after_colon : ℕ → List ℕ
after_colon number = colon ∷ decimal number

-- The same for a group.
abbrev pub after_semicolon : List ℕ → List ℕ
after_semicolon group = semicolon ∷ group_text group

join_from_front : (byte : ℕ) (first : List ℕ) (rest : List (List ℕ))
    → join_with_byte byte (first ∷ rest) ≡ first ++ flat_map (λ next. byte ∷ next) rest
join_from_front byte first [] = sym (append-nil first)
join_from_front byte first (next ∷ rest) = ap (λ (l : List ℕ). first ++ byte ∷ l) (join_from_front byte next rest)

group_text_from_front : (first : ℕ) (rest : List ℕ)
    → group_text (first ∷ rest) ≡ decimal first ++ flat_map after_colon rest
group_text_from_front first rest = search (rules, arith, join_from_front, flat_map-map)

shown_from_front : (first : List ℕ) (rest : List (List ℕ))
    → shown (first ∷ rest) ≡ group_text first ++ flat_map after_semicolon rest
unfolding shown
shown_from_front first rest = search (rules, arith, join_from_front, flat_map-map)

pub shown-nil : shown [] ≡ []
unfolding shown
shown-nil = refl

-- After its last number, the loop over the numbers after the first has written the text of the group.
pub group_written : (numbers : List ℕ) (i : ℕ) → 1 ≤ length numbers
    → length (take (length numbers - 1) (drop 1 numbers)) ≤ i
    → decimal (get_or numbers 0 0) ++ flat_map after_colon (take i (take (length numbers - 1) (drop 1 numbers)))
    ≡ group_text numbers
group_written numbers i some_number all_taken = search (rules, arith, take_all, group_text_from_front)

-- After its last group, the loop over the groups after the first has written the text of all groups.
pub groups_written : (groups : List (List ℕ)) (first : List ℕ) (rest passed left : List (List ℕ))
    → groups ≡ first ∷ rest → passed ++ left ≡ rest → left ≡ []
    → group_text first ++ flat_map after_semicolon passed ≡ shown groups
groups_written groups first rest passed left begins along none_left =
    search (rules, arith, append-nil, shown_from_front)

-- ---- what is read

-- A digit is 0 to 9.
abbrev IsDigit : ℕ → Type 0
IsDigit b = (48 ≤ b) × (b ≤ 57)

all_digits : (ds : List ℕ) → AllDigits 10 ds → All IsDigit ds
all_digits [] digits = All-nil IsDigit
all_digits (d ∷ ds) digits = All-cons IsDigit d ds (digit_from_value d digits.0) (all_digits ds digits.1)

digits-decimal : (n : ℕ) → n ≤ greatest_number → All IsDigit (decimal n)
digits-decimal n small = all_digits (decimal n) (decimal_is_IsNumeral n (omega arith)).0.1

number_of-decimal : (n : ℕ) → n ≤ greatest_number → number_of (decimal n) ≡ n
number_of-decimal n small =
    let value : digits_value 10 (decimal n) ≡ n = (decimal_is_IsNumeral n (omega arith)).1 in
    omega (arith, value)

no_separators-decimal : (n : ℕ) → n ≤ greatest_number → All IsNoSeparator (decimal n)
no_separators-decimal n small = search (rules, arith, is_digit_no_separator, digits-decimal)

-- ---- a text of numbers, each but the first with its separator before it

-- Such a text is read from the front: each separator ends the number before it (`spelled_after`).

-- What stands before a number.
abbrev separator : Number → ℕ
separator number = if number.joined then colon else semicolon

-- A number with its separator.
abbrev spelled : Number → List ℕ
spelled number = separator number ∷ decimal number.value

is_separator-separator : (number : Number) → is_separator (separator number) ≡ true
is_separator-separator number = search (rules, arith)

is_colon-separator : (number : Number) → is_colon (separator number) ≡ number.joined
is_colon-separator number = search (rules, arith)

digits_after : (joined : Bool) (digits more text : List ℕ) → All IsNoSeparator more
    → numbers_from joined digits (more ++ text) ≡ numbers_from joined (digits ++ more) text
digits_after joined digits [] text none_separates = rw (append-nil digits) refl
digits_after joined digits (b ∷ more) text none_separates =
    let rest = digits_after joined (digits ++ b ∷ []) more text (All-tail IsNoSeparator b more none_separates) in
    rw (All-head IsNoSeparator b more none_separates) (rw (append_assoc digits (b ∷ []) more) at rest)

spelled_after : (joined : Bool) (digits : List ℕ) {numbers : List Number} → All ValueFitsU16 numbers
    → numbers_from joined digits (flat_map spelled numbers) ≡ numbered joined (number_of digits) ∷ numbers
spelled_after joined digits {numbers = []} all_small = refl
spelled_after joined digits {numbers = n ∷ numbers} all_small =
    let small = All-head ValueFitsU16 n numbers all_small in
    let rest = digits_after n.joined [] (decimal n.value) (flat_map spelled numbers)
    (no_separators-decimal n.value small)
    ∙ spelled_after n.joined (decimal n.value) (All-tail ValueFitsU16 n numbers all_small)
    ∙ ap (λ value. numbered n.joined value ∷ numbers) (number_of-decimal n.value small) in
    rw (is_separator-separator n, is_colon-separator n)
    (ap (λ (l : List Number). numbered joined (number_of digits) ∷ l) rest)

-- ---- groups as such numbers

-- As numbers that say whether they join a group, they are spelled, read back, and grouped (`groups_of-shown`).

in_group : List ℕ → List Number
in_group [] = []
in_group (n ∷ ns) = numbered false n ∷ map (numbered true) ns

groups-spelled : (groups : List (List ℕ)) → All IsNonEmpty groups
    → flat_map spelled (flat_map in_group groups) ≡ flat_map after_semicolon groups
unfolding in_group
groups-spelled [] are_filled = refl
groups-spelled ([] ∷ groups) are_filled =
    absurd (omega (arith, All-head IsNonEmpty [] groups are_filled))
groups-spelled ((n ∷ ns) ∷ groups) are_filled =
    search (
      rules,
      arith,
      (groups-spelled groups (All-tail IsNonEmpty (n ∷ ns) groups are_filled)),
      flat_map-append,
      numbered,
      in_group,
      flat_map-map,
      group_text_from_front,
      append_assoc,
    )

-- The text of groups, with a `;` before it, spells their numbers.
shown-spelled : (groups : List (List ℕ)) → AreParameters groups
    → semicolon ∷ shown groups ≡ flat_map spelled (flat_map in_group groups)
shown-spelled [] are_parameters = absurd (omega (arith, are_parameters.some))
shown-spelled (first ∷ groups) are_parameters = search (rules, arith, shown_from_front, groups-spelled)

ValueFitsU16-in_group : (group : List ℕ) → AllFitU16 group → All ValueFitsU16 (in_group group)
unfolding in_group
ValueFitsU16-in_group [] small = All-nil ValueFitsU16
ValueFitsU16-in_group (n ∷ ns) small =
    let P : ℕ → Type 0 = λ value. value ≤ greatest_number in
    All-cons ValueFitsU16 (numbered false n) (map (numbered true) ns) (All-head P n ns small)
    (All-map ValueFitsU16 (numbered true) ns (All-tail P n ns small))

ValueFitsU16-groups : (groups : List (List ℕ)) → All AllFitU16 groups → All ValueFitsU16 (flat_map in_group groups)
ValueFitsU16-groups [] small = All-nil ValueFitsU16
ValueFitsU16-groups (group ∷ groups) small =
    All-append ValueFitsU16 (in_group group) (flat_map in_group groups)
    (ValueFitsU16-in_group group (All-head AllFitU16 group groups small))
    (ValueFitsU16-groups groups (All-tail AllFitU16 group groups small))

grouped-joined : (before : List (List ℕ)) (group ns : List ℕ)
    → fold with_number (before ++ group ∷ []) (map (numbered true) ns) ≡ before ++ (group ++ ns) ∷ []
grouped-joined before group [] = ap (λ (l : List ℕ). before ++ l ∷ []) (sym (append-nil group))
grouped-joined before group (n ∷ ns) =
    search (rules, arith, (grouped-joined before (group ++ n ∷ []) ns), numbered, with_number-joins, append_assoc)

grouped-groups : (before groups : List (List ℕ)) → All IsNonEmpty groups
    → fold with_number before (flat_map in_group groups) ≡ before ++ groups
unfolding in_group
grouped-groups before [] filled = sym (append-nil before)
grouped-groups before ([] ∷ groups) filled =
    absurd (omega (arith, All-head IsNonEmpty [] groups filled))
grouped-groups before ((n ∷ ns) ∷ groups) filled =
    let rest = All-tail IsNonEmpty (n ∷ ns) groups filled in
    let more = flat_map in_group groups in
    fold-append with_number (with_number before (numbered false n)) (map (numbered true) ns) more
    ∙ ap (λ (b : List (List ℕ)). fold with_number (fold with_number b (map (numbered true) ns)) more)
    (with_number-begins before n)
    ∙ ap (λ (b : List (List ℕ)). fold with_number b more) (grouped-joined before (n ∷ []) ns)
    ∙ grouped-groups (before ++ (n ∷ ns) ∷ []) groups rest
    ∙ append_assoc before ((n ∷ ns) ∷ []) groups

-- The text of groups gives back the numbers in the groups.
numbers-shown : (groups : List (List ℕ)) → AreParameters groups → numbers (shown groups) ≡ flat_map in_group groups
numbers-shown groups are_parameters =
    let all = ValueFitsU16-groups groups are_parameters.groups_are.small in
    let later =
    ap (numbers_from false []) (shown-spelled groups are_parameters) ∙ spelled_after false [] all in
    numbers_are (shown groups) ∙ ap (drop 1) later

at_most-groups : (groups : List (List ℕ)) → AreParameters groups → length (flat_map in_group groups) ≤ max_numbers
at_most-groups groups are_parameters =
    omega (
      arith,
      are_parameters.groups_are.at_most,
      ap count_of (grouped-groups [] groups are_parameters.groups_are.filled),
      count_of-grouped
          (flat_map in_group groups),
    )

-- The text of groups gives the groups back.
groups_of-shown : (groups : List (List ℕ)) → AreParameters groups → groups_of (shown groups) ≡ groups
unfolding groups_of
groups_of-shown groups are_parameters = search (rules, arith, numbers-shown, take_all, at_most-groups, grouped-groups)

has_too_many_numbers-shown : (groups : List (List ℕ)) → AreParameters groups
    → has_too_many_numbers (shown groups) ≡ false
unfolding has_too_many_numbers
has_too_many_numbers-shown groups are_parameters = search (rules, arith, at_most-groups, numbers-shown)

-- ---- the text has only bytes of parameters

digit_is_parameter : (b : ℕ) → IsDigit b → is_parameter_byte (class_of b) ≡ true
unfolding class_of
digit_is_parameter b digit = grind (arith, nat_tests)

separator_is_parameter : (number : Number) → is_parameter_byte (class_of (separator number)) ≡ true
unfolding class_of
separator_is_parameter number = search (rules, arith)

parameters-digits : (ds more : List ℕ) → All IsDigit ds → AreInClass is_parameter_byte more
    → AreInClass is_parameter_byte (ds ++ more)
parameters-digits [] more digits are_parameters = are_parameters
parameters-digits (d ∷ ds) more digits are_parameters = (
  digit_is_parameter d (All-head IsDigit d ds digits),
  parameters-digits ds more (All-tail IsDigit d ds digits) are_parameters,
)

parameters-spelled : (numbers : List Number) → All ValueFitsU16 numbers
    → AreInClass is_parameter_byte (flat_map spelled numbers)
parameters-spelled [] all_small = tt
parameters-spelled (number ∷ numbers) all_small =
    let rest =
    parameters-digits (decimal number.value) (flat_map spelled numbers)
    (digits-decimal number.value (All-head ValueFitsU16 number numbers all_small))
    (parameters-spelled numbers (All-tail ValueFitsU16 number numbers all_small)) in
    (separator_is_parameter number, rest)

parameters-shown : (groups : List (List ℕ)) → AreParameters groups → AreInClass is_parameter_byte (shown groups)
parameters-shown groups are_parameters =
    search (rules, arith, shown-spelled, parameters-spelled, in_group, ValueFitsU16-groups)

-- ---- a control sequence

-- The head of such a sequence leads byte by byte to its final byte, and is read as the groups that it shows.

bytes_lead-head : (limit : Option ℕ) (head bytes : List ℕ) → AreInClass is_parameter_byte bytes
    → BytesLead limit (InControlSequence head) bytes [] (InControlSequence (head ++ bytes))
bytes_lead-head limit head [] are_parameters = rw append-nil bytes_lead-nothing
bytes_lead-head limit head (b ∷ bytes) are_parameters =
    let is_head = parameter_is_head (class_of b) are_parameters.0 in
    let one =
    bytes_lead-byte (no_escape b (head_ends_nothing (class_of b) is_head))
    (control-head is_head) in
    let rest = bytes_lead-head limit (head ++ b ∷ []) bytes are_parameters.1 in
    rw append_assoc at (bytes_lead-append one rest)

-- ESC, `[`, bytes of parameters and `m` report the sequence of these bytes.
bytes_lead-shown : (limit : Option ℕ) (bytes : List ℕ) → AreInClass is_parameter_byte bytes
    → BytesLead limit (InText []) (0x1b ∷ 0x5b ∷ (bytes ++ 0x6d ∷ []))
    (sequence_event CsiDispatch (head_of bytes) 0x6d ∷ []) (InText [])
unfolding class_of sequence_kind
bytes_lead-shown limit bytes are_parameters =
    let well_shaped : is_well_shaped (head_of bytes) ≡ true =
    rw append-nil at (collected-well_shaped [] bytes [] tt are_parameters tt) in
    let begun =
    bytes_lead-append
    (bytes_lead-escape refl)
    (bytes_lead-byte refl (escape-key _ refl refl refl)) in
    let last =
    bytes_lead-byte refl (control-dispatched refl well_shaped) in
    let rest =
    bytes_lead-append
    (bytes_lead-head limit [] bytes are_parameters) last in
    bytes_lead-append begun rest

-- Groups that are sent as the parameters of a control sequence are dispatched as they were.
pub shown_dispatched : (limit : Option ℕ) (groups : List (List ℕ)) → AreParameters groups → DispatchesShown limit groups
unfolding sequence_event
shown_dispatched limit groups are_parameters =
    let are_parameter_bytes = parameters-shown groups are_parameters in
    let parts = rw append-nil at (collected-parts [] (shown groups) [] tt are_parameter_bytes tt) in
    reported_by_stream refl (bytes_lead-shown limit (shown groups) are_parameter_bytes)
    ∙ rw (parts, groups_of-shown groups are_parameters, has_too_many_numbers-shown groups are_parameters) refl
