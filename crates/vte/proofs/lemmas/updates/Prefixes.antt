-- An early stop reads exactly the prefix up to the byte that begins an update. Such a byte ends a control sequence, so
-- no character is open or broken there, and the prefix is the shortest that adds a begin.
use Rattle.vte.proofs.Common.{added, added-append, added-nothing, ap, append-nil, append_assoc, arith, begin_count, breaks_at, cases_Bool, cases_lt, EndsInBegin, Event, false, inl, inr, length, List, nat_lt, nat_tests, open_character, opens_silently, Option, prefix_to_begin, refl, reported-settled, reported_before, rules, subst, suc, take, take_all, zero, ℕ, [], ◌++◌, ◌+◌, ◌<◌, ◌∙◌, ◌∷◌, ◌≡◌, ◌≤◌}
use Rattle.vte_core.proofs.lemmas.shapes.BrokenCharacters.{breaks_at-all, breaks_at-settled, reported-broken}

-- ---- how often bytes begin an update

begin_count-append : (events others : List Event)
    → begin_count (events ++ others) ≡ begin_count events + begin_count others
begin_count-append [] others = omega arith
begin_count-append (event ∷ events) others = omega (arith, begin_count-append events others)

pub begin_count-nothing : (limit : Option ℕ) (stream : List ℕ) → begin_count (added limit stream []) ≡ 0
begin_count-nothing limit stream = ap begin_count (added-nothing limit stream)

-- Bytes in two pieces begin as many updates as both pieces together.
pub begin_count-added : (limit : Option ℕ) (stream front bytes : List ℕ)
    → begin_count (added limit stream (front ++ bytes))
    ≡ begin_count (added limit stream front) + begin_count (added limit (stream ++ front) bytes)
begin_count-added limit stream front bytes =
    ap begin_count (added-append limit stream front bytes)
    ∙ begin_count-append (added limit stream front) (added limit (stream ++ front) bytes)

-- The U+FFFD of a broken character begins no update.
pub begin_count-reported : (limit : Option ℕ) (stream bytes : List ℕ) (i : ℕ)
    → begin_count (reported_before limit stream bytes i) ≡ begin_count (added limit stream (take i bytes))
begin_count-reported limit stream bytes i = search (rules, arith, reported-broken, begin_count-append, reported-settled)

-- ---- the prefix is the shortest that adds a begin (`IsPrefix`)

-- The first k bytes end with the first one that begins an update, or are all bytes.
pub record IsPrefix (limit : Option ℕ) (stream bytes : List ℕ) (k : ℕ) : Type 0 where
  pub within : k ≤ length bytes
  pub prefix_is : prefix_to_begin limit stream bytes ≡ take k bytes
  pub none_before : (i : ℕ) → i < k → begin_count (added limit stream (take i bytes)) ≡ 0
  pub begins : k < length bytes → 0 < begin_count (added limit stream (take k bytes))
  pub ends : 0 < begin_count (added limit stream (take k bytes)) → EndsInBegin limit (stream ++ take k bytes)

begin_count-before : (limit : Option ℕ) (stream rest : List ℕ) (b k i : ℕ)
    → begin_count (added limit stream (b ∷ [])) ≡ 0
    → IsPrefix limit (stream ++ b ∷ []) rest k → i < suc k
    → begin_count (added limit stream (take i (b ∷ rest))) ≡ 0
begin_count-before limit stream rest b k zero none_begin found below = begin_count-nothing limit stream
begin_count-before limit stream rest b k (suc i) none_begin found below =
    omega (arith, begin_count-added limit stream (b ∷ []) (take i rest), none_begin, found.none_before i (omega arith))

-- What `prefix_to_begin` finds is such a prefix.
pub prefix-is : (limit : Option ℕ) (stream bytes : List ℕ)
    → IsPrefix limit stream bytes (length (prefix_to_begin limit stream bytes))
prefix-is limit stream [] = record {
  within = omega arith;
  prefix_is = refl;
  none_before = λ i below. absurd (omega arith);
  begins = λ below. absurd (omega arith);
  ends = λ begins. absurd (omega (arith, begin_count-nothing limit stream));
}
prefix-is limit stream (b ∷ rest) = elim (cases_Bool (nat_lt 0 (begin_count (added limit stream (b ∷ []))))) [
  | inl begins_here ↦ rw begins_here (record {
    within = omega arith;
    prefix_is = rw begins_here refl;
    none_before = λ i below. (let first : i ≡ 0 = omega arith in rw first (begin_count-nothing limit stream));
    begins = λ below. grind (arith, nat_tests);
    ends = λ begins. record { before = stream; byte = b; parsed_is = refl; begins = begins };
  })
  | inr no_begin ↦
      let none_here : begin_count (added limit stream (b ∷ [])) ≡ 0 = grind (arith, nat_tests) in
      let prefix = prefix_to_begin limit (stream ++ b ∷ []) rest in
      let found : IsPrefix limit (stream ++ b ∷ []) rest (length prefix) = prefix-is limit (stream ++ b ∷ []) rest in
      let same : begin_count (added limit stream (b ∷ take (length prefix) rest))
      ≡ begin_count (added limit (stream ++ b ∷ []) (take (length prefix) rest)) =
      omega (arith, begin_count-added limit stream (b ∷ []) (take (length prefix) rest), none_here) in
      rw no_begin (record {
        within = omega (arith, found.within);
        prefix_is = rw no_begin (ap (λ bytes. b ∷ bytes) found.prefix_is);
        none_before = λ i below. begin_count-before limit stream rest b (length prefix) i none_here found below;
        begins = λ below. rw same (found.begins (omega arith));
        ends =
            λ begins. subst (EndsInBegin limit) (append_assoc stream (b ∷ []) (take (length prefix) rest))
            (found.ends (rw same at begins));
      })
]

-- No character is open after a byte that begins an update.
open_character-begin : {limit : Option ℕ} {stream : List ℕ} → EndsInBegin limit stream → open_character stream ≡ []
open_character-begin {limit} ends = search (rules, arith, opens_silently)

-- So none is open after the prefix, if bytes are left.
pub open_character-prefix : {limit : Option ℕ} {stream bytes : List ℕ} {k : ℕ} → IsPrefix limit stream bytes k
    → k < length bytes
    → open_character (stream ++ take k bytes) ≡ []
open_character-prefix found bytes_left = open_character-begin (found.ends (found.begins bytes_left))

-- No character is broken after the prefix.
pub breaks_at-prefix : {limit : Option ℕ} {stream bytes : List ℕ} {k : ℕ} → IsPrefix limit stream bytes k
    → breaks_at stream bytes k ≡ false
breaks_at-prefix {stream} {bytes} {k} found =
    search (rules, arith, breaks_at-settled, open_character-prefix, breaks_at-all)

-- If no update begins in some bytes, nor in those that follow, none begins in all of them.
pub begin_count-none : (limit : Option ℕ) (stream front bytes : List ℕ) → begin_count (added limit stream front) ≡ 0
    → begin_count (added limit (stream ++ front) bytes) ≡ 0
    → begin_count (added limit stream (front ++ bytes)) ≡ 0
begin_count-none limit stream front bytes front_none bytes_none =
    omega (arith, begin_count-added limit stream front bytes, front_none, bytes_none)

-- Bytes in which no update begins come before the prefix of those that follow.
pub prefix-after : (limit : Option ℕ) (stream front bytes : List ℕ) → begin_count (added limit stream front) ≡ 0
    → prefix_to_begin limit stream (front ++ bytes) ≡ front ++ prefix_to_begin limit (stream ++ front) bytes
prefix-after limit stream [] bytes none_begin = rw append-nil
prefix-after limit stream (b ∷ front) bytes none_begin =
    let all = begin_count-added limit stream (b ∷ []) front in
    let none_here : nat_lt 0 (begin_count (added limit stream (b ∷ []))) ≡ false = grind (arith, nat_tests) in
    let later_none : begin_count (added limit (stream ++ b ∷ []) front) ≡ 0 = omega (arith, all, none_begin) in
    rw none_here
    (ap (λ prefix. b ∷ prefix) (prefix-after limit (stream ++ b ∷ []) front bytes later_none ∙ rw append_assoc))

-- If an update begins in the bytes, their prefix is the same whatever follows.
pub prefix-more : (limit : Option ℕ) (stream bytes rest : List ℕ)
    → 0 < begin_count (added limit stream (prefix_to_begin limit stream bytes))
    → prefix_to_begin limit stream (bytes ++ rest) ≡ prefix_to_begin limit stream bytes
prefix-more limit stream [] rest begins = absurd (omega (arith, begin_count-nothing limit stream, begins))
prefix-more limit stream (b ∷ bytes) rest begins =
    elim (cases_Bool (nat_lt 0 (begin_count (added limit stream (b ∷ []))))) [
      | inl begins_here ↦ rw begins_here refl
      | inr no_begin ↦
          let none_here : begin_count (added limit stream (b ∷ [])) ≡ 0 = grind (arith, nat_tests) in
          let later_begins : 0
          < begin_count (added limit (stream ++ b ∷ []) (prefix_to_begin limit (stream ++ b ∷ []) bytes)) =
          omega (
            arith,
            begin_count-added limit stream (b ∷ [])
                (prefix_to_begin limit (stream ++ b ∷ []) bytes),
            none_here,
            rw no_begin at begins,
          )
          in
          rw no_begin (ap (λ prefix. b ∷ prefix) (prefix-more limit (stream ++ b ∷ []) bytes rest later_begins))
    ]

-- Bytes in which no update begins are their own prefix.
pub prefix-all : (limit : Option ℕ) (stream bytes : List ℕ)
    → begin_count (added limit stream (prefix_to_begin limit stream bytes)) ≡ 0
    → prefix_to_begin limit stream bytes ≡ bytes
prefix-all limit stream bytes none_begin =
    let found = prefix-is limit stream bytes in
    found.prefix_is ∙ take_all (length (prefix_to_begin limit stream bytes)) bytes
    (elim (cases_lt (length (prefix_to_begin limit stream bytes)) (length bytes)) [
      | inl bytes_left ↦ absurd (omega (arith, rw (← found.prefix_is) at (found.begins bytes_left), none_begin))
      | inr none_left ↦ omega arith
    ])

-- If there are bytes, their prefix isn't empty.
pub prefix-some : (limit : Option ℕ) (stream bytes : List ℕ) → 0 < length bytes
    → 0 < length (prefix_to_begin limit stream bytes)
prefix-some limit stream [] some_bytes = absurd (omega arith)
prefix-some limit stream (b ∷ rest) some_bytes = grind arith
