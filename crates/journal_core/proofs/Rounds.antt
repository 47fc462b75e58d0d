-- Rounds at the front of a list, and that a file stands for one list of records.
use Rattle.std.proofs.Common.{◌≡◌, ◌≢◌, inl, inr, ℕ, ◌+◌, ◌<◌, ◌^◌, List, [], ◌∷◌, ◌++◌, length, drop, slice_index, refl, sym, ◌∙◌, ap, append_assoc, length-append, arith}
use Rattle.std.proofs.lemmas.List.{append-nil, drop_at}
use Rattle.std.proofs.lemmas.Grind.{flat_map-append}
use Rattle.std.specs.List.{AllByRecursion}
use Rattle.journal_core.specs.declared.header.Header.{Header}
use Rattle.journal_core.specs.Format.{Laid, IsNewFile, IsOf64Bits, IsOpen, Lies, StandsFor, journal_front, header_text, records_in, records_text, round_text, rounds_text, shut_word, size_of, sum_of, word_of}
use Rattle.journal_core.proofs.Headers.{header_len, header_one}
use Rattle.journal_core.proofs.Numbers.{word_len, words_same, parts_same}
use Rattle.journal_core.proofs.Records.{records_same}

-- a round, taken apart
pub round_parts : (key place : ℕ) (a xs : List ℕ) → round_text key place a ++ xs ≡ word_of (length a) ++ (word_of (sum_of key place a) ++ (a ++ xs))
round_parts key place a xs =
    append_assoc (word_of (length a)) (word_of (sum_of key place a) ++ a) xs ∙ ap (λ (l : List ℕ). word_of (length a) ++ l) (append_assoc (word_of (sum_of key place a)) a xs)

pub round_len : (key place : ℕ) (a : List ℕ) → length (round_text key place a) ≡ 16 + length a
round_len key place a =
    omega (
      arith,
      length-append (word_of (length a)) (word_of (sum_of key place a) ++ a),
      length-append (word_of (sum_of key place a)) a,
      word_len (length a),
      word_len (sum_of key place a),
    )

-- two rounds at the front of one list
pub round_one : (g h a b xs ys : List ℕ) (key place : ℕ) (key' place' : ℕ) → length g ≡ 8 → length h ≡ 8 → length a < 2 ^ 64 → length b < 2 ^ 64
    → g ++ (round_text key place a ++ xs) ≡ h ++ (round_text key' place' b ++ ys) → (g ≡ h) × (a ≡ b) × (xs ≡ ys)
round_one g h a b xs ys key place key' place' g_len h_len a_short b_short is =
    let sum = word_of (sum_of key place a) in
    let sum' = word_of (sum_of key' place' b) in
    let gates = parts_same g h (round_text key place a ++ xs) (round_text key' place' b ++ ys) (g_len ∙ sym h_len) is in
    let lens = words_same (length a) (length b) (sum ++ (a ++ xs)) (sum' ++ (b ++ ys)) a_short b_short (sym (round_parts key place a xs) ∙ gates.1 ∙ round_parts key' place' b ys) in
    let sums = parts_same sum sum' (a ++ xs) (b ++ ys) (word_len (sum_of key place a) ∙ sym (word_len (sum_of key' place' b))) lens.1 in
    let both = parts_same a b xs ys lens.0 sums.1 in
    (gates.0, both.0, both.1)

-- the first round, and the others behind it
pub first_apart : (key place : ℕ) (r : Laid) (rounds : List Laid) (rest : List ℕ)
    → rounds_text key place (r ∷ rounds) ++ rest ≡ r.0 ++ (round_text key place (records_text r.1) ++ (rounds_text key (place + size_of r) rounds ++ rest))
unfolding rounds_text
first_apart key place r rounds rest =
    let others = rounds_text key (place + size_of r) rounds in
    let text = round_text key place (records_text r.1) in
    append_assoc r.0 (text ++ others) rest ∙ ap (λ (l : List ℕ). r.0 ++ l) (append_assoc text others rest)

pub first_size : (key place : ℕ) (r : Laid) (rounds : List Laid) → length r.0 ≡ 8 → length (rounds_text key place (r ∷ rounds)) ≡ size_of r + length (rounds_text key (place + size_of r) rounds)
unfolding rounds_text
first_size key place r rounds word =
    let others = rounds_text key (place + size_of r) rounds in
    let text = round_text key place (records_text r.1) in
    omega (arith, word, length-append r.0 (text ++ others), length-append text others, round_len key place (records_text r.1))

-- rounds behind rounds, and anything behind them
pub rounds_two : (key place : ℕ) (rounds more : List Laid) (rest : List ℕ) → AllByRecursion IsOpen rounds
    → rounds_text key place (rounds ++ more) ++ rest ≡ rounds_text key place rounds ++ (rounds_text key (place + length (rounds_text key place rounds)) more ++ rest)
unfolding rounds_text
rounds_two key place [] more rest gates = ap (λ k. rounds_text key k more ++ rest) (omega arith)
rounds_two key place (q ∷ rounds) more rest gates =
    let next = place + size_of q in
    let behind = λ (k : ℕ). rounds_text key k more ++ rest in
    let end : next + length (rounds_text key next rounds) ≡ place + length (rounds_text key place (q ∷ rounds)) = omega (arith, first_size key place q rounds gates.0.word) in
    first_apart key place q (rounds ++ more) rest
    ∙ ap (λ (l : List ℕ). q.0 ++ (round_text key place (records_text q.1) ++ l)) (rounds_two key next rounds more rest gates.1 ∙ ap (λ k. rounds_text key next rounds ++ behind k) end)
    ∙ sym (first_apart key place q rounds (behind (place + length (rounds_text key place (q ∷ rounds)))))

-- one round more, and anything behind it
pub rounds_more : (key place : ℕ) (rounds : List Laid) (r : Laid) (rest : List ℕ) → AllByRecursion IsOpen rounds
    → rounds_text key place (rounds ++ r ∷ []) ++ rest ≡ rounds_text key place rounds ++ (r.0 ++ (round_text key (place + length (rounds_text key place rounds)) (records_text r.1) ++ rest))
unfolding rounds_text
rounds_more key place rounds r rest gates =
    rounds_two key place rounds (r ∷ []) rest gates ∙ ap (λ (l : List ℕ). rounds_text key place rounds ++ l) (first_apart key (place + length (rounds_text key place rounds)) r [] rest)

pub rounds_size : (key place : ℕ) (rounds : List Laid) (r : Laid) → AllByRecursion IsOpen rounds → length r.0 ≡ 8
    → length (rounds_text key place (rounds ++ r ∷ [])) ≡ length (rounds_text key place rounds) + size_of r
rounds_size key place rounds r gates word =
    let text = round_text key (place + length (rounds_text key place rounds)) (records_text r.1) in
    omega (
      arith,
      word,
      ap length (sym (append-nil (rounds_text key place (rounds ++ r ∷ []))) ∙ rounds_more key place rounds r [] gates),
      length-append (rounds_text key place rounds) (r.0 ++ (text ++ [])),
      length-append r.0 (text ++ []),
      length-append text [],
      round_len key (place + length (rounds_text key place rounds)) (records_text r.1),
    )

pub front_len : (first : ℕ) (h : Header) (rounds : List Laid) → length (journal_front first h rounds) ≡ 56 + length (rounds_text h.key 56 rounds)
front_len first h rounds = omega (arith, length-append (header_text h) (rounds_text h.key 56 rounds), header_len h)

pub front_two : (first : ℕ) (h : Header) (rounds more : List Laid) (rest : List ℕ) → AllByRecursion IsOpen rounds
    → journal_front first h (rounds ++ more) ++ rest ≡ journal_front first h rounds ++ (rounds_text h.key (56 + length (rounds_text h.key 56 rounds)) more ++ rest)
front_two first h rounds more rest gates =
    append_assoc (first ∷ header_text h) (rounds_text h.key 56 (rounds ++ more)) rest
    ∙ ap (λ (l : List ℕ). (first ∷ header_text h) ++ l) (rounds_two h.key 56 rounds more rest gates)
    ∙ sym (append_assoc (first ∷ header_text h) (rounds_text h.key 56 rounds) (rounds_text h.key (56 + length (rounds_text h.key 56 rounds)) more ++ rest))

pub front_more : (first : ℕ) (h : Header) (rounds : List Laid) (r : Laid) (rest : List ℕ) → AllByRecursion IsOpen rounds
    → journal_front first h (rounds ++ r ∷ []) ++ rest ≡ journal_front first h rounds ++ (r.0 ++ (round_text h.key (56 + length (rounds_text h.key 56 rounds)) (records_text r.1) ++ rest))
unfolding rounds_text
front_more first h rounds r rest gates =
    front_two first h rounds (r ∷ []) rest gates ∙ ap (λ (l : List ℕ). journal_front first h rounds ++ l) (first_apart h.key (56 + length (rounds_text h.key 56 rounds)) r [] rest)

pub records_in_more : (rounds : List Laid) (r : Laid) → records_in (rounds ++ r ∷ []) ≡ records_in rounds ++ r.1
records_in_more rounds r = flat_map-append (λ (q : Laid). q.1) rounds (r ∷ []) ∙ ap (λ (l : List (List ℕ)). records_in rounds ++ l) (append-nil r.1)

-- no round whose gate is open stands where a gate is shut
pub no_round : (r : Laid) (rest behind : List ℕ) → IsOpen r → r.0 ++ rest ≢ shut_word ++ behind
no_round r rest behind it is = it.other (parts_same r.0 shut_word rest behind it.word is).0

-- rounds and what stands behind them, in two ways
pub rounds_one : (key place key' place' : ℕ) (rs qs : List Laid) (xs ys : List ℕ) → AllByRecursion IsOpen rs → AllByRecursion IsOpen qs
    → rounds_text key place rs ++ (shut_word ++ xs) ≡ rounds_text key' place' qs ++ (shut_word ++ ys) → (rs ≡ qs) × (xs ≡ ys)
unfolding rounds_text
rounds_one key place key' place' [] [] xs ys rs_open qs_open is = (refl, ap (λ (l : List ℕ). drop 8 l) is)
rounds_one key place key' place' [] (q ∷ qs) xs ys rs_open qs_open is = absurd (no_round q _ xs qs_open.0 (sym (is ∙ first_apart key' place' q qs (shut_word ++ ys))))
rounds_one key place key' place' (r ∷ rs) [] xs ys rs_open qs_open is = absurd (no_round r _ ys rs_open.0 (sym (first_apart key place r rs (shut_word ++ xs)) ∙ is))
rounds_one key place key' place' (r ∷ rs) (q ∷ qs) xs ys rs_open qs_open is =
    let left = rounds_text key (place + size_of r) rs ++ (shut_word ++ xs) in
    let right = rounds_text key' (place' + size_of q) qs ++ (shut_word ++ ys) in
    let parts = round_one r.0 q.0 (records_text r.1) (records_text q.1) left right key place key' place' rs_open.0.word qs_open.0.word rs_open.0.short qs_open.0.short
    (sym (first_apart key place r rs (shut_word ++ xs)) ∙ is ∙ first_apart key' place' q qs (shut_word ++ ys)) in
    let same : r.1 ≡ q.1 = records_same r.1 q.1 rs_open.0.short parts.1 in
    let others = rounds_one key (place + size_of r) key' (place' + size_of q) rs qs xs ys rs_open.1 qs_open.1 parts.2 in
    (λ i. (parts.0 i, same i) ∷ others.0 i, others.1)

-- the header, and what stands behind it
pub front_apart : (first : ℕ) (h : Header) (rounds : List Laid) (rest : List ℕ) → journal_front first h rounds ++ rest ≡ (first ∷ header_text h) ++ (rounds_text h.key 56 rounds ++ rest)
front_apart first h rounds rest = append_assoc (first ∷ header_text h) (rounds_text h.key 56 rounds) rest

-- a file in use, taken apart in two ways
pub front_one : (first first' : ℕ) (h g : Header) (rs qs : List Laid) (xs ys : List ℕ) → IsOf64Bits h → IsOf64Bits g → AllByRecursion IsOpen rs → AllByRecursion IsOpen qs
    → journal_front first h rs ++ (shut_word ++ xs) ≡ journal_front first' g qs ++ (shut_word ++ ys) → (h ≡ g) × (first ≡ first') × (rs ≡ qs) × (xs ≡ ys)
front_one first first' h g rs qs xs ys h_fits g_fits rs_open qs_open is =
    let left = rounds_text h.key 56 rs ++ (shut_word ++ xs) in
    let right = rounds_text g.key 56 qs ++ (shut_word ++ ys) in
    let both = header_one first first' h g left right h_fits g_fits (sym (front_apart first h rs (shut_word ++ xs)) ∙ is ∙ front_apart first' g qs (shut_word ++ ys)) in
    let rounds = rounds_one h.key 56 g.key 56 rs qs xs ys rs_open qs_open both.1 in
    (both.0, ap (λ (l : List ℕ). slice_index l 0) is, rounds.0, rounds.1)

pub lies_one : (h g : Header) (file : List ℕ) (rs qs : List Laid) → Lies h file rs → Lies g file qs → (h ≡ g) × (records_in rs ≡ records_in qs)
lies_one h g file rs qs a b =
    let one = front_one a.first b.first h g rs qs a.behind b.behind a.fits b.fits a.gates b.gates (sym a.split ∙ b.split) in
    (one.0, ap (λ (l : List Laid). records_in l) one.2)

-- a file in use is not still being made
pub in_use : (h : Header) (file : List ℕ) (rounds : List Laid) → Lies h file rounds → ¬ (IsNewFile file)
in_use h file rounds it new =
    let len : length file ≡ length (journal_front it.first h rounds) + (8 + length it.behind) = ap length it.split ∙ omega (arith, length-append (journal_front it.first h rounds) (shut_word ++ it.behind)) in
    let head : slice_index file 0 ≡ it.first = ap (λ (l : List ℕ). slice_index l 0) it.split in
    elim new [
      | inl few ↦ omega (arith, len, few, front_len it.first h rounds)
      | inr zero ↦ it.made (sym head ∙ zero.0)
    ]

pub stands_for_one : (h g : Header) (file : List ℕ) (rs qs : List (List ℕ)) → StandsFor h file rs → StandsFor g file qs → rs ≡ qs
stands_for_one h g file rs qs a b = elim a [
  | inl new ↦ elim b [
    | inl also ↦ new.1 ∙ sym also.1
    | inr used ↦ absurd (in_use g file used.0 used.1 new.0)
  ]
  | inr used ↦ elim b [
    | inl new ↦ absurd (in_use h file used.0 used.1 new.0)
    | inr also ↦ sym used.2 ∙ (lies_one h g file used.0 also.0 used.1 also.1).1 ∙ also.2
  ]
]

-- what is left behind rounds of a whole file begins with a gate that is shut or with a round
pub left_is : (key place : ℕ) (done all : List Laid) (rest behind : List ℕ) → AllByRecursion IsOpen done → AllByRecursion IsOpen all
    → rounds_text key place done ++ rest ≡ rounds_text key place all ++ (shut_word ++ behind)
    → ((b : List ℕ) → rest ≢ shut_word ++ b)
    → ((r : Laid) (b : List ℕ) → IsOpen r → rest ≢ r.0 ++ (round_text key (place + length (rounds_text key place done)) (records_text r.1) ++ b)) → ⊥
unfolding rounds_text
left_is key place [] [] rest behind d a is other none = other behind is
left_is key place [] (q ∷ all) rest behind d a is other none =
    let b = rounds_text key (place + size_of q) all ++ (shut_word ++ behind) in
    none q b a.0 (is ∙ first_apart key place q all (shut_word ++ behind) ∙ ap (λ k. q.0 ++ (round_text key k (records_text q.1) ++ b)) (omega arith))
left_is key place (r ∷ done) [] rest behind d a is other none = no_round r _ behind d.0 (sym (first_apart key place r done rest) ∙ is)
left_is key place (r ∷ done) (q ∷ all) rest behind d a is other none =
    let xs = rounds_text key (place + size_of r) done ++ rest in
    let ys = rounds_text key (place + size_of q) all ++ (shut_word ++ behind) in
    let parts = round_one r.0 q.0 (records_text r.1) (records_text q.1) xs ys key place key place d.0.word a.0.word d.0.short a.0.short
    (sym (first_apart key place r done rest) ∙ is ∙ first_apart key place q all (shut_word ++ behind)) in
    let next : place + size_of q ≡ place + size_of r = ap (λ (l : List ℕ). place + (24 + length l)) (sym parts.1) in
    let end : place + length (rounds_text key place (r ∷ done)) ≡ place + size_of r + length (rounds_text key (place + size_of r) done) = omega (arith, first_size key place r done d.0.word) in
    left_is key (place + size_of r) done all rest behind d.1 a.1 (parts.2 ∙ ap (λ k. rounds_text key k all ++ (shut_word ++ behind)) next) other
    (λ p b p_open rest_is. none p b p_open (rest_is ∙ ap (λ k. p.0 ++ (round_text key k (records_text p.1) ++ b)) (sym end)))

-- rounds at the front of a whole file are the first of its rounds
all_front : (key place : ℕ) (done all : List Laid) (rest behind : List ℕ) → AllByRecursion IsOpen done → AllByRecursion IsOpen all
    → rounds_text key place done ++ rest ≡ rounds_text key place all ++ (shut_word ++ behind) → (more : List Laid) × (all ≡ done ++ more)
unfolding rounds_text
all_front key place [] all rest behind d a is = (all, refl)
all_front key place (r ∷ done) [] rest behind d a is = absurd (no_round r _ behind d.0 (sym (first_apart key place r done rest) ∙ is))
all_front key place (r ∷ done) (q ∷ all) rest behind d a is =
    let xs = rounds_text key (place + size_of r) done ++ rest in
    let ys = rounds_text key (place + size_of q) all ++ (shut_word ++ behind) in
    let parts = round_one r.0 q.0 (records_text r.1) (records_text q.1) xs ys key place key place d.0.word a.0.word d.0.short a.0.short
    (sym (first_apart key place r done rest) ∙ is ∙ first_apart key place q all (shut_word ++ behind)) in
    let next : place + size_of q ≡ place + size_of r = ap (λ (l : List ℕ). place + (24 + length l)) (sym parts.1) in
    let same : r.1 ≡ q.1 = records_same r.1 q.1 d.0.short parts.1 in
    let others = all_front key (place + size_of r) done all rest behind d.1 a.1 (parts.2 ∙ ap (λ k. rounds_text key k all ++ (shut_word ++ behind)) next) in
    (others.0, λ i. (sym parts.0 i, sym same i) ∷ others.1 i)

-- the same of the file, whose header is the one
pub file_front : (h : Header) (file : List ℕ) (rounds : List Laid) (first : ℕ) (rest : List ℕ) → IsOf64Bits h → file ≡ journal_front first h rounds ++ rest → AllByRecursion IsOpen rounds
    → (g : Header) (qs : List Laid) → Lies g file qs → (h ≡ g) × ((more : List Laid) × (qs ≡ rounds ++ more))
file_front h file rounds first rest fits split gates g qs it =
    let left = rounds_text h.key 56 rounds ++ rest in
    let right = rounds_text g.key 56 qs ++ (shut_word ++ it.behind) in
    let both = header_one first it.first h g left right fits it.fits (sym (front_apart first h rounds rest) ∙ sym split ∙ it.split ∙ front_apart it.first g qs (shut_word ++ it.behind)) in
    let one_key : left ≡ rounds_text h.key 56 qs ++ (shut_word ++ it.behind) = both.1 ∙ ap (λ (k : Header). rounds_text k.key 56 qs ++ (shut_word ++ it.behind)) (sym both.0) in
    (both.0, all_front h.key 56 rounds qs rest it.behind gates it.gates one_key)

-- what is refused as damaged stands for no records
pub damage_refuses : (h : Header) (file : List ℕ) (rounds : List Laid) (place : ℕ) (first : ℕ) (rest : List ℕ) → first ≢ 0 → IsOf64Bits h → file ≡ journal_front first h rounds ++ rest → AllByRecursion IsOpen rounds
    → place ≡ 56 + length (rounds_text h.key 56 rounds) → ((behind : List ℕ) → drop place file ≢ shut_word ++ behind)
    → ((r : Laid) (behind : List ℕ) → IsOpen r → drop place file ≢ r.0 ++ (round_text h.key place (records_text r.1) ++ behind))
    → (g : Header) (qs : List Laid) → ¬ (Lies g file qs)
damage_refuses h file rounds place first rest made fits split gates place_is shut round g qs it =
    let end = 56 + length (rounds_text h.key 56 rounds) in
    let rest_is : drop place file ≡ rest = ap (λ (l : List ℕ). drop place l) split ∙ drop_at (journal_front first h rounds) rest place (front_len first h rounds ∙ sym place_is) in
    let left = rounds_text h.key 56 rounds ++ rest in
    let right = rounds_text g.key 56 qs ++ (shut_word ++ it.behind) in
    let both = header_one first it.first h g left right fits it.fits (sym (front_apart first h rounds rest) ∙ sym split ∙ it.split ∙ front_apart it.first g qs (shut_word ++ it.behind)) in
    let one_key : left ≡ rounds_text h.key 56 qs ++ (shut_word ++ it.behind) = both.1 ∙ ap (λ (k : Header). rounds_text k.key 56 qs ++ (shut_word ++ it.behind)) (sym both.0) in
    left_is h.key 56 rounds qs rest it.behind gates it.gates one_key (λ b is. shut b (rest_is ∙ is))
    (λ r b r_open is. round r b r_open (rest_is ∙ is ∙ ap (λ k. r.0 ++ (round_text h.key k (records_text r.1) ++ b)) (sym place_is)))

-- no round
pub rounds_none : (key place : ℕ) → rounds_text key place [] ≡ []
unfolding rounds_text
rounds_none key place = refl

pub front_none : (first : ℕ) (h : Header) (rest : List ℕ) → journal_front first h [] ++ rest ≡ first ∷ (header_text h ++ rest)
front_none first h rest = front_apart first h [] rest ∙ ap (λ (l : List ℕ). (first ∷ header_text h) ++ (l ++ rest)) (rounds_none h.key 56)
