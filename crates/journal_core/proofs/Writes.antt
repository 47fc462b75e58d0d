-- What a write makes of a file, where it begins behind a part of it.
use Rattle.std.proofs.Common.{◌≡◌, ℕ, ◌+◌, ◌<◌, ◌≤◌, List, ◌++◌, length, take, drop, slice_index, sym, ◌∙◌, ap, subst, arith, append_assoc, length-append}
use Rattle.std.proofs.lemmas.List.{take-append-drop, drop-drop, length-drop, length-take-le, get_or-drop, get_or_append_left, drop_at}
use Rattle.sqlite_disk.specs.Disk.{Holds, Torn}
use Rattle.journal_core.proofs.Parts.{begins, drop_same}

-- what stands before it stays
pub stays : (before behind : List ℕ) (n : ℕ) (c : List ℕ) → Torn (length before) n (before ++ behind) c → c ≡ before ++ drop (length before) c
stays before behind n c torn =
    let len : length (before ++ behind) ≡ length before + length behind = length-append before behind in
    let long : length before ≤ length c = omega (arith, len, torn.no_shorter) in
    let same : (i : ℕ) → i < length before → slice_index c i ≡ slice_index before i = λ i low.
    torn.below i (omega (arith, low, len)) low ∙ get_or_append_left before behind 0 i low in
    begins c before long same

-- where it is done, its bytes stand there
pub written : (before behind text c : List ℕ) → Torn (length before) (length text) (before ++ behind) c → Holds c (length before) text
    → c ≡ before ++ (text ++ drop (length text) (drop (length before) c))
written before behind text c torn holds =
    let rest = drop (length before) c in
    let long : length text ≤ length rest = omega (arith, holds.within, length-drop (length before) c) in
    let same : (i : ℕ) → i < length text → slice_index rest i ≡ slice_index text i = λ i low. get_or-drop (length before) c i 0 ∙ holds.each i low in
    stays before behind (length text) c torn ∙ ap (λ (l : List ℕ). before ++ l) (begins rest text long same)

-- what stands behind a word stays, where the write is of that word
pub over : (before word behind c : List ℕ) → Torn (length before) (length word) (before ++ (word ++ behind)) c
    → (length (take (length word) (drop (length before) c)) ≡ length word) × (c ≡ before ++ (take (length word) (drop (length before) c) ++ behind))
over before word behind c torn =
    let n = length before in
    let m = length word in
    let len : length (before ++ (word ++ behind)) ≡ n + m + length behind = omega (arith, length-append before (word ++ behind), length-append word behind) in
    let same_len : length c ≡ length (before ++ (word ++ behind)) = omega (arith, len, torn.no_shorter, torn.no_longer) in
    let rest = drop n c in
    let rest_len : length rest ≡ m + length behind = omega (arith, length-drop n c, same_len, len) in
    let back : drop (n + m) c ≡ drop (n + m) (before ++ (word ++ behind)) =
    drop_same c (before ++ (word ++ behind)) (n + m) same_len (λ i high low. torn.above i (omega (arith, low, same_len)) high) in
    let tail : drop (n + m) (before ++ (word ++ behind)) ≡ behind =
    ap (λ (l : List ℕ). drop (n + m) l) (sym (append_assoc before word behind)) ∙ drop_at (before ++ word) behind (n + m) (length-append before word) in
    let behind_is : drop m rest ≡ behind = drop-drop m n c ∙ back ∙ tail in (
      length-take-le m rest (omega (arith, rest_len)),
      stays before (word ++ behind) m c torn ∙ ap (λ (l : List ℕ). before ++ l) (sym (take-append-drop m rest) ∙ ap (λ (l : List ℕ). take m rest ++ l) behind_is),
    )

-- and where it is done, the word is the one written
pub over_done : (before word behind text c : List ℕ) → length text ≡ length word → Torn (length before) (length text) (before ++ (word ++ behind)) c → Holds c (length before) text
    → c ≡ before ++ (text ++ behind)
over_done before word behind text c len torn holds =
    let both = over before word behind c (subst (λ n. Torn (length before) n (before ++ (word ++ behind)) c) len torn) in
    let w = take (length word) (drop (length before) c) in
    let tail : drop (length text) (drop (length before) c) ≡ behind =
    ap (λ (l : List ℕ). drop (length text) (drop (length before) l)) both.1
    ∙ ap (λ (l : List ℕ). drop (length text) l) (drop_at before (w ++ behind) (length before) (omega arith))
    ∙ drop_at w behind (length text) (omega (arith, len, both.0)) in
    written before (word ++ behind) text c torn holds ∙ ap (λ (l : List ℕ). before ++ (text ++ l)) tail
