-- A text behind the one before is read exactly.
use Rattle.std.proofs.Common.{◌≡◌, ℕ, zero, suc, ◌+◌, ◌-◌, ◌^◌, ◌<◌, ◌≤◌, Bool, true, false, cond, eqb, ltb, List, [], ◌∷◌, ◌++◌, length, get_or, take, drop, Result, Ok, Err, refl, sym, ap, subst, ◌∙◌, append_assoc, arith}
use Rattle.std.proofs.lemmas.Bool.{ltb-false, le-ltb, eqb-true, eq-eqb}
use Rattle.std.proofs.lemmas.List.{take_at, drop_at, length-append, length-take, length-drop}
use Rattle.dav_effects_core.specs.ByteForms.{Reading, ◌>>=◌, common_len, number_text, counted_text, following_text, eight_bytes_at, bytes_at, following_at}
use Rattle.dav_effects_core.proofs.Exact.{Exact, IsBytes, IsBytes-behind, IsBytes-take, IsBytes-joined, IsBytes-front, bind_ok, guard_false, guard_true, ok_is, number_exact, bytes_exact}
use Rattle.dav_effects_core.proofs.Fronts.{common_le_before, common_le_text, common_parts}

-- the parts of a text that has so much in common with the one before
following_parts : (before : List ℕ) (n len : ℕ) (more : List ℕ) → n ≤ length before → n ≤ len → common_len before (take n before ++ more) ≡ n → length more ≡ len - n
    → (following_text before (take n before ++ more) ≡ number_text n ++ (number_text len ++ more)) × (length (take n before ++ more) ≡ len)
unfolding following_text
following_parts before n len more le le' same long =
    let text = take n before ++ more in
    let front : length (take n before) ≡ n = omega (arith, length-take n before) in
    let all : length text ≡ len = omega (arith, length-append (take n before) more) in
    let rest : drop n text ≡ more = drop_at (take n before) more n front in
    (rw (same, all, rest) refl, all)

following_takes : (before bytes x rest : List ℕ) → IsBytes bytes → following_at before bytes ≡ Ok (x, rest) → (bytes ≡ following_text before x ++ rest) × (length x < 2 ^ 64)
unfolding following_at following_text
following_takes before bytes x rest fits e =
    let a = bind_ok (eight_bytes_at bytes) (λ n. eight_bytes_at n.1 >>= λ len. bytes_at (len.0 - n.0) len.1 >>= λ more.
    cond (ltb (length before) n.0) (Err (length bytes)) (cond (ltb len.0 n.0) (Err (length bytes)) (cond (eqb (common_len before (take n.0 before ++ more.0)) n.0) (Ok (take n.0 before ++ more.0, more.1)) (Err (length bytes))))) (x, rest) e in
    let n = a.0.0 in
    let b = bind_ok (eight_bytes_at a.0.1) (λ len. bytes_at (len.0 - n) len.1 >>= λ more.
    cond (ltb (length before) n) (Err (length bytes)) (cond (ltb len.0 n) (Err (length bytes)) (cond (eqb (common_len before (take n before ++ more.0)) n) (Ok (take n before ++ more.0, more.1)) (Err (length bytes))))) (x, rest) a.2 in
    let len = b.0.0 in
    let d = bind_ok (bytes_at (len - n) b.0.1) (λ more.
    cond (ltb (length before) n) (Err (length bytes)) (cond (ltb len n) (Err (length bytes)) (cond (eqb (common_len before (take n before ++ more.0)) n) (Ok (take n before ++ more.0, more.1)) (Err (length bytes))))) (x, rest) b.2 in
    let more = d.0.0 in
    let text = take n before ++ more in
    let g = guard_false (ltb (length before) n) (length bytes) (cond (ltb len n) (Err (length bytes)) (cond (eqb (common_len before text) n) (Ok (text, d.0.1)) (Err (length bytes)))) (x, rest) d.2 in
    let g' = guard_false (ltb len n) (length bytes) (cond (eqb (common_len before text) n) (Ok (text, d.0.1)) (Err (length bytes))) (x, rest) g.1 in
    let g'' = guard_true (eqb (common_len before text) n) (length bytes) (Ok (text, d.0.1)) (x, rest) g'.1 in
    let first = number_exact.takes bytes n a.0.1 fits a.1 in
    let behind = IsBytes-behind (number_text n) a.0.1 (subst IsBytes first.0 fits) in
    let second = number_exact.takes a.0.1 len b.0.1 behind b.1 in
    let third = (bytes_exact (len - n)).takes b.0.1 more d.0.1 (IsBytes-behind (number_text len) b.0.1 (subst IsBytes second.0 behind)) d.1 in
    let parts = following_parts before n len more (ltb-false _ _ g.0) (ltb-false _ _ g'.0) (eqb-true _ _ g''.0) third.1 in
    let whole : bytes ≡ (number_text n ++ (number_text len ++ more)) ++ d.0.1 =
    first.0 ∙ ap (λ (r : List ℕ). number_text n ++ r) (second.0 ∙ ap (λ (r : List ℕ). number_text len ++ r) third.0) ∙ simp append_assoc in
    let made : List ℕ × List ℕ = (text, d.0.1) in
    subst (λ (y : List ℕ × List ℕ). (bytes ≡ following_text before y.0 ++ y.1) × (length y.0 < 2 ^ 64)) (ok_is made (x, rest) g''.1)
    (whole ∙ ap (λ (w : List ℕ). w ++ d.0.1) (sym parts.0), subst (λ (k : ℕ). k < 2 ^ 64) (sym parts.1) second.1)

following_again : (before x rest : List ℕ) → length x < 2 ^ 64 → following_at before (following_text before x ++ rest) ≡ Ok (x, rest)
unfolding following_at following_text
following_again before x rest short =
    let n = common_len before x in
    let more = drop n x in
    let within : n ≤ length x = common_le_text before x in
    let regrouped : (number_text n ++ (number_text (length x) ++ more)) ++ rest ≡ number_text n ++ (number_text (length x) ++ (more ++ rest)) = simp append_assoc in
    let one = number_exact.again n (number_text (length x) ++ (more ++ rest)) (omega arith) in
    let two = number_exact.again (length x) (more ++ rest) short in
    let three = (bytes_exact (length x - n)).again more rest (length-drop n x) in
    let fits : ltb (length before) n ≡ false = le-ltb _ _ (common_le_before before x) in
    let fits' : ltb (length x) n ≡ false = le-ltb _ _ within in
    let whole : take n before ++ more ≡ x = common_parts before x in
    let same : eqb (common_len before x) n ≡ true = eq-eqb _ _ refl in
    ap (following_at before) regrouped ∙ rw (one, two, three, fits, fits', whole, same) refl

-- the bytes of a text are those of the one before and those that are written
pub following_bytes : (before x rest : List ℕ) → IsBytes before → IsBytes (following_text before x ++ rest) → IsBytes x
unfolding following_text
following_bytes before x rest old fits =
    let n = common_len before x in
    let more = drop n x in
    let whole : (number_text n ++ (number_text (length x) ++ more)) ++ rest ≡ (number_text n ++ number_text (length x)) ++ (more ++ rest) = simp append_assoc in
    let behind : IsBytes (more ++ rest) = IsBytes-behind (number_text n ++ number_text (length x)) (more ++ rest) (subst IsBytes whole fits) in
    subst IsBytes (common_parts before x) (IsBytes-joined (take n before) more (IsBytes-take n before old) (IsBytes-front more rest behind))

pub following_exact : (before : List ℕ) → Exact (following_text before) (λ (x : List ℕ). length x < 2 ^ 64) (following_at before)
following_exact before = record { takes = following_takes before; again = following_again before }
