-- The segments of bytes that are cut at their end.
use Rattle.std.proofs.Common.{◌≡◌, ℕ, ◌+◌, ◌-◌, ◌<◌, ◌≤◌, true, false, List, [], ◌∷◌, ◌++◌, length, take, drop, filter, get_or, cond, refl, sym, ap, ◌∙◌, subst, zero, suc, ⊎_elim, append-nil, append_assoc, length-drop, arith}
use Rattle.std.proofs.lemmas.Bool.{eqb-true, cases_lt, true≢false}
use Rattle.std.proofs.lemmas.Bool.Decides.{nat_tests}
use Rattle.std.proofs.lemmas.List.{take-append-drop, get_or-drop}
use Rattle.std.proofs.lemmas.List.Splits.{slice_split_none}
use Rattle.std.proofs.lemmas.List.Elements.{All-from_get_or}
use Rattle.dav_path_core.proofs.paths.NameLemmas.{NoSlashFrom}
use Rattle.std.proofs.lemmas.List.{take_more}
use Rattle.std.proofs.lemmas.List.Elements.{filter-append}
use Rattle.dav_path_core.specs.Segments.{segments, is_slash, is_nonempty, slash_pieces}
use Rattle.dav_path_core.specs.Fronts.{Path, parent}
use Rattle.dav_path_core.proofs.paths.PieceLemmas.{pieces-at_slash}

-- a slash parts the segments
pub segments-at_slash : (front back : List ℕ) → segments (front ++ 47 ∷ back) ≡ segments front ++ segments back
unfolding segments
segments-at_slash front back = ap (filter is_nonempty) (pieces-at_slash front back) ∙ filter-append is_nonempty (slash_pieces front) (slash_pieces back)

segments-none : segments [] ≡ []
unfolding segments
segments-none = refl

-- a slash at the end adds none
pub segments-slash_end : (bs : List ℕ) → segments (bs ++ 47 ∷ []) ≡ segments bs
segments-slash_end bs = segments-at_slash bs [] ∙ ap (λ l. segments bs ++ l) segments-none ∙ append-nil (segments bs)

pub segments-less : (bs : List ℕ) (n : ℕ) → n < length bs → is_slash (get_or bs n 0) ≡ true → segments (take n bs) ≡ segments (take (n + 1) bs)
segments-less bs n within here =
    sym (ap segments (take_more bs n 0 within ∙ ap (λ b. take n bs ++ b ∷ []) (eqb-true (get_or bs n 0) 47 here)) ∙ segments-slash_end (take n bs))

pub parent-push : (p : Path) (s : List ℕ) → parent (p ++ s ∷ []) ≡ p
parent-push [] s = refl
parent-push (x ∷ []) s = refl
parent-push (x ∷ y ∷ p) s = ap (λ l. x ∷ l) (parent-push (y ∷ p) s)

nonempty : (s : List ℕ) → 0 < length s → is_nonempty s ≡ true
nonempty s h = grind (arith, nat_tests)

pub segments-name : (s : List ℕ) → 0 < length s → NoSlashFrom s 0 → segments s ≡ s ∷ []
unfolding segments
segments-name s long clean =
    ap (filter is_nonempty) (slice_split_none is_slash s (All-from_get_or (λ b. is_slash b ≡ false) s 0 (λ k below. clean.none k (omega arith) below)))
    ∙ ap (λ b. cond b (s ∷ []) []) (nonempty s long)

-- bytes of one name have the root above them
pub above-root : (bs : List ℕ) → 0 < length bs → NoSlashFrom bs 0 → segments (take 0 bs) ≡ parent (segments bs)
above-root bs long clean = segments-none ∙ sym (ap parent (segments-name bs long clean))

-- what stands before the last name
pub above-slash : (bs : List ℕ) (n : ℕ) → n + 1 < length bs → is_slash (get_or bs n 0) ≡ true → NoSlashFrom bs (n + 1) → segments (take (n + 1) bs) ≡ parent (segments bs)
above-slash bs n within here clean =
    let name = drop (n + 1) bs in
    let long : 0 < length name = omega (arith, length-drop (n + 1) bs) in
    let no_slash : NoSlashFrom name 0 = record { none = λ k from below. rw (get_or-drop (n + 1) bs k 0) (clean.none (n + 1 + k) (omega arith) (omega (arith, length-drop (n + 1) bs))) } in
    let front : take (n + 1) bs ≡ take n bs ++ 47 ∷ [] = take_more bs n 0 (omega arith) ∙ ap (λ b. take n bs ++ b ∷ []) (eqb-true (get_or bs n 0) 47 here) in
    let whole : bs ≡ take n bs ++ 47 ∷ name = sym (take-append-drop (n + 1) bs) ∙ ap (λ l. l ++ name) front ∙ append_assoc (take n bs) (47 ∷ []) name in
    ap segments front ∙ segments-slash_end (take n bs)
    ∙ sym (ap (λ l. parent (segments l)) whole ∙ ap parent (segments-at_slash (take n bs) name ∙ ap (λ l. segments (take n bs) ++ l) (segments-name name long no_slash)) ∙ parent-push (segments (take n bs)) name)

pub above-none : (bs : List ℕ) → length bs ≡ 0 → segments (take 0 bs) ≡ parent (segments bs)
above-none [] h = segments-none ∙ sym (ap parent segments-none)
above-none (b ∷ bs) h = absurd (omega (arith, h))

inside : (bs : List ℕ) (n : ℕ) → n < length bs → is_slash (get_or bs n 0) ≡ true → (0 < length bs → is_slash (get_or bs (length bs - 1) 0) ≡ false) → n + 1 < length bs
inside bs n within here named =
    ⊎_elim
    (λ (lt : n + 1 < length bs). lt)
    (λ (le : length bs ≤ n + 1).
    let last : n ≡ length bs - 1 = omega arith in
    absurd (true≢false (sym here ∙ ap (λ k. is_slash (get_or bs k 0)) last ∙ named (omega arith))))
    (cases_lt (n + 1) (length bs))

-- what stands before the last name, from its first byte down
pub above-cut : (bs : List ℕ) (end : ℕ) → end ≤ length bs → NoSlashFrom bs end → (0 < length bs → is_slash (get_or bs (length bs - 1) 0) ≡ false) → (0 < end → is_slash (get_or bs (end - 1) 0) ≡ true)
    → segments (take end bs) ≡ parent (segments bs)
above-cut [] zero within clean named at = above-none [] refl
above-cut (b ∷ bs) zero within clean named at = above-root (b ∷ bs) (omega arith) clean
above-cut bs (suc n) within clean named at =
    let below : suc n - 1 ≡ n = omega arith in
    let here : is_slash (get_or bs n 0) ≡ true = subst (λ k. is_slash (get_or bs k 0) ≡ true) below (at (omega arith)) in
    let one : n + 1 ≡ suc n = omega arith in
    ap (λ k. segments (take k bs)) (sym one) ∙ above-slash bs n (inside bs n (omega arith) here named) here (subst (NoSlashFrom bs) (sym one) clean)
