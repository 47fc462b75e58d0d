-- What is written for a text or a value is read as the same.
use Rattle.std.proofs.Common.{◌≡◌, refl, sym, ap, ◌∙◌, ℕ, zero, suc, ◌<◌, ◌≤◌, arith, Bool, true, false, ◌&&◌, ◌||◌, not, cond, eqb, nat_eq, List, [], ◌∷◌, ◌++◌, drop, length, map, Option, None, Some}
use Rattle.std.specs.Prelude.{codes, flat_map, ◌==◌, is_none}
use Rattle.std.specs.List.{list_any, starts_with}
use Rattle.std.proofs.lemmas.Bool.{eqb-true, false≢true}
use Rattle.std.proofs.lemmas.Cmp.{nat_eq_equiv}
use Rattle.std.proofs.lemmas.Option.{none-some}
use Rattle.std.proofs.lemmas.List.{length-append, map-append}
use Rattle.std.proofs.lemmas.List.Folds.{list_any-append}
use Rattle.dav_xml_core.specs.Optional.{◌>>=◌, when, choose}
use Rattle.dav_xml_core.specs.Reading.{content_of}
use Rattle.dav_xml_core.specs.References.{referenced_character, expanded_at, expanded_text, as_blank, value_of}
use Rattle.dav_xml_core.specs.Scanning.{Found, until, with_char}
use Rattle.dav_xml_core.specs.Sequences.{many, sequence, at_end}
use Rattle.dav_xml_core.specs.Writing.{escaped_character}

abbrev found : ℕ → List ℕ → Found ℕ
found c rest = Some (c, rest)

-- a reference for one character, or what else
at : (k c : ℕ) (first second rest : List ℕ) → expanded_at (first ++ rest) ≡ found k rest → ((c == k) ≡ false → expanded_at (second ++ rest) ≡ found c rest)
    → expanded_at (cond (c == k) first second ++ rest) ≡ found c rest
at k c first second rest y n = go (c == k) refl
  where
    go : (b : Bool) → (c == k) ≡ b → expanded_at (cond b first second ++ rest) ≡ found c rest
    go true e = y ∙ ap (λ (x : ℕ). found x rest) (sym (eqb-true c k e))
    go false e = n e

at_if : (v : Bool) (k c : ℕ) (first second rest : List ℕ) → expanded_at (first ++ rest) ≡ found k rest → expanded_at (second ++ rest) ≡ found c rest
    → expanded_at (cond (v && c == k) first second ++ rest) ≡ found c rest
at_if true k c first second rest y n = at k c first second rest y (λ _. n)
at_if false k c first second rest y n = n

plain : (c : ℕ) (rest : List ℕ) → (c == 38) ≡ false → expanded_at ((c ∷ []) ++ rest) ≡ found c rest
unfolding expanded_at
plain c rest e = ap (λ b. cond b (until (59 ∷ []) rest >>= λ name. referenced_character name.0 >>= λ r. found r name.1) (found c rest)) e

amp : (rest : List ℕ) → expanded_at (codes "&amp;" ++ rest) ≡ found 38 rest
unfolding expanded_at referenced_character
amp rest = refl

lt : (rest : List ℕ) → expanded_at (codes "&lt;" ++ rest) ≡ found 60 rest
unfolding expanded_at referenced_character
lt rest = refl

gt : (rest : List ℕ) → expanded_at (codes "&gt;" ++ rest) ≡ found 62 rest
unfolding expanded_at referenced_character
gt rest = refl

quot : (rest : List ℕ) → expanded_at (codes "&quot;" ++ rest) ≡ found 34 rest
unfolding expanded_at referenced_character
quot rest = refl

return : (rest : List ℕ) → expanded_at (codes "&#13;" ++ rest) ≡ found 13 rest
unfolding expanded_at referenced_character
return rest = refl

tab : (rest : List ℕ) → expanded_at (codes "&#9;" ++ rest) ≡ found 9 rest
unfolding expanded_at referenced_character
tab rest = refl

line : (rest : List ℕ) → expanded_at (codes "&#10;" ++ rest) ≡ found 10 rest
unfolding expanded_at referenced_character
line rest = refl

-- one character, as it is written
one : (v : Bool) (c : ℕ) (rest : List ℕ) → expanded_at (escaped_character v c ++ rest) ≡ found c rest
one v c rest =
    at 38 c _ _ rest (amp rest) (λ e.
    at 60 c _ _ rest (lt rest) (λ _.
    at 62 c _ _ rest (gt rest) (λ _.
    at 13 c _ _ rest (return rest) (λ _.
    at_if v 34 c _ _ rest (quot rest) (
    at_if v 9 c _ _ rest (tab rest) (
    at_if v 10 c _ _ rest (line rest) (plain c rest e)))))))

not_end : (text : List ℕ) (x : ℕ × List ℕ) → expanded_at text ≡ Some x → at_end text ≡ None
unfolding expanded_at
not_end [] x e = absurd (none-some x e)
not_end (c ∷ text) x e = refl

not_nil : (text : List ℕ) (x : ℕ × List ℕ) → expanded_at text ≡ Some x → 1 ≤ length text
unfolding expanded_at
not_nil [] x e = absurd (none-some x e)
not_nil (c ∷ text) x e = omega arith

pub longer : (v : Bool) (xs : List ℕ) → length xs ≤ length (flat_map (escaped_character v) xs)
longer v [] = omega arith
longer v (c ∷ xs) = omega (arith, longer v xs, length-append (escaped_character v c) (flat_map (escaped_character v) xs), not_nil (escaped_character v c ++ []) (c, []) (one v c []), length-append (escaped_character v c) [])

abbrev parts : ℕ → List ℕ → Option (List ℕ × List ℕ)
parts n text = many at_end expanded_at n text

abbrev more : ℕ → Found ℕ → Option (List ℕ × List ℕ)
more n part = part >>= λ first. parts n first.1 >>= λ others. Some (first.0 ∷ others.0, others.1)

abbrev turn : ℕ → Option (List ℕ) → Found ℕ → Option (List ℕ × List ℕ)
turn n ended part = choose ended (λ e. Some ([], e)) (more n part)

abbrev put : ℕ → Option (List ℕ × List ℕ) → Option (List ℕ × List ℕ)
put c others = others >>= λ o. Some (c ∷ o.0, o.1)

each : (v : Bool) (xs : List ℕ) (n : ℕ) → length xs < n → parts n (flat_map (escaped_character v) xs) ≡ Some (xs, [])
unfolding many
each v xs zero lt = absurd (omega arith)
each v [] (suc n) lt = refl
each v (c ∷ xs) (suc n) lt =
    let rest = flat_map (escaped_character v) xs in
    ap (λ o. turn n o (expanded_at (escaped_character v c ++ rest))) (not_end (escaped_character v c ++ rest) (c, rest) (one v c rest))
    ∙ ap (more n) (one v c rest)
    ∙ ap (put c) (each v xs n (omega arith))

abbrev listed : Option (List ℕ × List ℕ) → Option (List ℕ)
listed found = found >>= λ x. Some x.0

pub expanded_again : (v : Bool) (xs : List ℕ) → expanded_text (flat_map (escaped_character v) xs) ≡ Some xs
unfolding sequence
expanded_again v xs = ap listed (each v xs (suc (length (flat_map (escaped_character v) xs))) (omega (arith, longer v xs)))

-- ---- no `<` and no `>`

has : ℕ → List ℕ → Bool
has k text = list_any (λ c. c == k) text

chosen : (k : ℕ) (b : Bool) (first second : List ℕ) → has k first ≡ false → has k second ≡ false → has k (cond b first second) ≡ false
chosen k true first second f s = f
chosen k false first second f s = s

chosen_by : (k j c : ℕ) (first second : List ℕ) → has k first ≡ false → ((c == j) ≡ false → has k second ≡ false) → has k (cond (c == j) first second) ≡ false
chosen_by k j c first second f s = go (c == j) refl
  where
    go : (b : Bool) → (c == j) ≡ b → has k (cond b first second) ≡ false
    go true e = f
    go false e = s e

alone : (k c : ℕ) → (c == k) ≡ false → has k (c ∷ []) ≡ false
unfolding has
alone k c e = ap (λ b. b || false) e

amp_60 : has 60 (codes "&amp;") ≡ false
unfolding has
amp_60 = refl

lt_60 : has 60 (codes "&lt;") ≡ false
unfolding has
lt_60 = refl

gt_60 : has 60 (codes "&gt;") ≡ false
unfolding has
gt_60 = refl

return_60 : has 60 (codes "&#13;") ≡ false
unfolding has
return_60 = refl

quot_60 : has 60 (codes "&quot;") ≡ false
unfolding has
quot_60 = refl

tab_60 : has 60 (codes "&#9;") ≡ false
unfolding has
tab_60 = refl

line_60 : has 60 (codes "&#10;") ≡ false
unfolding has
line_60 = refl

amp_62 : has 62 (codes "&amp;") ≡ false
unfolding has
amp_62 = refl

lt_62 : has 62 (codes "&lt;") ≡ false
unfolding has
lt_62 = refl

gt_62 : has 62 (codes "&gt;") ≡ false
unfolding has
gt_62 = refl

return_62 : has 62 (codes "&#13;") ≡ false
unfolding has
return_62 = refl

quot_62 : has 62 (codes "&quot;") ≡ false
unfolding has
quot_62 = refl

tab_62 : has 62 (codes "&#9;") ≡ false
unfolding has
tab_62 = refl

line_62 : has 62 (codes "&#10;") ≡ false
unfolding has
line_62 = refl

no_less : (v : Bool) (c : ℕ) → has 60 (escaped_character v c) ≡ false
no_less v c =
    chosen 60 _ _ _ amp_60 (chosen_by 60 60 c _ _ lt_60 (λ e. chosen 60 _ _ _ gt_60 (chosen 60 _ _ _ return_60 (
    chosen 60 _ _ _ quot_60 (chosen 60 _ _ _ tab_60 (chosen 60 _ _ _ line_60 (alone 60 c e)))))))

no_greater : (v : Bool) (c : ℕ) → has 62 (escaped_character v c) ≡ false
no_greater v c =
    chosen 62 _ _ _ amp_62 (chosen 62 _ _ _ lt_62 (chosen_by 62 62 c _ _ gt_62 (λ e. chosen 62 _ _ _ return_62 (
    chosen 62 _ _ _ quot_62 (chosen 62 _ _ _ tab_62 (chosen 62 _ _ _ line_62 (alone 62 c e)))))))

neither : (a b : Bool) → a ≡ false → b ≡ false → (a || b) ≡ false
neither true b e f = e
neither false b e f = f

throughout : (k : ℕ) (v : Bool) → ((c : ℕ) → has k (escaped_character v c) ≡ false) → (xs : List ℕ) → has k (flat_map (escaped_character v) xs) ≡ false
unfolding has
throughout k v each [] = refl
throughout k v each (c ∷ xs) = list_any-append (λ x. x == k) (escaped_character v c) (flat_map (escaped_character v) xs) ∙ neither _ _ (each c) (throughout k v each xs)

pub no_tag : (v : Bool) (text : List ℕ) → list_any (λ c. c == 60) (flat_map (escaped_character v) text) ≡ false
unfolding has
no_tag v text = throughout 60 v (no_less v) text

-- ---- no `]]>` in a text

abbrev mark : List ℕ
mark = codes "]]>"

false_third : (a b d : Bool) (more : Bool) → d ≡ false → (a && (b && (d && more))) ≡ false
false_third true true d more e = ap (λ x. x && more) e
false_third true false d more e = refl
false_third false b d more e = refl

or_parts : (a b : Bool) → (a || b) ≡ false → (a ≡ false) × (b ≡ false)
or_parts true b e = absurd (false≢true (sym e))
or_parts false b e = (refl, e)

not_here : (text : List ℕ) → has 62 text ≡ false → starts_with nat_eq text mark ≡ false
unfolding has
not_here [] h = refl
not_here (a ∷ []) h = short (eqb 93 a)
  where
    short : (x : Bool) → (x && false) ≡ false
    short true = refl
    short false = refl
not_here (a ∷ b ∷ []) h = short (eqb 93 a) (eqb 93 b)
  where
    short : (x y : Bool) → (x && (y && false)) ≡ false
    short true true = refl
    short true false = refl
    short false y = refl
not_here (a ∷ b ∷ d ∷ text) h =
    let third = (or_parts _ _ (or_parts _ _ (or_parts (eqb a 62) _ h).1).1).0 in
    false_third (eqb 93 a) (eqb 93 b) (eqb 62 d) true (nat_eq_equiv.symm 62 d ∙ third)

later : (c : ℕ) (text : List ℕ) → has 62 (c ∷ text) ≡ false → has 62 text ≡ false
unfolding has
later c text h = (or_parts (eqb c 62) _ h).1

nowhere : (text : List ℕ) → has 62 text ≡ false → until mark text ≡ None
nowhere [] h = refl
nowhere (c ∷ text) h =
    ap (λ b. cond b (Some ([], drop (length mark) (c ∷ text))) (with_char c (until mark text))) (not_here (c ∷ text) h)
    ∙ ap (with_char c) (nowhere text (later c text h))

abbrev allowed : List ℕ → Option (List ℕ × List ℕ) → Option (List ℕ)
allowed raw end = when (is_none end) raw >>= expanded_text

-- what is written for a text is read as the text
pub text_again : (text : List ℕ) → content_of (flat_map (escaped_character false) text) ≡ Some text
unfolding content_of
text_again text =
    ap (allowed (flat_map (escaped_character false) text)) (nowhere (flat_map (escaped_character false) text) (throughout 62 false (no_greater false) text))
    ∙ expanded_again false text

-- ---- white space in values

IsKept : List ℕ → Type 0
IsKept raw = map as_blank raw ≡ raw

kept : (b : Bool) (first second : List ℕ) → IsKept first → IsKept second → IsKept (cond b first second)
kept true first second f s = f
kept false first second f s = s

kept_by : (j c : ℕ) (first second : List ℕ) → IsKept first → ((c == j) ≡ false → IsKept second) → IsKept (cond (c == j) first second)
kept_by j c first second f s = go (c == j) refl
  where
    go : (b : Bool) → (c == j) ≡ b → IsKept (cond b first second)
    go true e = f
    go false e = s e

white_of : (a b d e : Bool) (c : ℕ) → b ≡ false → d ≡ false → e ≡ false → cond (a || b || d || e) 32 c ≡ cond a 32 c
white_of true b d e c f g h = refl
white_of false true d e c f g h = absurd (false≢true (sym f))
white_of false false true e c f g h = absurd (false≢true (sym g))
white_of false false false true c f g h = absurd (false≢true (sym h))
white_of false false false false c f g h = refl

blank_is : (c : ℕ) → (c == 13) ≡ false → (c == 9) ≡ false → (c == 10) ≡ false → as_blank c ≡ c
blank_is c f g h = white_of (c == 32) (c == 9) (c == 13) (c == 10) c g f h ∙ go (c == 32) refl
  where
    go : (b : Bool) → (c == 32) ≡ b → cond b 32 c ≡ c
    go true e = sym (eqb-true c 32 e)
    go false e = refl

kept_plain : (c : ℕ) → (c == 13) ≡ false → (c == 9) ≡ false → (c == 10) ≡ false → IsKept (c ∷ [])
unfolding IsKept
kept_plain c f g h = ap (λ (x : ℕ). x ∷ []) (blank_is c f g h)

amp_kept : IsKept (codes "&amp;")
unfolding IsKept
amp_kept = refl

lt_kept : IsKept (codes "&lt;")
unfolding IsKept
lt_kept = refl

gt_kept : IsKept (codes "&gt;")
unfolding IsKept
gt_kept = refl

return_kept : IsKept (codes "&#13;")
unfolding IsKept
return_kept = refl

quot_kept : IsKept (codes "&quot;")
unfolding IsKept
quot_kept = refl

tab_kept : IsKept (codes "&#9;")
unfolding IsKept
tab_kept = refl

line_kept : IsKept (codes "&#10;")
unfolding IsKept
line_kept = refl

kept_one : (c : ℕ) → IsKept (escaped_character true c)
kept_one c =
    kept _ _ _ amp_kept (kept _ _ _ lt_kept (kept _ _ _ gt_kept (kept_by 13 c _ _ return_kept (λ f. kept _ _ _ quot_kept (
    kept_by 9 c _ _ tab_kept (λ g. kept_by 10 c _ _ line_kept (λ h. kept_plain c f g h)))))))

kept_all : (text : List ℕ) → map as_blank (flat_map (escaped_character true) text) ≡ flat_map (escaped_character true) text
unfolding IsKept
kept_all [] = refl
kept_all (c ∷ text) =
    map-append as_blank (escaped_character true c) (flat_map (escaped_character true) text)
    ∙ ap (λ (x : List ℕ). x ++ map as_blank (flat_map (escaped_character true) text)) (kept_one c)
    ∙ ap (λ (x : List ℕ). escaped_character true c ++ x) (kept_all text)

abbrev without_less : List ℕ → Bool → Option (List ℕ)
without_less raw less = when (not less) (map as_blank raw) >>= expanded_text

-- what is written for a value is read as the value
pub value_again : (text : List ℕ) → value_of (flat_map (escaped_character true) text) ≡ Some text
unfolding has
value_again text =
    ap (without_less (flat_map (escaped_character true) text)) (throughout 60 true (no_less true) text)
    ∙ ap expanded_text (kept_all text)
    ∙ expanded_again true text
