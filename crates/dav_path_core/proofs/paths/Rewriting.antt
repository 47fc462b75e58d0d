-- Rewriting as a stack does it, and that there is one answer.
use Rattle.std.proofs.Common.{◌≡◌, ℕ, ◌+◌, Bool, true, false, not, ◌&&◌, Option, Some, None, cond, List, [], ◌∷◌, ◌++◌, length, reverse, All, sym, refl, ap, ◌∙◌, subst, append_assoc, append-nil, arith}
use Rattle.std.specs.Prelude.{IsTrue, codes, count_by}
use Rattle.std.specs.Option.{option_and_then}
use Rattle.std.specs.List.{AllByRecursion}
use Rattle.std.proofs.lemmas.Slice.Eq.{bytes_eq-Decides}
use Rattle.std.proofs.lemmas.List.{reverse-append, reverse-reverse}
use Rattle.std.proofs.lemmas.List.Elements.{recursion_from_All, All-from_recursion}
use Rattle.std.proofs.lemmas.Bool.{false≢true, false_from_ne_true}
use Rattle.std.proofs.lemmas.List.Sums.{sum_by-cons}
use Rattle.dav_path_core.specs.PathReading.{is_idle, is_up, is_ordinary, IsDroppable, Drops, Rewrites, IsReduced}
use Rattle.dav_path_core.specs.PathReading.IsDroppable.{idle, pair}
use Rattle.dav_path_core.specs.PathReading.Rewrites.{none, more}

some_inj : (a b : List (List ℕ)) → Some a ≡ Some b → a ≡ b
some_inj a b h = cc

-- ---- rewriting at the front of more pieces

pub Drops-append : (xs ys tail : List (List ℕ)) → Drops xs ys → Drops (xs ++ tail) (ys ++ tail)
Drops-append xs ys tail d = record {
  front = d.front;
  gone = d.gone;
  back = d.back ++ tail;
  droppable = d.droppable;
  before = ap (λ l. l ++ tail) d.before ∙ append_assoc d.front (d.gone ++ d.back) tail ∙ ap (λ l. d.front ++ l) (append_assoc d.gone d.back tail);
  after = ap (λ l. l ++ tail) d.after ∙ append_assoc d.front d.back tail;
}

pub Rewrites-append : (xs ys tail : List (List ℕ)) → Rewrites xs ys → Rewrites (xs ++ tail) (ys ++ tail)
Rewrites-append xs ys tail (none _) = none _
Rewrites-append xs zs tail (more _ ys _ d r) = more _ _ _ (Drops-append xs ys tail d) (Rewrites-append ys zs tail r)

pub Rewrites-then : (xs ys zs : List (List ℕ)) → Rewrites xs ys → Drops ys zs → Rewrites xs zs
Rewrites-then xs ys zs (none _) d = more _ _ _ d (none _)
Rewrites-then xs ys zs (more _ ws _ e r) d = more _ _ _ e (Rewrites-then ws ys zs r d)

-- ---- what a stack does with the next piece

pub Rewrites-push : (xs kept : List (List ℕ)) (piece : List ℕ) → Rewrites xs kept → Rewrites (xs ++ piece ∷ []) (kept ++ piece ∷ [])
Rewrites-push xs kept piece r = Rewrites-append xs kept (piece ∷ []) r

pub Rewrites-idle : (xs kept : List (List ℕ)) (piece : List ℕ) → Rewrites xs kept → IsTrue (is_idle piece) → Rewrites (xs ++ piece ∷ []) kept
Rewrites-idle xs kept piece r h =
    Rewrites-then _ (kept ++ piece ∷ []) kept (Rewrites-push xs kept piece r)
    (record { front = kept; gone = piece ∷ []; back = []; droppable = idle piece h; before = refl; after = sym (append-nil kept) })

pub Rewrites-up : (xs kept : List (List ℕ)) (last up : List ℕ) → Rewrites xs (kept ++ last ∷ []) → IsTrue (is_ordinary last) → IsTrue (is_up up) → Rewrites (xs ++ up ∷ []) kept
Rewrites-up xs kept last up r h u =
    Rewrites-then _ ((kept ++ last ∷ []) ++ up ∷ []) kept (Rewrites-push xs (kept ++ last ∷ []) up r)
    (record { front = kept; gone = last ∷ up ∷ []; back = []; droppable = pair last up h u; before = append_assoc kept (last ∷ []) (up ∷ []); after = sym (append-nil kept) })

-- ---- the stack, the last piece first

abbrev pub step_by : Bool → Bool → List ℕ → List (List ℕ) → Option (List (List ℕ))
step_by true u piece stack = Some stack
step_by false true piece [] = None
step_by false true piece (top ∷ below) = Some below
step_by false false piece stack = Some (piece ∷ stack)

abbrev pub step : List ℕ → List (List ℕ) → Option (List (List ℕ))
step piece stack = step_by (is_idle piece) (is_up piece) piece stack

-- what the stack is in the end, or `None` where it ran empty at a `..`
abbrev pub run : List (List ℕ) → List (List ℕ) → Option (List (List ℕ))
run stack [] = Some stack
run stack (piece ∷ pieces) = option_and_then (λ s. run s pieces) (step piece stack)

step_by_idle : (i u : Bool) (piece : List ℕ) (stack : List (List ℕ)) → IsTrue i → step_by i u piece stack ≡ Some stack
step_by_idle true u piece stack h = refl
step_by_idle false u piece stack h = cc

step_by_ordinary : (i u : Bool) (piece : List ℕ) (stack : List (List ℕ)) → IsTrue (not i && not u) → step_by i u piece stack ≡ Some (piece ∷ stack)
step_by_ordinary true u piece stack h = cc
step_by_ordinary false true piece stack h = cc
step_by_ordinary false false piece stack h = refl

pub step-idle : (piece : List ℕ) (stack : List (List ℕ)) → IsTrue (is_idle piece) → step piece stack ≡ Some stack
step-idle piece stack h = step_by_idle (is_idle piece) (is_up piece) piece stack h

pub step-ordinary : (piece : List ℕ) (stack : List (List ℕ)) → IsTrue (is_ordinary piece) → step piece stack ≡ Some (piece ∷ stack)
step-ordinary piece stack h = step_by_ordinary (is_idle piece) (is_up piece) piece stack h

pub up_is : (up : List ℕ) → IsTrue (is_up up) → up ≡ codes ".."
up_is up h = (bytes_eq-Decides up (codes "..")).0 h

pub step-up : (up top : List ℕ) (below : List (List ℕ)) → IsTrue (is_up up) → step up (top ∷ below) ≡ Some below
step-up up top below h = rw (up_is up h) refl

pub step-up_empty : (up : List ℕ) → IsTrue (is_up up) → step up [] ≡ None
step-up_empty up h = rw (up_is up h) refl

-- ---- no rule changes what the stack is in the end

run-droppable : (stack gone back : List (List ℕ)) → IsDroppable gone → run stack (gone ++ back) ≡ run stack back
run-droppable stack _ back (idle piece h) = rw (step-idle piece stack h) refl
run-droppable stack _ back (pair piece up h u) = rw (step-ordinary piece stack h) (rw (step-up up piece stack u) refl)

run-front : (front : List (List ℕ)) (stack gone back : List (List ℕ)) → IsDroppable gone → run stack (front ++ (gone ++ back)) ≡ run stack (front ++ back)
run-front [] stack gone back h = run-droppable stack gone back h
run-front (piece ∷ front) stack gone back h =
    elim (step piece stack) as (λ o. option_and_then (λ s. run s (front ++ (gone ++ back))) o ≡ option_and_then (λ s. run s (front ++ back)) o)
    [ None ↦ refl | (Some s) ↦ run-front front s gone back h ]

pub run-Drops : (stack xs ys : List (List ℕ)) → Drops xs ys → run stack xs ≡ run stack ys
run-Drops stack xs ys d =
    ap (run stack) d.before ∙ run-front d.front stack d.gone d.back d.droppable ∙ sym (ap (run stack) d.after)

pub run-Rewrites : (stack xs ys : List (List ℕ)) → Rewrites xs ys → run stack xs ≡ run stack ys
run-Rewrites stack xs _ (none _) = refl
run-Rewrites stack xs zs (more _ ys _ d r) = run-Drops stack xs ys d ∙ run-Rewrites stack ys zs r

-- ---- ordinary pieces alone stay as they are

abbrev pub AllOrdinary : List (List ℕ) → Type 0
AllOrdinary xs = AllByRecursion (λ piece. IsTrue (is_ordinary piece)) xs

pub run-ordinary : (xs stack : List (List ℕ)) → AllOrdinary xs → run stack xs ≡ Some (reverse xs ++ stack)
run-ordinary [] stack h = refl
run-ordinary (x ∷ xs) stack h =
    rw (step-ordinary x stack h.0) (run-ordinary xs (x ∷ stack) h.1 ∙ ap Some (sym (ap (λ l. l ++ stack) (reverse-append (x ∷ []) xs) ∙ append_assoc (reverse xs) (x ∷ []) stack)))

ordinary_twice : (xs ys : List (List ℕ)) → reverse xs ++ [] ≡ reverse ys ++ [] → xs ≡ ys
ordinary_twice xs ys h =
    sym (reverse-reverse xs) ∙ ap reverse (sym (append-nil (reverse xs)) ∙ h ∙ append-nil (reverse ys)) ∙ reverse-reverse ys

-- one result of ordinary pieces alone
pub one_result : (pieces xs ys : List (List ℕ)) → Rewrites pieces xs → Rewrites pieces ys → AllOrdinary xs → AllOrdinary ys → xs ≡ ys
one_result pieces xs ys r q hx hy =
    ordinary_twice xs ys (some_inj _ _ (sym (run-ordinary xs [] hx) ∙ sym (run-Rewrites [] pieces xs r) ∙ run-Rewrites [] pieces ys q ∙ run-ordinary ys [] hy))

-- where the stack ran empty, there is no such result
pub no_result : (pieces xs : List (List ℕ)) → run [] pieces ≡ None → Rewrites pieces xs → AllOrdinary xs → ⊥
no_result pieces xs h r hx =
    let e : None ≡ Some (reverse xs ++ []) = sym h ∙ run-Rewrites [] pieces xs r ∙ run-ordinary xs [] hx in cc

-- ---- no rule applies and there is no `..`, exactly where all pieces are ordinary

ordinary_by : (i u : Bool) → (i ≡ true → ⊥) → (u ≡ true → ⊥) → IsTrue (not i && not u)
ordinary_by true u hi hu = absurd (hi refl)
ordinary_by false true hi hu = absurd (hu refl)
ordinary_by false false hi hu = refl

AllOrdinary-from_front : (xs front : List (List ℕ)) → IsReduced (front ++ xs) → AllByRecursion (λ piece. ¬ IsTrue (is_up piece)) xs → AllOrdinary xs
AllOrdinary-from_front [] front h u = tt
AllOrdinary-from_front (x ∷ xs) front h u = (
  ordinary_by (is_idle x) (is_up x)
      (λ e. h (front ++ xs) (record { front = front; gone = x ∷ []; back = xs; droppable = idle x e; before = refl; after = refl }))
      u.0,
  AllOrdinary-from_front xs (front ++ x ∷ []) (subst IsReduced (sym (append_assoc front (x ∷ []) xs)) h) u.1,
)

pub AllOrdinary-from_reduced : (xs : List (List ℕ)) → IsReduced xs → All (λ piece. ¬ IsTrue (is_up piece)) xs → AllOrdinary xs
AllOrdinary-from_reduced xs h u = AllOrdinary-from_front xs [] h (recursion_from_All _ xs u)

AllOrdinary-back : (xs ys : List (List ℕ)) → AllOrdinary (xs ++ ys) → AllOrdinary ys
AllOrdinary-back [] ys h = h
AllOrdinary-back (x ∷ xs) ys h = AllOrdinary-back xs ys h.1

pub not_idle : (i u : Bool) → i ≡ true → IsTrue (not i && not u) → ⊥
not_idle true u h k = cc
not_idle false u h k = cc

pub not_up : (i u : Bool) → u ≡ true → IsTrue (not i && not u) → ⊥
not_up true u h k = cc
not_up false true h k = cc
not_up false false h k = cc

droppable_not_ordinary : (gone back : List (List ℕ)) → IsDroppable gone → AllOrdinary (gone ++ back) → ⊥
droppable_not_ordinary _ back (idle piece h) all = not_idle (is_idle piece) (is_up piece) h all.0
droppable_not_ordinary _ back (pair piece up h u) all = not_up (is_idle up) (is_up up) u all.1.0

pub IsReduced-from_ordinary : (xs : List (List ℕ)) → AllOrdinary xs → IsReduced xs
IsReduced-from_ordinary xs h ys d =
    droppable_not_ordinary d.gone d.back d.droppable (AllOrdinary-back d.front (d.gone ++ d.back) (subst AllOrdinary d.before h))

no_ups : (xs : List (List ℕ)) → AllOrdinary xs → AllByRecursion (λ piece. ¬ IsTrue (is_up piece)) xs
no_ups [] h = tt
no_ups (x ∷ xs) h = (λ e. not_up (is_idle x) (is_up x) e h.0, no_ups xs h.1)

pub no_up_from_ordinary : (xs : List (List ℕ)) → AllOrdinary xs → All (λ piece. ¬ IsTrue (is_up piece)) xs
no_up_from_ordinary xs h = All-from_recursion _ xs (no_ups xs h)

-- ---- counts

counted_step : (i u : Bool) (piece : List ℕ) (stack out : List (List ℕ)) → step_by i u piece stack ≡ Some out → (i ≡ true → u ≡ false) → length out + cond u 1 0 ≡ length stack + cond (not i && not u) 1 0
counted_step true true piece stack out h k = absurd (false≢true (sym (k refl)))
counted_step true false piece stack out h k = ap (λ s. length s + 0) (sym (some_inj _ _ h))
counted_step false true piece [] out h k = cc
counted_step false true piece (top ∷ below) out h k = let e = some_inj below out h in rw (← e) (omega arith)
counted_step false false piece stack out h k = let e = some_inj (piece ∷ stack) out h in rw (← e) (omega arith)

pub idle_not_up : (piece : List ℕ) → is_idle piece ≡ true → is_up piece ≡ false
idle_not_up piece h = false_from_ne_true (is_up piece) (λ u. let e : is_idle (codes "..") ≡ true = subst (λ p. is_idle p ≡ true) (up_is piece u) h in cc)

pub count_by-cons : (p : List ℕ → Bool) (x : List ℕ) (xs : List (List ℕ)) → count_by p (x ∷ xs) ≡ cond (p x) 1 0 + count_by p xs
count_by-cons p x xs = sum_by-cons (λ y. cond (p y) 1 0) x xs

counted_along : (xs stack : List (List ℕ)) (x : List ℕ) (out : List (List ℕ)) (o : Option (List (List ℕ)))
    → ((s : List (List ℕ)) → run s xs ≡ Some out → length out + count_by is_up xs ≡ length s + count_by is_ordinary xs)
    → step x stack ≡ o → option_and_then (λ s. run s xs) o ≡ Some out → length out + count_by is_up (x ∷ xs) ≡ length stack + count_by is_ordinary (x ∷ xs)
counted_along xs stack x out None rest e k = cc
counted_along xs stack x out (Some s) rest e k = omega (arith, rest s k, counted_step (is_idle x) (is_up x) x stack s e (idle_not_up x), count_by-cons is_up x xs, count_by-cons is_ordinary x xs)

pub counted_run : (xs stack out : List (List ℕ)) → run stack xs ≡ Some out → length out + count_by is_up xs ≡ length stack + count_by is_ordinary xs
counted_run [] stack out h = ap (λ s. length s + 0) (sym (some_inj _ _ h))
counted_run (x ∷ xs) stack out h = counted_along xs stack x out (step x stack) (λ s k. counted_run xs s out k) refl h

run-append : (xs ys stack : List (List ℕ)) → run stack (xs ++ ys) ≡ option_and_then (λ s. run s ys) (run stack xs)
run-append [] ys stack = refl
run-append (x ∷ xs) ys stack =
    elim (step x stack) as (λ o. option_and_then (λ s. run s (xs ++ ys)) o ≡ option_and_then (λ s. run s ys) (option_and_then (λ s. run s xs) o))
    [ None ↦ refl | (Some s) ↦ run-append xs ys s ]

-- a `..` after as many `..` as ordinary pieces: the stack runs empty there
runs_empty_at : (o : Option (List (List ℕ))) (front back : List (List ℕ)) (up : List ℕ) → run [] front ≡ o → IsTrue (is_up up) → count_by is_up front ≡ count_by is_ordinary front → option_and_then (λ s. run s (up ∷ back)) o ≡ None
runs_empty_at None front back up e u h = refl
runs_empty_at (Some []) front back up e u h = rw (step-up_empty up u) refl
runs_empty_at (Some (s ∷ ss)) front back up e u h = absurd (omega (arith, counted_run front [] (s ∷ ss) e))

pub run_runs_empty : (front back : List (List ℕ)) (up : List ℕ) → IsTrue (is_up up) → count_by is_up front ≡ count_by is_ordinary front → run [] (front ++ up ∷ back) ≡ None
run_runs_empty front back up u h = run-append front (up ∷ back) [] ∙ runs_empty_at (run [] front) front back up refl u h
