-- Numbers of namespaces: equal exactly where the namespaces are, and as they are kept while bindings begin and end.
use Rattle.std.proofs.Common.{◌≡◌, refl, Ordering, sym, ap, subst, ◌∙◌, ℕ, zero, suc, ◌+◌, ◌<◌, ◌≤◌, ◌⊎◌, inl, inr, arith, Bool, true, false, not, ◌&&◌, ◌==◌, cond, ltb, List, [], ◌∷◌, ◌++◌, length, length-append, map, Option, None, Some}
use borrow.Author.Tests.{ltb-true, ltb-false}
use Rattle.std.specs.Prelude.{bytes_eq, encode_utf8_all, option_map, option_and_then, slice_get, unwrap_or, Result, Ok, Err, IfOk, IfErr}
use Rattle.std.specs.BTreeMap as tree
use Rattle.std.specs.BTreeMap.{is_at}
use Rattle.std.specs.Cmp.{eq_by_cmp_equiv}
use Rattle.std.specs.Cmp.Lexicographic.{slice_cmp, nat_list_cmp_total}
use Rattle.std.specs.Global.{Global}
use Rattle.std.specs.List.{list_any}
use Rattle.std.specs.Map.{lookup, KeepsOthers}
use Rattle.std.specs.Ordering.{nat_cmp, is_eq}
use Rattle.std.specs.Rc.{rc_str_bytes}
use Rattle.std.specs.declared.rc.RcStr.{RcStr}
use Rattle.std.proofs.lemmas.Bool.{false≢true}
use Rattle.std.proofs.lemmas.Bool.Decides.{same_from_decides, Decides-eqb}
use Rattle.std.proofs.lemmas.List.{map_push, length-map}
use Rattle.std.proofs.lemmas.Map.Text.{is_eq-slice_cmp}
use Rattle.std.proofs.lemmas.Option.{same_Some, slice_get-map, slice_get_within}
use Rattle.std.proofs.lemmas.Slice.Eq.{bytes_eq-Decides}
use Rattle.dav_xml_core.specs.declared.davxml.scope.Binding as code
use Rattle.dav_xml_core.specs.declared.davxml.errors.Fault.{Fault}
use Rattle.dav_xml_core.specs.declared.davxml.errors.Fault.TheVariants.{Memory}
use Rattle.dav_xml_core.specs.Documents.{Name}
use Rattle.dav_xml_core.specs.Gives.{Gives, Refuses}
use Rattle.dav_xml_core.specs.Markup.{RawAttribute}
use Rattle.dav_xml_core.specs.Names.{QName}
use Rattle.dav_xml_core.specs.Namespaces.{Binding, bound_namespace, attribute_name, prefixed_name, attribute_names, same_name, distinct_behind, are_distinct}
use Rattle.dav_xml_core.specs.Scanning.{is_nil}
use Rattle.dav_xml_core.specs.Scopes.{Numbers, namespace_number, number_at, numbered_name, same_key, distinct_keys, last_place}
use Rattle.dav_xml_core.specs.ScopeTrees.{binding_of, IsNumbered}
use Rattle.dav_xml_core.proofs.EachLemmas.{Each, each_append}
use Rattle.dav_xml_core.proofs.ElementLemmas.{bind_some}
use Rattle.dav_xml_core.proofs.ScopeLemmas.{namespace_at, bound-reads}

-- ---- the number of a namespace

pub number_most : (t : List ℕ) (bs : List Binding) → namespace_number t bs ≤ length bs
number_most t [] = omega arith
number_most t (b ∷ bs) = go (number_most t bs) (bytes_eq b.namespace t)
  where
    go : namespace_number t bs ≤ length bs → (same : Bool) → cond same 0 (suc (namespace_number t bs)) ≤ length (b ∷ bs)
    go h true = omega arith
    go h false = omega arith

-- one that is bound keeps it as bindings begin
pub number_stays : (t : List ℕ) (bs more : List Binding) → namespace_number t bs < length bs → namespace_number t (bs ++ more) ≡ namespace_number t bs
number_stays t [] more h = absurd (omega arith)
number_stays t (b ∷ bs) more h = go (number_stays t bs more) (bytes_eq b.namespace t) h
  where
    go : (namespace_number t bs < length bs → namespace_number t (bs ++ more) ≡ namespace_number t bs)
        → (same : Bool) → cond same 0 (suc (namespace_number t bs)) < length (b ∷ bs) → cond same 0 (suc (namespace_number t (bs ++ more))) ≡ cond same 0 (suc (namespace_number t bs))
    go rest true lt = refl
    go rest false lt = ap suc (rest (omega arith))

-- one that is not bound gets that of the next binding, where that is of it
pub number_new : (t : List ℕ) (bs : List Binding) (b : Binding) → namespace_number t bs ≡ length bs
    → namespace_number t (bs ++ b ∷ []) ≡ cond (bytes_eq b.namespace t) (length bs) (length bs + 1)
number_new t [] b h = refl
number_new t (x ∷ bs) b h = go (number_new t bs b) (bytes_eq x.namespace t) h
  where
    next : (same : Bool) → suc (cond same (length bs) (length bs + 1)) ≡ cond same (length (x ∷ bs)) (length (x ∷ bs) + 1)
    next true = omega arith
    next false = omega arith

    go : (namespace_number t bs ≡ length bs → namespace_number t (bs ++ b ∷ []) ≡ cond (bytes_eq b.namespace t) (length bs) (length bs + 1))
        → (same : Bool) → cond same 0 (suc (namespace_number t bs)) ≡ length (x ∷ bs)
        → cond same 0 (suc (namespace_number t (bs ++ b ∷ []))) ≡ cond (bytes_eq b.namespace t) (length (x ∷ bs)) (length (x ∷ bs) + 1)
    go rest true e = absurd (omega arith)
    go rest false e = ap suc (rest (omega arith)) ∙ next (bytes_eq b.namespace t)

-- the binding at the number is of the namespace
pub number_reads : (t : List ℕ) (bs : List Binding) → namespace_number t bs < length bs → namespace_at bs (namespace_number t bs) ≡ Some t
number_reads t [] h = absurd (omega arith)
number_reads t (b ∷ bs) h = go (number_reads t bs) (bytes_eq b.namespace t) refl h
  where
    some : List ℕ → Option (List ℕ)
    some x = Some x

    go : (namespace_number t bs < length bs → namespace_at bs (namespace_number t bs) ≡ Some t)
        → (same : Bool) → bytes_eq b.namespace t ≡ same → cond same 0 (suc (namespace_number t bs)) < length (b ∷ bs) → namespace_at (b ∷ bs) (cond same 0 (suc (namespace_number t bs))) ≡ Some t
    go rest true e lt = ap some ((bytes_eq-Decides b.namespace t).0 e)
    go rest false e lt = rest (omega arith)

-- and none before it is
pub number_before : (t : List ℕ) (bs : List Binding) (place : ℕ) → namespace_at bs place ≡ Some t → namespace_number t bs ≤ place
number_before t [] place e = absurd cc
number_before t (b ∷ bs) zero e =
    let same : b.namespace ≡ t = cc in
    let test : bytes_eq b.namespace t ≡ true = (bytes_eq-Decides b.namespace t).1 same in
    subst (λ s. cond s 0 (suc (namespace_number t bs)) ≤ 0) (sym test) (omega arith)
number_before t (b ∷ bs) (suc place) e = go (number_before t bs place e) (bytes_eq b.namespace t)
  where
    go : namespace_number t bs ≤ place → (same : Bool) → cond same 0 (suc (namespace_number t bs)) ≤ suc place
    go h true = omega arith
    go h false = omega arith

-- a binding's own number is that before it
number_own : (bs : List Binding) (b : Binding) → namespace_number b.namespace (bs ++ b ∷ []) ≡ namespace_number b.namespace bs
number_own [] b = ap (λ s. cond s 0 1) ((bytes_eq-Decides b.namespace b.namespace).1 refl)
number_own (x ∷ bs) b = ap (λ n. cond (bytes_eq x.namespace b.namespace) 0 (suc n)) (number_own bs b)

-- ---- equal exactly where the namespaces are

-- one that is bound, or none
abbrev pub Known : List Binding → List ℕ → Type 0
Known bs t = (namespace_number t bs < length bs) ⊎ (t ≡ [])

same_bound : (bs : List Binding) (a b : List ℕ) → namespace_number a bs < length bs → namespace_number a bs ≡ namespace_number b bs → a ≡ b
same_bound bs a b h e =
    let left : namespace_at bs (namespace_number a bs) ≡ Some a = number_reads a bs h in
    let right : namespace_at bs (namespace_number b bs) ≡ Some b = number_reads b bs (omega arith) in
    let moved : namespace_at bs (namespace_number a bs) ≡ namespace_at bs (namespace_number b bs) = ap (namespace_at bs) e in
    cc

same_number : (bs : List Binding) (a b : List ℕ) → Known bs a → Known bs b → namespace_number a bs ≡ namespace_number b bs → a ≡ b
same_number bs a b (inl h) k e = same_bound bs a b h e
same_number bs a b (inr h) (inl k) e = sym (same_bound bs b a k (sym e))
same_number bs a b (inr h) (inr k) e = h ∙ sym k

numbers_eq : (bs : List Binding) (a b : List ℕ) → Known bs a → Known bs b → (namespace_number a bs == namespace_number b bs) ≡ bytes_eq a b
numbers_eq bs a b h k =
    let d = Decides-eqb (namespace_number a bs) (namespace_number b bs) in
    same_from_decides {P = a ≡ b} _ _ (λ e. same_number bs a b h k (d.0 e), λ e. d.1 (ap (λ (t : List ℕ). namespace_number t bs) e)) (bytes_eq-Decides a b)

abbrev pub KnownName : List Binding → Name → Type 0
KnownName bs name = Known bs name.namespace

any_same : (bs : List Binding) (name : Name) (seen : List Name) → KnownName bs name → Each (KnownName bs) seen
    → list_any (same_key (numbered_name bs name)) (map (numbered_name bs) seen) ≡ list_any (same_name name) seen
any_same bs name [] h k = refl
any_same bs name (x ∷ seen) h k =
    let here : same_key (numbered_name bs name) (numbered_name bs x) ≡ same_name name x = ap (λ b. b && bytes_eq name.local x.local) (numbers_eq bs name.namespace x.namespace h k.0) in
    let rest = any_same bs name seen h k.1 in
    cc

pub distinct_same : (bs : List Binding) (seen names : List Name) → Each (KnownName bs) seen → Each (KnownName bs) names
    → distinct_keys (map (numbered_name bs) seen) (map (numbered_name bs) names) ≡ distinct_behind seen names
distinct_same bs seen [] h k = refl
distinct_same bs seen (name ∷ names) h k =
    ap (λ b. not b && distinct_keys (map (numbered_name bs) seen ++ numbered_name bs name ∷ []) (map (numbered_name bs) names)) (any_same bs name seen k.0 h)
    ∙ ap (λ (xs : List (ℕ × List ℕ)). not (list_any (same_name name) seen) && distinct_keys xs (map (numbered_name bs) names)) (sym (map_push (numbered_name bs) seen name))
    ∙ ap (λ b. not (list_any (same_name name) seen) && b) (distinct_same bs (seen ++ name ∷ []) names (each_append (KnownName bs) seen (name ∷ []) h (k.0, tt)) k.1)

known_bound : (bs : List Binding) (prefix t : List ℕ) → bound_namespace prefix bs ≡ Some t → Known bs t
known_bound bs prefix t e = go (last_place prefix bs) (sym (bound-reads prefix bs) ∙ e)
  where
    go : (o : Option ℕ) → option_and_then (namespace_at bs) o ≡ Some t → Known bs t
    go None f = absurd cc
    go (Some place) f = inl (within (slice_get bs place) refl)
      where
        within : (o : Option Binding) → slice_get bs place ≡ o → namespace_number t bs < length bs
        within None g = absurd (nothing (sym (ap (option_map (λ (b : Binding). b.namespace)) g) ∙ f))
          where
            nothing : option_map (λ (b : Binding). b.namespace) None ≡ Some t → ⊥
            nothing x = cc
        within (Some b) g =
            let lt : place < length bs = slice_get_within bs place b g in
            let le : namespace_number t bs ≤ place = number_before t bs place f in
            omega arith

known_name : (bs : List Binding) (name : QName) (n : Name) → attribute_name bs name ≡ Some n → KnownName bs n
unfolding attribute_name prefixed_name
known_name bs name n e = go (is_nil name.prefix) e
  where
    go : (b : Bool) → cond b (Some (record { namespace = []; local = encode_utf8_all name.local })) (prefixed_name bs name) ≡ Some n → KnownName bs n
    go true f = inr (sym (ap (λ (x : Name). x.namespace) (same_Some _ n f)))
    go false f =
        let a = bind_some (bound_namespace name.prefix bs) _ n f in
        subst (KnownName bs) (same_Some _ n a.2) (known_bound bs name.prefix a.0 a.1)

known_names : (bs : List Binding) (raws : List RawAttribute) (names : List Name) → attribute_names bs raws ≡ Some names → Each (KnownName bs) names
known_names bs [] names e = subst (Each (KnownName bs)) (same_Some [] names e) tt
known_names bs (raw ∷ raws) names e =
    let a = bind_some (attribute_name bs raw.name) _ names e in
    let b = bind_some (attribute_names bs raws) _ names a.2 in
    subst (Each (KnownName bs)) (same_Some (a.0 ∷ b.0) names b.2) (known_name bs raw.name a.0 a.1, known_names bs raws b.0 b.1)

pub keys_distinct : (bs : List Binding) (raws : List RawAttribute)
    → option_map (distinct_keys []) (option_map (map (numbered_name bs)) (attribute_names bs raws)) ≡ option_map are_distinct (attribute_names bs raws)
unfolding are_distinct
keys_distinct bs raws = go (attribute_names bs raws) refl
  where
    some : Bool → Option Bool
    some x = Some x

    go : (o : Option (List Name)) → attribute_names bs raws ≡ o → option_map (distinct_keys []) (option_map (map (numbered_name bs)) o) ≡ option_map are_distinct o
    go None e = refl
    go (Some names) e = ap some (distinct_same bs [] names tt (known_names bs raws names e))

pub answered : (r : Result Bool Fault) (keys : List (ℕ × List ℕ)) (expected : Option Bool) → expected ≡ Some (distinct_keys [] keys)
    → IfOk r (λ x. x ≡ distinct_keys [] keys) → IfErr r (λ e. e ≡ Memory) → Gives (λ x. x) r expected
answered (Ok x) keys expected e h k = e ∙ ap some (sym h)
  where
    some : Bool → Option Bool
    some x = Some x
answered (Err f) keys expected e h k = subst (λ (f : Fault). Refuses f expected) (sym k) tt

-- ---- as they are kept

abbrev namespace_of : code.Binding → List ℕ
namespace_of b = rc_str_bytes b.namespace

abbrev number_in : List ℕ → List code.Binding → ℕ
number_in t bindings = namespace_number t (map binding_of bindings)

abbrev key_cmp : RcStr Global → RcStr Global → Ordering
key_cmp x y = slice_cmp nat_cmp (rc_str_bytes x) (rc_str_bytes y)

apart_from : (a b x : List ℕ) → bytes_eq a b ≡ false → is_eq (slice_cmp nat_cmp a x) ≡ true → is_eq (slice_cmp nat_cmp b x) ≡ false
apart_from a b x e f = go (is_eq (slice_cmp nat_cmp b x)) refl
  where
    go : (same : Bool) → is_eq (slice_cmp nat_cmp b x) ≡ same → same ≡ false
    go false g = refl
    go true g =
        let left : a ≡ x = (bytes_eq-Decides a x).0 (sym (is_eq-slice_cmp a x) ∙ f) in
        let right : b ≡ x = (bytes_eq-Decides b x).0 (sym (is_eq-slice_cmp b x) ∙ g) in
        absurd (false≢true (sym e ∙ (bytes_eq-Decides a b).1 (left ∙ sym right)))

-- what a change at a namespace leaves at another
at_others : (key : RcStr Global) (old new : Numbers) (number : Option ℕ) → tree.UpdatesBy key_cmp (key_cmp key) old new number
    → (t : List ℕ) → bytes_eq (rc_str_bytes key) t ≡ false → number_at new t ≡ number_at old t
unfolding KeepsOthers
at_others key old new number h t e =
    h.3 (is_at (λ (k : RcStr Global). slice_cmp nat_cmp t (rc_str_bytes k)))
    (λ x y. (eq_by_cmp_equiv nat_list_cmp_total).congr t (rc_str_bytes x) (rc_str_bytes y))
    (λ k. apart_from (rc_str_bytes key) t (rc_str_bytes k) e)

pub numbered_none : (numbers : Numbers) → IsNumbered [] numbers
numbered_none numbers = record { each = λ place b e. absurd cc; tree = λ t h. absurd (omega arith) }

-- the number that a namespace has may be put into the tree
pub numbered_put : (bindings : List code.Binding) (key : RcStr Global) (old new : Numbers) (number : ℕ) → IsNumbered bindings old
    → number ≡ number_in (rc_str_bytes key) bindings → tree.UpdatesBy key_cmp (key_cmp key) old new (Some number) → IsNumbered bindings new
numbered_put bindings key old new number h is updates = record { each = h.each; tree = λ t lt. go t lt (bytes_eq (rc_str_bytes key) t) refl }
  where
    some : ℕ → Option ℕ
    some x = Some x

    go : (t : List ℕ) → number_in t bindings < length bindings → (same : Bool) → bytes_eq (rc_str_bytes key) t ≡ same → number_at new t ≡ Some (number_in t bindings)
    go t lt true e =
        subst (λ (x : List ℕ). number_at new x ≡ Some (number_in x bindings)) ((bytes_eq-Decides (rc_str_bytes key) t).0 e) (updates.1 ∙ ap some is)
    go t lt false e = at_others key old new (Some number) updates t e ∙ h.tree t lt

-- a place of a list with one more
place_push : (bindings : List code.Binding) (b x : code.Binding) (place : ℕ) → slice_get (bindings ++ b ∷ []) place ≡ Some x → (slice_get bindings place ≡ Some x) ⊎ (x ≡ b)
place_push [] b x zero e = inr cc
place_push [] b x (suc place) e = absurd cc
place_push (y ∷ bindings) b x zero e = inl e
place_push (y ∷ bindings) b x (suc place) e = place_push bindings b x place e

place_pop : (bindings : List code.Binding) (b x : code.Binding) (place : ℕ) → slice_get bindings place ≡ Some x → slice_get (bindings ++ b ∷ []) place ≡ Some x
place_pop [] b x place e = absurd cc
place_pop (y ∷ bindings) b x zero e = e
place_pop (y ∷ bindings) b x (suc place) e = place_pop bindings b x place e

-- what a place reads is bound
pub number_read : (bindings : List code.Binding) (b : code.Binding) (place : ℕ) → slice_get bindings place ≡ Some b → number_in (namespace_of b) bindings < length bindings
number_read bindings b place e =
    let there : namespace_at (map binding_of bindings) place ≡ Some (namespace_of b) =
    ap (option_map (λ (x : Binding). x.namespace)) (slice_get-map binding_of bindings place ∙ ap (option_map binding_of) e) in
    omega (arith, number_before (namespace_of b) (map binding_of bindings) place there, slice_get_within bindings place b e)

-- bound, or not
number_cases : (t : List ℕ) (bindings : List code.Binding) → (number_in t bindings < length bindings) ⊎ (number_in t bindings ≡ length bindings)
number_cases t bindings = go (rw length-map at (number_most t (map binding_of bindings))) (ltb (number_in t bindings) (length bindings)) refl
  where
    go : number_in t bindings ≤ length bindings → (b : Bool) → ltb (number_in t bindings) (length bindings) ≡ b → (number_in t bindings < length bindings) ⊎ (number_in t bindings ≡ length bindings)
    go most true e = inl (ltb-true _ _ e)
    go most false e = let past : length bindings ≤ number_in t bindings = ltb-false _ _ e in inr (omega arith)

-- what the tree says of a namespace counts where the binding there is of it
pub number_found : (bindings : List code.Binding) (numbers : Numbers) → IsNumbered bindings numbers → (t : List ℕ) (place : ℕ) (b : code.Binding)
    → place ≡ unwrap_or (number_at numbers t) (length bindings) → slice_get bindings place ≡ Some b → namespace_of b ≡ t → place ≡ number_in t bindings
number_found bindings numbers h t place b is read same =
    let lt : number_in t bindings < length bindings = subst (λ (x : List ℕ). number_in x bindings < length bindings) same (number_read bindings b place read) in
    is ∙ ap (λ (o : Option ℕ). unwrap_or o (length bindings)) (h.tree t lt)

pub number_other : (bindings : List code.Binding) (numbers : Numbers) → IsNumbered bindings numbers → (t : List ℕ) (place : ℕ)
    → place ≡ unwrap_or (number_at numbers t) (length bindings) → ((b : code.Binding) → slice_get bindings place ≡ Some b → namespace_of b ≡ t → ⊥)
    → length bindings ≡ number_in t bindings
number_other bindings numbers h t place is other = go (number_cases t bindings)
  where
    go : (number_in t bindings < length bindings) ⊎ (number_in t bindings ≡ length bindings) → length bindings ≡ number_in t bindings
    go (inr e) = sym e
    go (inl lt) = absurd (at_place (slice_get bindings place) refl)
      where
        here : place ≡ number_in t bindings
        here = is ∙ ap (λ (o : Option ℕ). unwrap_or o (length bindings)) (h.tree t lt)

        reads : namespace_at (map binding_of bindings) (number_in t bindings) ≡ Some t
        reads = number_reads t (map binding_of bindings) (rw length-map lt)

        at_place : (o : Option code.Binding) → slice_get bindings place ≡ o → ⊥
        at_place None e =
            let there = reads in
            let none : namespace_at (map binding_of bindings) place ≡ None =
            ap (option_map (λ (x : Binding). x.namespace)) (slice_get-map binding_of bindings place ∙ ap (option_map binding_of) e) in
            let moved : namespace_at (map binding_of bindings) place ≡ namespace_at (map binding_of bindings) (number_in t bindings) = ap (namespace_at (map binding_of bindings)) here in
            cc
        at_place (Some b) e =
            let there : namespace_at (map binding_of bindings) place ≡ Some (namespace_of b) =
            ap (option_map (λ (x : Binding). x.namespace)) (slice_get-map binding_of bindings place ∙ ap (option_map binding_of) e) in
            let moved : namespace_at (map binding_of bindings) place ≡ namespace_at (map binding_of bindings) (number_in t bindings) = ap (namespace_at (map binding_of bindings)) here in
            let bound_namespace = reads in
            let same : namespace_of b ≡ t = cc in
            other b e same

push_is : (t : List ℕ) (bindings : List code.Binding) (b : code.Binding) → number_in t (bindings ++ b ∷ []) ≡ namespace_number t (map binding_of bindings ++ binding_of b ∷ [])
push_is t bindings b = ap (namespace_number t) (map_push binding_of bindings b)

push_stays : (t : List ℕ) (bindings : List code.Binding) (b : code.Binding) → number_in t bindings < length bindings → number_in t (bindings ++ b ∷ []) ≡ number_in t bindings
push_stays t bindings b h = push_is t bindings b ∙ number_stays t (map binding_of bindings) (binding_of b ∷ []) (rw length-map h)

pub numbered_push : (bindings : List code.Binding) (b : code.Binding) (numbers : Numbers) → IsNumbered bindings numbers → b.number ≡ number_in (namespace_of b) bindings
    → number_at numbers (namespace_of b) ≡ Some b.number → IsNumbered (bindings ++ b ∷ []) numbers
numbered_push bindings b numbers h own put = record {
  each = λ place x e. one x place (place_push bindings b x place e);
  tree = λ t lt. known t lt (number_cases t bindings);
}
  where
    some : ℕ → Option ℕ
    some x = Some x

    known : (t : List ℕ) → number_in t (bindings ++ b ∷ []) < length (bindings ++ b ∷ []) → (number_in t bindings < length bindings) ⊎ (number_in t bindings ≡ length bindings)
        → number_at numbers t ≡ Some (number_in t (bindings ++ b ∷ []))
    known t lt (inl less) = h.tree t less ∙ ap some (sym (push_stays t bindings b less))
    known t lt (inr e) = go (bytes_eq (namespace_of b) t) refl
      where
        new : number_in t (bindings ++ b ∷ []) ≡ cond (bytes_eq (namespace_of b) t) (length (map binding_of bindings)) (length (map binding_of bindings) + 1)
        new = push_is t bindings b ∙ number_new t (map binding_of bindings) (binding_of b) (rw length-map e)

        go : (same : Bool) → bytes_eq (namespace_of b) t ≡ same → number_at numbers t ≡ Some (number_in t (bindings ++ b ∷ []))
        go true f =
            let is : namespace_of b ≡ t = (bytes_eq-Decides (namespace_of b) t).0 f in
            let last : b.number ≡ length bindings = own ∙ ap (λ x. number_in x bindings) is ∙ e in
            let there : number_in t (bindings ++ b ∷ []) ≡ length (map binding_of bindings) = new ∙ ap (λ s. cond s (length (map binding_of bindings)) (length (map binding_of bindings) + 1)) f in
            subst (λ x. number_at numbers x ≡ Some b.number) is put ∙ ap some (last ∙ sym (length-map bindings binding_of) ∙ sym there)
        go false f =
            let past : number_in t (bindings ++ b ∷ []) ≡ length (map binding_of bindings) + 1 = new ∙ ap (λ s. cond s (length (map binding_of bindings)) (length (map binding_of bindings) + 1)) f in
            absurd (omega (arith, length-map bindings binding_of, length-append bindings (b ∷ [])))

    one : (x : code.Binding) (place : ℕ) → (slice_get bindings place ≡ Some x) ⊎ (x ≡ b) → x.number ≡ number_in (namespace_of x) (bindings ++ b ∷ [])
    one x place (inl e) = h.each place x e ∙ sym (push_stays (namespace_of x) bindings b (number_read bindings x place e))
    one x place (inr e) = subst (λ (y : code.Binding). y.number ≡ number_in (namespace_of y) (bindings ++ b ∷ [])) (sym e)
        (own ∙ sym (number_own (map binding_of bindings) (binding_of b)) ∙ sym (push_is (namespace_of b) bindings b))

pub numbered_pop : (bindings : List code.Binding) (b : code.Binding) (numbers : Numbers) → IsNumbered (bindings ++ b ∷ []) numbers → IsNumbered bindings numbers
numbered_pop bindings b numbers h = record {
  each = λ place x e. h.each place x (place_pop bindings b x place e) ∙ push_stays (namespace_of x) bindings b (number_read bindings x place e);
  tree = λ t lt.
      let same : number_in t (bindings ++ b ∷ []) ≡ number_in t bindings = push_stays t bindings b lt in
      h.tree t (rw (same, length-append) (omega arith)) ∙ ap some same;
}
  where
    some : ℕ → Option ℕ
    some x = Some x
