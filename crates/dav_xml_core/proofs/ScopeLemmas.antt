-- A scope's tree, as bindings begin and end.
use Rattle.std.proofs.Common.{◌≡◌, refl, sym, ap, subst, ◌∙◌, ℕ, suc, ◌+◌, ◌<◌, arith, add-zero, add-one, append-nil, length-drop, drop-cons, get_or, Bor, Ordering, Bool, true, false, cond, List, [], ◌∷◌, ◌++◌, length, map, drop, Option, None, Some, append_assoc}
use Rattle.std.specs.Prelude.{bytes_eq, option_map, option_and_then, slice_get, IsSome, is_some, Result, Ok, Err, OnOk, OnErr}
use Rattle.std.specs.BTreeMap as tree
use Rattle.std.specs.BTreeMap.{is_at}
use Rattle.std.specs.Map.{lookup}
use Rattle.std.specs.Rc.{rc_str_bytes}
use Rattle.std.specs.Cmp.Lexicographic.{slice_cmp}
use Rattle.std.specs.Ordering.{nat_cmp}
use Rattle.std.proofs.lemmas.Bool.{false≢true}
use Rattle.std.proofs.lemmas.List.{map_push, length-map}
use Rattle.std.proofs.lemmas.Option.{slice_get-get_or, slice_get-map}
use Rattle.std.proofs.lemmas.Map.Text.{btree_map_updates_str}
use Rattle.std.proofs.lemmas.Slice.Eq.{bytes_eq-Decides}
use Rattle.dav_xml_core.specs.declared.davxml.scope.Binding as code
use Rattle.dav_xml_core.specs.Namespaces.{Binding, bound_from, bound_namespace}
use Rattle.dav_xml_core.specs.Scopes.{Places, last_from, last_place, place_at, PutsPlace}
use Rattle.dav_xml_core.specs.ScopeTrees.{binding_of, CoverEach, IsFound}

-- ---- the last place of a prefix

last_from-push : (prefix : List ℕ) (at : ℕ) (found : Option ℕ) (bindings : List Binding) (b : Binding)
    → last_from prefix at found (bindings ++ b ∷ []) ≡ cond (bytes_eq b.prefix prefix) (Some (at + length bindings)) (last_from prefix at found bindings)
last_from-push prefix at found [] b = ap (λ n. cond (bytes_eq b.prefix prefix) (Some n) found) (sym (add-zero at))
last_from-push prefix at found (x ∷ bindings) b =
    let before = cond (bytes_eq x.prefix prefix) (Some at) found in
    let e : at + 1 + length bindings ≡ at + length (x ∷ bindings) = omega arith in
    last_from-push prefix (at + 1) before bindings b ∙ ap (λ n. cond (bytes_eq b.prefix prefix) (Some n) (last_from prefix (at + 1) before bindings)) e

pub last_place-push : (prefix : List ℕ) (bindings : List Binding) (b : Binding)
    → last_place prefix (bindings ++ b ∷ []) ≡ cond (bytes_eq b.prefix prefix) (Some (length bindings)) (last_place prefix bindings)
unfolding last_place
last_place-push prefix bindings b =
    last_from-push prefix 0 None bindings b ∙ ap (λ n. cond (bytes_eq b.prefix prefix) (Some n) (last_from prefix 0 None bindings)) (omega arith)

-- ---- what is bound, by its place

abbrev pub namespace_at : List Binding → ℕ → Option (List ℕ)
namespace_at all i = option_map (λ b. b.namespace) (slice_get all i)

slice_get-drop : (all bindings : List Binding) (at : ℕ) (b : Binding) → drop at all ≡ b ∷ bindings → slice_get all at ≡ Some b
slice_get-drop all bindings at b e =
    let within : at < length all = omega (arith, length-drop at all, ap length e) in
    let cell : get_or all at b ∷ drop (suc at) all ≡ b ∷ bindings = sym (drop-cons all at b within) ∙ e in
    let here : get_or all at b ≡ b = cc in
    slice_get-get_or all at b within ∙ ap some here
  where
    some : Binding → Option Binding
    some x = Some x

drop-drop : (all bindings : List Binding) (at : ℕ) (b : Binding) → drop at all ≡ b ∷ bindings → drop (at + 1) all ≡ bindings
drop-drop all bindings at b e =
    let within : at < length all = omega (arith, length-drop at all, ap length e) in
    let cell : get_or all at b ∷ drop (suc at) all ≡ b ∷ bindings = sym (drop-cons all at b within) ∙ e in
    let rest : drop (suc at) all ≡ bindings = cc in
    rw add-one rest

bound_from-reads : (prefix : List ℕ) (all bindings : List Binding) (at : ℕ) (found : Option ℕ) → drop at all ≡ bindings
    → bound_from prefix (option_and_then (namespace_at all) found) bindings ≡ option_and_then (namespace_at all) (last_from prefix at found bindings)
bound_from-reads prefix all [] at found e = refl
bound_from-reads prefix all (b ∷ bindings) at found e =
    go (λ before. bound_from-reads prefix all bindings (at + 1) before (drop-drop all bindings at b e)) (bytes_eq b.prefix prefix)
  where
    here : namespace_at all at ≡ Some b.namespace
    here = ap (option_map (λ (x : Binding). x.namespace)) (slice_get-drop all bindings at b e)

    go : ((before : Option ℕ) → bound_from prefix (option_and_then (namespace_at all) before) bindings ≡ option_and_then (namespace_at all) (last_from prefix (at + 1) before bindings))
        → (same : Bool) → bound_from prefix (cond same (Some b.namespace) (option_and_then (namespace_at all) found)) bindings
        ≡ option_and_then (namespace_at all) (last_from prefix (at + 1) (cond same (Some at) found) bindings)
    go rest true = ap (λ o. bound_from prefix o bindings) (sym here) ∙ rest (Some at)
    go rest false = rest found

pub bound-reads : (prefix : List ℕ) (all : List Binding) → bound_namespace prefix all ≡ option_and_then (namespace_at all) (last_place prefix all)
unfolding bound_namespace last_place
bound-reads prefix all = bound_from-reads prefix all all 0 None refl

pub found_bound : (bindings : List code.Binding) (innermost : Places) → IsFound bindings innermost → (prefix : List ℕ)
    → bound_namespace prefix (map binding_of bindings) ≡ option_and_then (λ i. option_map (λ b. rc_str_bytes b.namespace) (slice_get bindings i)) (place_at innermost prefix)
found_bound bindings innermost h prefix =
    bound-reads prefix (map binding_of bindings)
    ∙ go (last_place prefix (map binding_of bindings))
    ∙ ap (option_and_then (λ i. option_map (λ b. rc_str_bytes b.namespace) (slice_get bindings i))) (sym (h.places prefix))
  where
    joined : (o : Option code.Binding) → option_map (λ (b : Binding). b.namespace) (option_map binding_of o) ≡ option_map (λ b. rc_str_bytes b.namespace) o
    joined None = refl
    joined (Some b) = refl

    go : (o : Option ℕ) → option_and_then (namespace_at (map binding_of bindings)) o ≡ option_and_then (λ i. option_map (λ b. rc_str_bytes b.namespace) (slice_get bindings i)) o
    go None = refl
    go (Some i) = ap (option_map (λ (b : Binding). b.namespace)) (slice_get-map binding_of bindings i) ∙ joined (slice_get bindings i)

-- ---- what each binding covers

cover_push : (before : List Binding) (bindings : List code.Binding) (b : code.Binding) → CoverEach before bindings
    → b.covered ≡ last_place b.prefix.now (before ++ map binding_of bindings) → CoverEach before (bindings ++ b ∷ [])
cover_push before [] b h e = (e ∙ ap (last_place b.prefix.now) (append-nil before), tt)
cover_push before (x ∷ bindings) b h e =
    (h.0, cover_push (before ++ binding_of x ∷ []) bindings b h.1 (e ∙ ap (last_place b.prefix.now) (sym (append_assoc before (binding_of x ∷ []) (map binding_of bindings)))))

cover_pop : (before : List Binding) (bindings : List code.Binding) (b : code.Binding) → CoverEach before (bindings ++ b ∷ [])
    → CoverEach before bindings × (b.covered ≡ last_place b.prefix.now (before ++ map binding_of bindings))
cover_pop before [] b h = (tt, h.0 ∙ ap (last_place b.prefix.now) (sym (append-nil before)))
cover_pop before (x ∷ bindings) b h =
    let rest = cover_pop (before ++ binding_of x ∷ []) bindings b h.1 in
    ((h.0, rest.0), rest.1 ∙ ap (last_place b.prefix.now) (append_assoc before (binding_of x ∷ []) (map binding_of bindings)))

-- ---- a binding begins, and ends

abbrev key_cmp : Bor (List ℕ) → Bor (List ℕ) → Ordering
key_cmp x y = slice_cmp nat_cmp x.now y.now

pub puts_from : (prefix : List ℕ) (old new : Places) (place : Option ℕ)
    → tree.UpdatesBy key_cmp (λ k. slice_cmp nat_cmp prefix k.now) old new place → PutsPlace old new prefix place
puts_from prefix old new place h = btree_map_updates_str prefix old new place h

pub found_none : (tree : Places) → tree.entries ≡ [] → IsFound [] tree
unfolding last_place
found_none tree e = record { places = λ prefix. ap (lookup (is_at (λ (k : Bor (List ℕ)). slice_cmp nat_cmp prefix k.now))) e; covers = tt }

pub found_unchanged : (bindings : List code.Binding) (old new : Places) → new.entries ≡ old.entries → IsFound bindings old → IsFound bindings new
found_unchanged bindings old new e h = record {
  places = λ prefix. ap (lookup (is_at (λ (k : Bor (List ℕ)). slice_cmp nat_cmp prefix k.now))) e ∙ h.places prefix;
  covers = h.covers;
}

pub found_push : (bindings : List code.Binding) (b : code.Binding) (old new : Places) → IsFound bindings old → b.covered ≡ place_at old b.prefix.now
    → PutsPlace old new b.prefix.now (Some (length bindings)) → IsFound (bindings ++ b ∷ []) new
found_push bindings b old new h covered puts = record {
  places = λ prefix.
      puts prefix
      ∙ ap (cond (bytes_eq b.prefix.now prefix) (Some (length bindings))) (h.places prefix)
      ∙ ap (λ n. cond (bytes_eq b.prefix.now prefix) (Some n) (last_place prefix (map binding_of bindings))) (sym (length-map bindings binding_of))
      ∙ sym (last_place-push prefix (map binding_of bindings) (binding_of b))
      ∙ ap (last_place prefix) (sym (map_push binding_of bindings b));
  covers = cover_push [] bindings b h.covers (covered ∙ h.places b.prefix.now);
}

last_is : (bindings : List code.Binding) (b : code.Binding) (tree : Places) → IsFound (bindings ++ b ∷ []) tree → (prefix : List ℕ)
    → place_at tree prefix ≡ cond (bytes_eq b.prefix.now prefix) (Some (length (map binding_of bindings))) (last_place prefix (map binding_of bindings))
last_is bindings b tree h prefix =
    h.places prefix ∙ ap (last_place prefix) (map_push binding_of bindings b) ∙ last_place-push prefix (map binding_of bindings) (binding_of b)

pub found_last : (bindings : List code.Binding) (b : code.Binding) (tree : Places) → IsFound (bindings ++ b ∷ []) tree → IsSome (place_at tree b.prefix.now)
found_last bindings b tree h =
    let same : bytes_eq b.prefix.now b.prefix.now ≡ true = (bytes_eq-Decides b.prefix.now b.prefix.now).1 refl in
    subst IsSome (sym (last_is bindings b tree h b.prefix.now ∙ ap (λ s. cond s (Some (length (map binding_of bindings))) (last_place b.prefix.now (map binding_of bindings))) same)) refl

pub found_pop : (bindings : List code.Binding) (b : code.Binding) (old new : Places) → IsFound (bindings ++ b ∷ []) old
    → PutsPlace old new b.prefix.now b.covered → IsFound bindings new
found_pop bindings b old new h puts = record {
  places = λ prefix. puts prefix ∙ go prefix (bytes_eq b.prefix.now prefix) refl;
  covers = (cover_pop [] bindings b h.covers).0;
}
  where
    go : (prefix : List ℕ) (same : Bool) → bytes_eq b.prefix.now prefix ≡ same → cond same b.covered (place_at old prefix) ≡ last_place prefix (map binding_of bindings)
    go prefix true is =
        (cover_pop [] bindings b h.covers).1 ∙ ap (λ (p : List ℕ). last_place p (map binding_of bindings)) ((bytes_eq-Decides b.prefix.now prefix).0 is)
    go prefix false is =
        last_is bindings b old h prefix ∙ ap (λ s. cond s (Some (length (map binding_of bindings))) (last_place prefix (map binding_of bindings))) is

-- what is said of an insertion that succeeds, where the prefix was there
pub inserted : {A E P : Type 0} (r : Result A E) (was : Option ℕ) → IsSome was → OnErr r (was ≡ None) → OnOk r P → P
inserted (Ok x) was there absent h = h
inserted (Err e) was there absent h = absurd (false≢true (ap is_some (sym absent) ∙ there))
