-- What the tree's clauses say, in the words of walks.
use Rattle.std.proofs.Common.{◌≡◌, ◌<◌, ◌==◌, ◌||◌, cond, arith, inl, inr, ℕ, Bool, true, false, is_some, List, Option, Some, None, Result, Ok, Err, IfOk, IfErr, OnOk, OnErr, MatchResult, refl, sym, ap, ◌∙◌, subst, Bor, nat_eq}
use Rattle.std.specs.Option.{option_map, ok_or}
use Rattle.std.specs.Cmp.{nat_cmp_total}
use Rattle.std.specs.FinMap.{get, insert, nat_cmp-IsAntisymmetric}
use Rattle.std.specs.Cmp.Lexicographic.{pointwise, bytes_decides}
use Rattle.std.proofs.lemmas.Bool.{true≢false, ne_eqb}
use Rattle.dav_path_core.specs.declared.errors.FsError.{FsError}
use Rattle.dav_path_core.specs.declared.errors.FsError.TheVariants.{NotFound, Exists, Forbidden, InsufficientStorage}
use Rattle.dav_files_core.specs.Properties.{patched_properties}
use Rattle.dav_files_core.specs.Resources.{Node, Properties, Property}
use Rattle.dav_files_core.specs.Private.FileRepresents.{FileTree, FileEntry}
use Rattle.dav_files_core.specs.Private.TreeCalls.{IsMember, FindsMember, FindsNode, WritesFile, SetsNode, IsThere}
use Rattle.dav_path_core.specs.StoreAnswers.{AnswersUnlessRefused}
use Rattle.dav_path_core.specs.Keyed.{entry, item, parent_and_key, parent_and_key_of, child, add, add_refusal, with_restored_node, restore_refusal, with_item, with_item_at}
use Rattle.dav_path_core.specs.TreeValue.{TreeValue}
use Rattle.dav_path_core.specs.Fronts.{Segment}
use Rattle.dav_path_core.proofs.lists.FinMaps.{insert_same}
use Rattle.dav_path_core.proofs.trees.Trees.{child-some, child-none, same_some, none≢some, refusal-none}

module _ (t : FileTree) where
  -- a place, as an entry
  pub stands : (n p : ℕ) (k : List ℕ) → parent_and_key t n ≡ Some (p, k) → IsMember t p k n
  stands n p k h = by (get t.nodes n) refl h
    where
      by : (o : Option FileEntry) → get t.nodes n ≡ o → parent_and_key_of o ≡ Some (p, k) → IsMember t p k n
      by None e h = absurd (none≢some (p, k) h)
      by (Some x) e h = (x.item, e ∙ ap (λ (q : Option (ℕ × List ℕ)). Some (record { parent_and_key = q; item = x.item })) h)

  pub finds : (p : ℕ) (name : List ℕ) (r : Result ℕ FsError) → r ≡ ok_or (child (λ k. pointwise nat_eq k name) t p) NotFound → FindsMember t p name r
  finds p name r h = subst (FindsMember t p name) (sym h) (by (child (λ k. pointwise nat_eq k name) t p) refl)
    where
      by : (o : Option ℕ) → child (λ k. pointwise nat_eq k name) t p ≡ o → FindsMember t p name (ok_or o NotFound)
      by None e = (refl, λ c there. true≢false (sym ((bytes_decides name name).1 refl) ∙ child-none t (λ k. pointwise nat_eq k name) p e c name (ap parent_and_key_of there.1)))
      by (Some c) e =
          let w = child-some t (λ k. pointwise nat_eq k name) p c e in
          subst (λ k. IsMember t p k c) ((bytes_decides w.0 name).0 w.2) (stands c p w.0 w.1)

  has_item : (n : ℕ) (d : Node) → item t n ≡ Some d → FindsNode t n (Ok d)
  has_item n d h = by (get t.nodes n) refl h
    where
      by : (o : Option FileEntry) → get t.nodes n ≡ o → option_map (λ e. e.item) o ≡ Some d → FindsNode t n (Ok d)
      by None e h = absurd (none≢some d h)
      by (Some x) e h = (x, e, same_some _ _ h)

  pub items : (n : ℕ) (r : Result (Bor Node) FsError) → MatchResult r (λ d. item t n ≡ Some d.now) (λ e. (e ≡ NotFound) × (item t n ≡ None)) → IfOk r (λ d. FindsNode t n (Ok d.now))
  items n (Ok d) h = has_item n d.now h
  items n (Err e) h = tt

-- a member added to a folder that is there and has none of that name
module _ (old new : TreeValue Segment Node) (folder : ℕ) (name : Segment) (node : Node) (there : IsThere old.keyed folder) (free : FindsMember old.keyed folder name (Err NotFound)) where
  known : is_some (entry old.keyed folder) ≡ true
  known = ap is_some there.1

  pub no_child : child (pointwise nat_eq name) old.keyed folder ≡ None
  no_child = by (child (pointwise nat_eq name) old.keyed folder) refl
    where
      by : (o : Option ℕ) → child (pointwise nat_eq name) old.keyed folder ≡ o → o ≡ None
      by None e = refl
      by (Some c) e =
          let w = child-some old.keyed (pointwise nat_eq name) folder c e in
          absurd (free.1 c (subst (λ k. IsMember old.keyed folder k c) (sym ((bytes_decides name w.0).0 w.2)) (stands old.keyed c folder w.0 w.1)))

  abbrev Added : Result ℕ FsError → Type 0
  Added r = AnswersUnlessRefused (add_refusal (pointwise nat_eq) old.keyed folder name false) r
      (λ n. (n ≡ old.keyed.next) × (new.keyed ≡ add old.keyed folder name node)) (new ≡ old)

  pub added_ok : (r : Result ℕ FsError) → Added r → IfOk r (λ id. (id ≡ old.keyed.next) × (new.keyed ≡ add old.keyed folder name node))
  added_ok (Ok n) a = a.1
  added_ok (Err e) a = tt

  pub added_err : (r : Result ℕ FsError) → Added r → IfErr r (λ e. (e ≡ InsufficientStorage) × (new.keyed ≡ old.keyed))
  added_err (Ok n) a = tt
  added_err (Err e) a = elim a.0 [
    | inl is ↦ (is, ap (λ (t : TreeValue Segment Node). t.keyed) a.1)
    | inr is ↦ absurd (none≢some e (sym (refusal-none (pointwise nat_eq) old.keyed folder name false known (ap is_some no_child)) ∙ is))
  ]

  -- the same of one that has its number
  module _ (number : ℕ) where
    abbrev Restored : Result (Unit {0}) FsError → Type 0
    Restored r = AnswersUnlessRefused (restore_refusal old.keyed folder number) r (λ _. new.keyed ≡ with_restored_node old.keyed folder name node number) (new ≡ old)

    pub restored_ok : (r : Result (Unit {0}) FsError) → Restored r → OnOk r (new.keyed ≡ with_restored_node old.keyed folder name node number)
    restored_ok (Ok n) a = a.1
    restored_ok (Err e) a = tt

    module _ (unused : get old.keyed.nodes number ≡ None) (positive : 0 < number) (given : number < 18446744073709551615) where
      none_refuses : restore_refusal old.keyed folder number ≡ None
      none_refuses =
          ap (λ b. cond b (cond (is_some (entry old.keyed number)) (Some Exists) (cond ((number == 0) || (number == 18446744073709551615)) (Some Forbidden) None)) (Some NotFound)) known
          ∙ ap (λ o. cond (is_some o) (Some Exists) (cond ((number == 0) || (number == 18446744073709551615)) (Some Forbidden) None)) unused
          ∙ ap (λ b. cond (b || (number == 18446744073709551615)) (Some Forbidden) None) (ne_eqb number 0 (λ e. omega (arith, e, positive)))
          ∙ ap (λ b. cond b (Some Forbidden) None) (ne_eqb number 18446744073709551615 (λ e. omega (arith, e, given)))

      pub restored_err : (r : Result (Unit {0}) FsError) → Restored r → IfErr r (λ e. (e ≡ InsufficientStorage) × (new.keyed ≡ old.keyed))
      restored_err (Ok n) a = tt
      restored_err (Err e) a = elim a.0 [
        | inl is ↦ (is, ap (λ (t : TreeValue Segment Node). t.keyed) a.1)
        | inr is ↦ absurd (none≢some e (sym none_refuses ∙ is))
      ]

module _ (t : FileTree) where
  pub written : (id : ℕ) (old new : Node) (bytes : List ℕ) (now : ℕ) → item t id ≡ Some old → new ≡ record old { bytes = bytes; modified = now } → WritesFile t id bytes now (Ok tt) (with_item t id new)
  written id old new bytes now h is = by (get t.nodes id) refl h
    where
      by : (o : Option FileEntry) → get t.nodes id ≡ o → option_map (λ e. e.item) o ≡ Some old → WritesFile t id bytes now (Ok tt) (with_item t id new)
      by None e h = absurd (none≢some old h)
      by (Some x) e h =
          (x, e, ap (λ o. with_item_at t id o new) e ∙ ap (λ (n : Node). with_item_at t id (Some x) n) (is ∙ ap (λ (n : Node). record n { bytes = bytes; modified = now }) (sym (same_some _ _ h))))

  pub set : (id : ℕ) (old new : Node) (f : Node → Node) → item t id ≡ Some old → new ≡ f old → SetsNode t id f (Ok tt) (with_item t id new)
  set id old new f h is = by (get t.nodes id) refl h
    where
      by : (o : Option FileEntry) → get t.nodes id ≡ o → option_map (λ e. e.item) o ≡ Some old → SetsNode t id f (Ok tt) (with_item t id new)
      by None e h = absurd (none≢some old h)
      by (Some x) e h = (x, e, ap (λ o. with_item_at t id o new) e ∙ ap (λ (n : Node). with_item_at t id (Some x) n) (is ∙ ap f (sym (same_some _ _ h))))

  -- the item that is there already
  pub same_item : (id : ℕ) (d : Node) → item t id ≡ Some d → with_item t id d ≡ t
  same_item id d h = by (get t.nodes id) refl h
    where
      by : (o : Option FileEntry) → get t.nodes id ≡ o → option_map (λ e. e.item) o ≡ Some d → with_item t id d ≡ t
      by None e h = absurd (none≢some d h)
      by (Some x) e h =
          let same : record x { item = d } ≡ x = ap (λ (n : Node). record x { item = n }) (sym (same_some _ _ h)) in
          let nodes = insert_same nat_cmp_total nat_cmp-IsAntisymmetric t.nodes id x e in
          ap (λ o. with_item_at t id o d) e ∙ (λ i. record t { nodes = insert t.nodes id (same i) }) ∙ (λ i. record t { nodes = nodes i })

  -- a change of a node that may be refused
  pub set_ok : (id : ℕ) (old new : Node) (f : Node → Node) → item t id ≡ Some old → {A : Type 0} → (r : Result A FsError) → OnOk r (new ≡ f old) → OnOk r (SetsNode t id f (Ok tt) (with_item t id new))
  set_ok id old new f h (Ok x) is = set id old new f h is
  set_ok id old new f h (Err e) is = tt

  pub set_err : (id : ℕ) (old new : Node) → item t id ≡ Some old → {A : Type 0} → (r : Result A FsError) → IfErr r (λ e. (e ≡ InsufficientStorage) × (new ≡ old)) → IfErr r (λ e. (e ≡ InsufficientStorage) × (with_item t id new ≡ t))
  set_err id old new h (Ok x) is = tt
  set_err id old new h (Err e) is = (is.0, ap (with_item t id) is.1 ∙ same_item id old h)

-- a node whose properties are patched, if it can be done
module _ {A : Type 0} (old now : Node) (is : old ≡ now) (props : Properties) (patch : List (Bool × Property)) where
  pub patched_ok : (r : Result A FsError) → OnOk r (props ≡ patched_properties old.props patch) → OnOk r (record old { props = props } ≡ record now { props = patched_properties now.props patch })
  patched_ok (Ok x) h = ap (λ props. record old { props = props }) h ∙ ap (λ (n : Node). record n { props = patched_properties n.props patch }) is
  patched_ok (Err e) h = tt

  pub patched_err : (P : A → Type 0) (r : Result A FsError) → MatchResult r P (λ e. e ≡ InsufficientStorage) → OnErr r (props ≡ old.props)
      → IfErr r (λ e. (e ≡ InsufficientStorage) × (record old { props = props } ≡ now))
  patched_err P (Ok x) memory h = tt
  patched_err P (Err e) memory h = (memory, ap (λ props. record old { props = props }) h ∙ is)
