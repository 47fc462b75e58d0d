-- A move of a node, as a move of the map, and how it is refused.
use Rattle.std.proofs.Common.{◌≡◌, inl, inr, ℕ, Bool, true, false, [], ◌∷◌, ◌++◌, Option, Some, None, is_some, Result, Ok, Err, IfOk, IfErr, MatchResult, refl, sym, ap, ◌∙◌, subst, nat_eq, append_assoc, append-nil}
use Rattle.std.specs.Prelude.{◌==◌, ◌||◌, ◌&&◌, if◌then◌else◌}
use Rattle.std.specs.Cmp.Lexicographic.{pointwise, bytes_decides}
use Rattle.std.specs.Cmp.{nat_cmp_total}
use Rattle.std.specs.FinMap.{get, nat_cmp-IsAntisymmetric}
use Rattle.std.proofs.lemmas.Bool.{true≢false, eq-eqb, ne_eqb}
use Rattle.dav_path_core.specs.StoreAnswers.{AnswersWithRoom}
use Rattle.dav_path_core.specs.declared.errors.FsError.{FsError}
use Rattle.dav_path_core.specs.declared.errors.FsError.TheVariants.{NotFound, Exists, Forbidden}
use Rattle.dav_path_core.specs.Fronts.{Segment, Path, behind}
use Rattle.dav_path_core.specs.Keyed.{child, has_child, is_kept, is_under, move_refusal, with_moved as moved_node, moved_over, with_new_place, placed_at, without_node, parent_number, parent_and_key_of, Under}
use Rattle.dav_path_core.proofs.lists.FinMaps.{none_some, one_some, get_left, get_gone}
use Rattle.dav_path_core.proofs.lists.Orders.{path_total, path_exact}
use Rattle.dav_path_core.proofs.lists.Snoc.{snoc_not_empty, by_last, snoc_front}
use Rattle.dav_path_core.proofs.trees.Trees.{child-some, child-none, none≢some, same_some}
use Rattle.dav_files_core.specs.declared.memfs.Kind.TheVariants.{Folder}
use Rattle.dav_files_core.specs.Finding.{has_members}
use Rattle.dav_files_core.specs.Folders.{is_root}
use Rattle.dav_files_core.specs.Moved.{moved_map}
use Rattle.dav_files_core.specs.Outcomes.{◌>>=◌, without}
use Rattle.dav_files_core.specs.Renaming.{relocated_map, put_elsewhere}
use Rattle.dav_files_core.specs.Private.Entries.{put_there as put_there_outcome}
use Rattle.dav_files_core.specs.Private.FileRepresents.{FileEntry, FileTree, Represents, resource_map}
use Rattle.dav_files_core.specs.Private.TreeCalls.{IsMember}
use Rattle.dav_files_core.specs.Resources.{Resource, ResourceMap, at_path}
use Rattle.dav_path_core.proofs.paths.FrontLemmas.{behind_append, behind_is, none_behind}
use Rattle.dav_files_core.proofs.walks.HasMembersLemmas.{has_none, has_child_is, no_members}
use Rattle.dav_files_core.proofs.changes.LeavingLemmas.{not_root, root_number, known}
use Rattle.dav_files_core.proofs.paths.LengthLemmas.{longer}
use Rattle.dav_files_core.proofs.moves.MovedLemmas.{moved-without}
use Rattle.dav_files_core.proofs.moves.MovingLemmas.{Represents-moved}
use Rattle.dav_files_core.proofs.changes.LeftLemmas.{child_entry, stands_itself, is_view}
use Rattle.dav_files_core.proofs.walks.SubtreeLemmas.{under_front, front_under}
use Rattle.dav_files_core.proofs.walks.TreeWordLemmas.{stands}
use Rattle.dav_files_core.proofs.walks.StepLemmas.{no_member}
use Rattle.dav_files_core.proofs.changes.WithoutLemmas.{Represents-without}

pub snoc_no_root : (p : Path) (s : Segment) → is_root (p ++ (s ∷ [])) ≡ false
snoc_no_root [] s = refl
snoc_no_root (x ∷ p) s = refl

module _ (t : FileTree) (m : ResourceMap) (rep : Represents t m)
    (from : Path) (r : Resource) (source : at_path m from ≡ Some r) (id : ℕ) (number : r.number ≡ id)
    (p : Path) (f : Resource) (folder : at_path m p ≡ Some f) (is_folder : f.node.kind ≡ Folder) (into : ℕ) (into_number : f.number ≡ into) (name : Segment) where
  abbrev to : Path
  to = p ++ (name ∷ [])

  abbrev taken : Option ℕ
  taken = child (pointwise nat_eq name) t into

  -- ---- what stands at the target
  free : taken ≡ None → at_path m to ≡ None
  free e = no_member t m rep p f folder into into_number name (λ c there. true≢false (sym ((bytes_decides name name).1 refl) ∙ child-none t (pointwise nat_eq name) into e c name (ap parent_and_key_of there.1)))

  full : (c : ℕ) → taken ≡ Some c → (x : Resource) × (at_path m to ≡ Some x) × (x.number ≡ c)
  full c e =
      let w = child-some t (pointwise nat_eq name) into c e in
      child_entry t m rep p f folder into into_number name c (subst (λ k. IsMember t into k c) (sym ((bytes_decides name w.0).0 w.2)) (stands t c into w.0 w.1))

  empty_below : at_path m to ≡ None → has_members m to ≡ false
  empty_below none = has_none m to (λ s. look s (at_path m (to ++ (s ∷ []))) refl)
    where
      look : (s : Segment) (o : Option Resource) → at_path m (to ++ (s ∷ [])) ≡ o → o ≡ None
      look s None h = refl
      look s (Some x) h = let above = rep.is_map.parents to s x h in none_some (at_path m to) above.0 none above.1

  kept_is : is_kept t true taken ≡ has_members m to
  kept_is = by taken refl
    where
      by : (o : Option ℕ) → taken ≡ o → is_kept t true o ≡ has_members m to
      by None e = sym (empty_below (free e))
      by (Some c) e = let x = full c e in ap (has_child t) (sym x.2) ∙ has_child_is t m rep to x.0 x.1

  abbrev refusal : Bool → Bool → Bool → Option FsError
  refusal members root under = if members then Some Exists else (if root || under then Some Forbidden else None)

  refusal_is : move_refusal (pointwise nat_eq) t id into name true ≡ refusal (has_members m to) (is_root from) (is_under t id into)
  refusal_is =
      ap (λ b. if b && is_some (get t.nodes into) then refusal (is_kept t true taken) (id == 1) (is_under t id into) else Some NotFound) (known t m rep from r source id number)
      ∙ ap (λ b. if b then refusal (is_kept t true taken) (id == 1) (is_under t id into) else Some NotFound) (known t m rep p f folder into into_number)
      ∙ ap (λ b. refusal b (id == 1) (is_under t id into)) kept_is
      ∙ ap (λ b. refusal (has_members m to) b (is_under t id into)) (ap (λ n. n == 1) (sym number) ∙ root_number m rep.is_map from r source)

  -- ---- what the map answers
  answer : Bool → Bool → Bool → Result ResourceMap FsError
  answer at_root members root =
      if at_root then Err (if root then Forbidden else Exists)
      else (if members then Err Exists
      else (if root then Err Forbidden
      else put_elsewhere m from to (behind from to)))

  by_members : (b : Bool) → has_members m to ≡ b → relocated_map m from to ≡ answer false b (is_root from)
  unfolding answer
  by_members b e = ap (λ x. answer x (has_members m to) (is_root from)) (snoc_no_root p name) ∙ ap (λ x. answer false x (is_root from)) e

  by_root : (b : Bool) → has_members m to ≡ false → is_root from ≡ b → relocated_map m from to ≡ answer false false b
  unfolding answer
  by_root b e h = by_members false e ∙ ap (λ x. answer false false x) h

  -- ---- below the source
  abbrev IsBelow : Type 0
  IsBelow = Under (parent_number t) id into

  below_front : IsBelow → (u : Path) × (p ≡ from ++ u)
  below_front up = under_front t m rep from r source into (subst (λ n. Under (parent_number t) n into) (sym number) up) p f folder into_number

  front_below : (u : Path) → p ≡ from ++ u → IsBelow
  front_below u e =
      subst (λ n. Under (parent_number t) n into) number (subst (λ n. Under (parent_number t) r.number n) into_number (front_under t m rep u from r source f (ap (at_path m) (sym e) ∙ folder)))

  behind_below : (s : Segment) (rest : Path) → behind from to ≡ Some (s ∷ rest) → IsBelow
  behind_below s rest e = elim (by_last (s ∷ rest)) [
    | inl nothing ↦ absurd (cc)
    | inr last ↦
        let split : to ≡ (from ++ last.0) ++ (last.1 ∷ []) = behind_is from to (s ∷ rest) e ∙ ap (λ (u : Path). from ++ u) last.2 ∙ sym (append_assoc from last.0 (last.1 ∷ [])) in
        front_below last.0 (snoc_front p (from ++ last.0) name last.1 split)
  ]

  refused_below : IsBelow → put_elsewhere m from to (behind from to) ≡ Err Forbidden
  refused_below up =
      let front = below_front up in
      ap (put_elsewhere m from to) (ap (behind from) (ap (λ (q : Path). q ++ (name ∷ [])) front.1 ∙ append_assoc from front.0 (name ∷ [])) ∙ behind_append from (front.0 ++ (name ∷ []))) ∙ by front.0
    where
      by : (u : Path) → put_elsewhere m from to (Some (u ++ (name ∷ []))) ≡ Err Forbidden
      by [] = refl
      by (x ∷ u) = refl

  -- ---- a move that is done
  abbrev Done : FileTree → Type 0
  Done t' = (m' : ResourceMap) × (relocated_map m from to ≡ Ok m') × Represents t' m'

  module _ (not_up : ¬ (from ≡ [])) (leaf : has_members m to ≡ false) where
    -- at its own place
    own_place : from ≡ to → moved_over t id into name taken ≡ t
    own_place same = by taken refl
      where
        by : (o : Option ℕ) → taken ≡ o → moved_over t id into name o ≡ t
        by None e = none_some (at_path m to) r (free e) (ap (at_path m) (sym same) ∙ source)
        by (Some c) e =
            let x = full c e in
            let is : c ≡ id = sym x.2 ∙ ap (λ (r : Resource). r.number) (one_some (at_path m to) x.0 r x.1 (ap (at_path m) (sym same) ∙ source)) ∙ number in
            ap (λ b. if b then t else with_new_place (without_node t c) id into name) (eq-eqb c id is)

    module _ (elsewhere : behind from to ≡ None) where
      stored : (n : FileEntry) × (get t.nodes id ≡ Some n)
      stored = let s = rep.shown from r source in (s.placed, ap (λ id. get t.nodes id) (sym number) ∙ s.stored)

      apart : ¬ (from ≡ to)
      apart same = none_behind from to elsewhere [] (sym same ∙ sym (append-nil from))

      abbrev put_there : FileTree → ℕ → ℕ → FileTree
      put_there t id into = placed_at t id into name (Some stored.0)

      into_free : at_path m to ≡ None → Represents (with_new_place t id into name) (moved_map m from to)
      into_free none =
          let rep' = Represents-moved t m rep from r stored.0 p f name source not_up (ap (λ id. get t.nodes id) number ∙ stored.1) folder is_folder none elsewhere in
          subst (λ t'. Represents t' (moved_map m from to)) ((λ j. put_there t (number j) (into_number j)) ∙ ap (placed_at t id into name) (sym stored.1)) rep'

      in_place_of : (c : ℕ) (x : Resource) → at_path m to ≡ Some x → x.number ≡ c → ¬ (c ≡ id) → Represents (with_new_place (without_node t c) id into name) (moved_map m from to)
      in_place_of c x there is other =
          let cut = Represents-without t m rep to x there (snoc_not_empty p name) (no_members m to leaf) in
          let cut' : Represents (without_node t c) (without m to) = subst (λ c. Represents (without_node t c) (without m to)) is cut in
          let source' : at_path (without m to) from ≡ Some r = get_left path_total path_exact m.entries to from apart ∙ source in
          let folder' : at_path (without m to) p ≡ Some f = get_left path_total path_exact m.entries to p (longer p name) ∙ folder in
          let stored' : get (without_node t c).nodes id ≡ Some stored.0 = get_left nat_cmp_total nat_cmp-IsAntisymmetric t.nodes c id (λ e. other (sym e)) ∙ stored.1 in
          let rep' = Represents-moved (without_node t c) (without m to) cut' from r stored.0 p f name source' not_up (ap (λ id. get (without_node t c).nodes id) number ∙ stored') folder' is_folder (get_gone path_total path_exact m.entries to) elsewhere in
          subst (λ m. Represents (with_new_place (without_node t c) id into name) m) (moved-without m from to elsewhere)
          (subst (λ t'. Represents t' (moved_map (without m to) from to)) ((λ j. put_there (without_node t c) (number j) (into_number j)) ∙ ap (placed_at (without_node t c) id into name) (sym stored')) rep')

      over : Represents (moved_over t id into name taken) (moved_map m from to)
      over = by taken refl
        where
          by : (o : Option ℕ) → taken ≡ o → Represents (moved_over t id into name o) (moved_map m from to)
          by None e = into_free (free e)
          by (Some c) e =
              let x = full c e in
              let other : ¬ (c ≡ id) = λ same. apart (rep.is_map.apart from to r x.0 source x.1 (number ∙ sym same ∙ sym x.2)) in
              subst (λ t'. Represents t' (moved_map m from to)) (sym (ap (λ b. if b then t else with_new_place (without_node t c) id into name) (ne_eqb c id other))) (in_place_of c x.0 x.1 x.2 other)

    outcome : ¬ IsBelow → (m' : ResourceMap) × (put_elsewhere m from to (behind from to) ≡ Ok m') × Represents (moved_over t id into name taken) m'
    outcome outside = by (behind from to) refl
      where
        by : (o : Option Path) → behind from to ≡ o → (m' : ResourceMap) × (put_elsewhere m from to (behind from to) ≡ Ok m') × Represents (moved_over t id into name taken) m'
        by None e = (moved_map m from to, ap (put_elsewhere m from to) e, over e)
        by (Some []) e =
            let same : from ≡ to = sym (append-nil from) ∙ sym (behind_is from to [] e) in
            (m, ap (put_elsewhere m from to) e, subst (λ t'. Represents t' m) (sym (own_place same)) rep)
        by (Some (s ∷ rest)) e = absurd (outside (behind_below s rest e))

  pub done : (t' : FileTree) → move_refusal (pointwise nat_eq) t id into name true ≡ None → ¬ IsBelow → t' ≡ moved_node (pointwise nat_eq) t id into name → Done t'
  unfolding answer
  done t' allowed outside e = by (has_members m to) refl (is_root from) refl
    where
      refused : (members root under : Bool) → has_members m to ≡ members → is_root from ≡ root → refusal members root (is_under t id into) ≡ None
      refused members root under h g = ap (λ b. refusal b root (is_under t id into)) (sym h) ∙ ap (λ b. refusal (has_members m to) b (is_under t id into)) (sym g) ∙ sym refusal_is ∙ allowed

      by : (members : Bool) → has_members m to ≡ members → (root : Bool) → is_root from ≡ root → Done t'
      by true h root g = absurd (none≢some Exists (sym (refused true root true h g)))
      by false h true g = absurd (none≢some Forbidden (sym (refused false true true h g)))
      by false h false g =
          let o = outcome (not_root from g) h outside in
          (o.0, by_root false h g ∙ o.1, subst (λ t'. Represents t' o.0) (sym e) o.2)

  -- ---- and one that is refused
  pub refused : (e : FsError) → move_refusal (pointwise nat_eq) t id into name true ≡ Some e → (e ≡ Forbidden → IsBelow) → relocated_map m from to ≡ Err e
  unfolding answer
  refused e h up = by (has_members m to) refl (is_root from) refl (is_under t id into) refl
    where
      is : (members root under : Bool) → has_members m to ≡ members → is_root from ≡ root → is_under t id into ≡ under → refusal members root under ≡ Some e
      is members root under h1 h2 h3 =
          ap (λ b. refusal b root under) (sym h1) ∙ ap (λ b. refusal (has_members m to) b under) (sym h2) ∙ ap (λ b. refusal (has_members m to) (is_root from) b) (sym h3) ∙ sym refusal_is ∙ h

      error : (x : FsError) → relocated_map m from to ≡ Err x → Some x ≡ Some e → relocated_map m from to ≡ Err e
      error x h same = h ∙ ap (λ (x : FsError). Err x) (same_some x e same)

      by : (members : Bool) → has_members m to ≡ members → (root : Bool) → is_root from ≡ root → (under : Bool) → is_under t id into ≡ under → relocated_map m from to ≡ Err e
      by true h1 root h2 under h3 = error Exists (by_members true h1) (is true root under h1 h2 h3)
      by false h1 true h2 under h3 = error Forbidden (by_root true h1 h2) (is false true under h1 h2 h3)
      by false h1 false h2 true h3 =
          let forbidden : Forbidden ≡ e = same_some Forbidden e (is false false true h1 h2 h3) in
          by_root false h1 h2 ∙ refused_below (up (sym forbidden)) ∙ ap (λ (x : FsError). Err x) forbidden
      by false h1 false h2 false h3 = absurd (none≢some e (is false false false h1 h2 h3))

  -- ---- both
  abbrev Moves : Result (Unit {0}) FsError → FileTree → Type 0
  Moves result t' = MatchResult result
      (λ _. (move_refusal (pointwise nat_eq) t id into name true ≡ None) × (t' ≡ moved_node (pointwise nat_eq) t id into name))
      (λ e. (move_refusal (pointwise nat_eq) t id into name true ≡ Some e) × (t' ≡ t))

  pub moved_stands : (result : Result (Unit {0}) FsError) (t' : FileTree) → Moves result t' → IfOk result (λ _. ¬ IsBelow) → Represents t' (resource_map t')
  moved_stands (Ok x) t' h outside = let d = done t' h.0 outside h.1 in stands_itself t' d.0 d.2
  moved_stands (Err e) t' h outside = stands_itself t' m (subst (λ t. Represents t m) (sym h.1) rep)

  pub moved_answer : (result : Result (Unit {0}) FsError) (t' : FileTree) → Moves result t' → IfOk result (λ _. ¬ IsBelow) → IfErr result (λ e. e ≡ Forbidden → IsBelow)
      → AnswersWithRoom (λ _. tt {0}) result (put_there_outcome m from to) m (resource_map t')
  moved_answer (Ok x) t' h outside up =
      let d = done t' h.0 outside h.1 in
      ap (λ (o : Result ResourceMap FsError). o >>= λ (m : ResourceMap). Ok (tt {0}, m)) d.1 ∙ ap (λ m. Ok (tt {0}, m)) (is_view t' d.0 d.2)
  moved_answer (Err e) t' h outside up = (
    sym (is_view t' m (subst (λ t. Represents t m) (sym h.1) rep)),
    inr (ap (λ (o : Result ResourceMap FsError). o >>= λ (m : ResourceMap). Ok (tt {0}, m)) (refused e h.0 up)),
  )
