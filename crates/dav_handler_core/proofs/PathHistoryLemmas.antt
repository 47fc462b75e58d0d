-- What stands at a path and along it from one map to another: the file that stood there, or a new moment.
use Rattle.std.proofs.Common.{◌≡◌, ◌≢◌, ◌⊎◌, inl, inr, ℕ, zero, suc, Bool, true, false, ◌||◌, cond, [], ◌∷◌, ◌++◌, length, Option, Some, None, refl, sym, ◌∙◌, ap, subst, arith}
use Rattle.std.specs.Prelude.{IsSome, option_map}
use Rattle.std.proofs.lemmas.Bool.{cases_Bool, false_from_ne_true, true≢false}
use Rattle.dav_path_core.specs.Fronts.{Path, is_front, is_same_path, parent}
use Rattle.dav_path_core.proofs.lists.FinMaps.{dec, none_some, one_some}
use Rattle.dav_path_core.proofs.lists.Orders.{path_exact, path_total}
use Rattle.dav_path_core.proofs.paths.AbovePaths.{above, parent_front, parent_length}
use Rattle.dav_path_core.proofs.paths.FrontLemmas.{is_front-refl, is_front-trans, is_same_path-refl, is_same_path-same}
use Rattle.dav_path_core.proofs.paths.SubtreePaths.{rest_of}
use Rattle.dav_files_core.specs.Following.{dated_entry, dated_folder}
use Rattle.dav_files_core.specs.Resources.{IsResourceMap, Node, Resource, ResourceMap, at_path}
use Rattle.dav_files_core.proofs.paths.RemovedMaps.{above_out, front_none}
use Rattle.dav_guarded_core.specs.Step.{State}
use Rattle.dav_session_core.specs.Clearing.{IsCleared}
use Rattle.dav_session_core.specs.Copying.{IsPartlyCopied, copy_at, created_at, is_copied, node_at}
use Rattle.dav_session_core.specs.Ends.{HasFolder}
use Rattle.dav_session_core.specs.Moving.{IsMoved}
use Rattle.dav_session_core.specs.Removing.{IsRemoved}
use Rattle.dav_session_core.proofs.MoveLemmas.{stands_in}
use Rattle.dav_handler_core.specs.PathMoments.{IsAlong, IsFileAt}

-- ---- a file that stays

-- a file with the same bytes was there, and each moment along the path still is along it
abbrev pub Stays : ResourceMap → ResourceMap → Path → Resource → Type 0
Stays m m' p file = (old : Resource) × IsFileAt m p old × (file.node.bytes ≡ old.node.bytes) × ((n : ℕ) → IsAlong m p n → IsAlong m' p n)

-- each file of the second map stood there in the first, or the moment is along its path
abbrev pub Follow : ResourceMap → ℕ → ResourceMap → Type 0
Follow m now m' = (p : Path) (file : Resource) → IsFileAt m' p file → Stays m m' p file ⊎ IsAlong m' p now

module _ (m m' : ResourceMap) (p : Path) (same : (q : Path) → is_front q p ≡ true → at_path m' q ≡ at_path m q) where
  along_too : (n : ℕ) → IsAlong m p n → IsAlong m' p n
  along_too n (inl h) = inl (h.0, same p (is_front-refl p) ∙ h.1, h.2)
  along_too n (inr h) = inr (h.0, h.1, h.2, same h.0 h.2 ∙ h.3, h.4)

  pub stays : (file : Resource) → IsFileAt m' p file → Stays m m' p file
  stays file here = (file, (sym (same p (is_front-refl p)) ∙ here.0, here.1), refl, along_too)

  -- and what came before goes on
  onward : (first : ResourceMap) (now : ℕ) → Follow first now m → (file : Resource) → IsFileAt m' p file → Stays first m' p file ⊎ IsAlong m' p now
  onward first now h file here = elim (h p file (sym (same p (is_front-refl p)) ∙ here.0, here.1)) [
    | inl old ↦ inl (old.0, old.1, old.2, λ n along. along_too n (old.3 n along))
    | inr new ↦ inr (along_too now new)
  ]

pub as_stood : (m : ResourceMap) (now : ℕ) → Follow m now m
as_stood m now p file here = inl (stays m m p (λ q front. refl) file here)

-- a front of what is not below a path is not below it
out_above : (a q p : Path) → is_front q p ≡ true → is_front a p ≡ false → is_front a q ≡ false
out_above a q p front out = false_from_ne_true _ (λ inside. true≢false (sym (is_front-trans a q p inside front) ∙ out))

-- and it is another path than one that is no front
no_front : (a q p : Path) → is_front q p ≡ true → is_front a p ≡ false → q ≢ a
no_front a q p front out same = true≢false (sym (subst (λ x. is_front x p ≡ true) same front) ∙ out)

-- ---- one place

module _ (m m' : ResourceMap) (now : ℕ) (t : Path) where
  -- which was changed at the moment
  pub one_follows : (r : Resource) → at_path m' t ≡ Some r → r.node.modified ≡ now → ((q : Path) → q ≢ t → at_path m' q ≡ at_path m q) → Follow m now m'
  one_follows r there modified others p file here = elim (cases_Bool (is_front t p)) [
    | inl below ↦ inr (inr (t, r, below, there, modified))
    | inr out ↦ inl (stays m m' p (λ q front. others q (no_front t q p front out)) file here)
  ]

  -- where a folder was made, and the one above was changed
  pub made_follows : (above : Resource) → at_path m' (parent t) ≡ Some (dated_entry now above) → ((q : Path) → q ≢ t → q ≢ parent t → at_path m' q ≡ at_path m q) → Follow m now m'
  made_follows above changed others p file here = elim (cases_Bool (is_front (parent t) p)) [
    | inl below ↦ inr (inr (parent t, dated_entry now above, below, changed, refl))
    | inr out ↦
        inl (stays m m' p (λ q front. others q (no_front t q p front (false_from_ne_true _ (λ inside. true≢false (sym (is_front-trans (parent t) t p (parent_front t) inside) ∙ out))))
        (no_front (parent t) q p front out)) file here)
  ]

  -- where only properties were changed
  module _ (r r' : Resource) (stood : at_path m t ≡ Some r) (stands : at_path m' t ≡ Some r') (created : r'.node.created ≡ r.node.created)
      (modified : r'.node.modified ≡ r.node.modified) (others : (q : Path) → q ≢ t → at_path m' q ≡ at_path m q) where
    along_patched : (p : Path) (n : ℕ) → IsAlong m p n → IsAlong m' p n
    along_patched p n (inl h) = elim (dec path_total path_exact p t) [
      | inl here ↦
          let is : h.0 ≡ r = one_some (at_path m t) h.0 r (subst (λ q. at_path m q ≡ Some h.0) here h.1) stood in
          inl (r', ap (at_path m') here ∙ stands, created ∙ ap (λ (x : Resource). x.node.created) (sym is) ∙ h.2)
      | inr apart ↦ inl (h.0, others p apart ∙ h.1, h.2)
    ]
    along_patched p n (inr h) = elim (dec path_total path_exact h.0 t) [
      | inl here ↦
          let is : h.1 ≡ r = one_some (at_path m t) h.1 r (subst (λ q. at_path m q ≡ Some h.1) here h.3) stood in
          inr (h.0, r', h.2, ap (at_path m') here ∙ stands, modified ∙ ap (λ (x : Resource). x.node.modified) (sym is) ∙ h.4)
      | inr apart ↦ inr (h.0, h.1, h.2, others h.0 apart ∙ h.3, h.4)
    ]

    pub patched_stays : r'.node.bytes ≡ r.node.bytes → r'.node.kind ≡ r.node.kind → (p : Path) (file : Resource) → IsFileAt m' p file → Stays m m' p file
    patched_stays bytes kind p file here = elim (dec path_total path_exact p t) [
      | inl at ↦
          let is : file ≡ r' = one_some (at_path m' t) file r' (subst (λ q. at_path m' q ≡ Some file) at here.0) stands in
          (r, (ap (at_path m) at ∙ stood, sym kind ∙ ap (λ (x : Resource). x.node.kind) (sym is) ∙ here.1), ap (λ (x : Resource). x.node.bytes) is ∙ bytes, along_patched p)
      | inr apart ↦ (file, (sym (others p apart) ∙ here.0, here.1), refl, along_patched p)
    ]

-- ---- what is taken away

pub removed_follows : (now : ℕ) (t : Path) (s s' : State) → IsRemoved now t s s' → Follow s.map now s'.map
removed_follows now t s s' h p file here = elim (cases_Bool (is_front (parent t) p)) [
  | inl below ↦ by (at_path s.map (parent t)) refl below
  | inr out ↦ inl (stays s.map s'.map p (λ q front. h.others q (not_inside q front) (no_front (parent t) q p front out)) file here)
]
  where
    not_inside : (q : Path) → is_front q p ≡ true → is_front t q ≡ false
    not_inside q front = elim (cases_Bool (is_front t q)) [
      | inl inside ↦ none_some (at_path s'.map p) file (h.gone p (is_front-trans t q p inside front)) here.0
      | inr out ↦ out
    ]

    by : (o : Option Resource) → at_path s.map (parent t) ≡ o → is_front (parent t) p ≡ true → Stays s.map s'.map p file ⊎ IsAlong s'.map p now
    by (Some r) is below = inr (inr (parent t, dated_entry now r, below, h.above ∙ ap (option_map (dated_entry now)) is, refl))
    by None is below = inl (stays s.map s'.map p (λ q front. elim (dec path_total path_exact q (parent t)) [
      | inl same ↦ ap (at_path s'.map) same ∙ h.above ∙ ap (option_map (dated_entry now)) is ∙ sym is ∙ ap (at_path s.map) (sym same)
      | inr other ↦ h.others q (not_inside q front) other
    ]) file here)

pub cleared_follows : (now : ℕ) (to : Path) (s s' : State) → IsCleared now to s s' → Follow s.map now s'.map
cleared_follows now to s s' (inl h) = removed_follows now to s s' h.1
cleared_follows now to s s' (inr h) = subst (λ (t : State). Follow s.map now t.map) (sym h.1) (as_stood s.map now)

-- ---- what a folder has

-- above what stands there are folders
front_folder : (m : ResourceMap) → IsResourceMap m → (n : ℕ) (q p : Path) → length p ≡ n → is_front q p ≡ true → IsSome (at_path m p) → (q ≡ p) ⊎ HasFolder m q
front_folder m shape n [] [] long front here = inl refl
front_folder m shape n (x ∷ q) [] long front here = inl (front_none (x ∷ q) front)
front_folder m shape zero q (x ∷ p) long front here = absurd (omega (arith, long))
front_folder m shape (suc n) q (x ∷ p) long front here = elim (above q (x ∷ p) front) [
  | inl same ↦ inl same
  | inr higher ↦
      let folder = stands_in m (x ∷ p) shape here (λ none. no_cons none) in
      elim (front_folder m shape n q (parent (x ∷ p)) (parent_length (x ∷ p) n (omega (arith, long))) higher (subst IsSome (sym folder.1) refl)) [
        | inl same ↦ inr (subst (HasFolder m) (sym same) folder)
        | inr found ↦ inr found
      ]
]
  where
    no_cons : x ∷ p ≡ [] → ⊥
    no_cons h = cc

-- so once a target is cleared nothing stands below it
pub cleared_bare : (now : ℕ) (to : Path) (s mid : State) → IsResourceMap s.map → IsCleared now to s mid → (p : Path) (file : Resource) → is_front to p ≡ true → at_path mid.map p ≡ Some file
    → p ≡ to
cleared_bare now to s mid shape (inl h) p file inside here = none_some (at_path mid.map p) file (h.1.gone p inside) here
cleared_bare now to s mid shape (inr h) p file inside here =
    let stood : at_path s.map p ≡ Some file = sym (ap (λ (t : State). at_path t.map p) h.1) ∙ here in
    elim (front_folder s.map shape (length p) to p refl inside (subst IsSome (sym stood) refl)) [
      | inl same ↦ sym same
      | inr folder ↦ absurd (h.0 folder)
    ]

-- ---- a copy

module _ (first : ResourceMap) (now : ℕ) (s s' : State) (follows : Follow first now s.map) where
  -- a copy was made at the moment
  copied_along : (deep : Bool) (from to rest p : Path) (file : Resource) → at_path s'.map p ≡ Some file → Some file.node ≡ copy_at now deep from to s.map rest → IsAlong s'.map p now
  copied_along deep from to rest p file here h = by (is_copied deep from to rest) (node_at s.map (from ++ rest)) h
    where
      by : (b : Bool) (o : Option Node) → Some file.node ≡ cond b (option_map (created_at now) o) None → IsAlong s'.map p now
      by false o h = absurd (cc)
      by true None h = absurd (cc)
      by true (Some node) h = let is : file.node ≡ created_at now node = cc in inl (file, here, ap (λ (n : Node). n.created) is)

  pub copied_follows : (deep : Bool) (from to : Path) → IsPartlyCopied now deep from to s s'
      → ((p : Path) (file : Resource) → is_front to p ≡ true → at_path s.map p ≡ Some file → p ≡ to) → Follow first now s'.map
  copied_follows deep from to h bare p file here = elim (cases_Bool (is_front to p)) [
    | inl inside ↦ within inside (rest_of to p inside)
    | inr out ↦ onward s.map s'.map p (λ q front. h.others q (out_above to q p front out)) first now follows file here
  ]
    where
      same_at : (q : Path) → is_front q p ≡ true → p ≡ to → at_path s'.map p ≡ at_path s.map p → at_path s'.map q ≡ at_path s.map q
      same_at q front target same = elim (dec path_total path_exact q p) [
        | inl e ↦ ap (at_path s'.map) e ∙ same ∙ ap (at_path s.map) (sym e)
        | inr other ↦ elim (cases_Bool (is_front to q)) [
          | inl inside ↦ elim (above q p front) [
            | inl e ↦ absurd (other e)
            | inr higher ↦
                let round : is_front p (parent p) ≡ true = is_front-trans p q (parent p) (subst (λ x. is_front x q ≡ true) (sym target) inside) higher in
                absurd (true≢false (sym round ∙ above_out p (λ none. other (front_none q (subst (λ x. is_front q x ≡ true) none front) ∙ sym none))))
          ]
          | inr out ↦ h.others q out
        ]
      ]

      within : is_front to p ≡ true → (rest : Path) × (p ≡ to ++ rest) → Stays first s'.map p file ⊎ IsAlong s'.map p now
      within inside r = elim (h.there r.0) [
        | inl same ↦
            let stood : at_path s'.map p ≡ at_path s.map p = ap (at_path s'.map) r.1 ∙ same ∙ ap (at_path s.map) (sym r.1) in
            let target = bare p file inside (sym stood ∙ here.0) in
            onward s.map s'.map p (λ q front. same_at q front target stood) first now follows file here
        | inr copied ↦
            inr (copied_along deep from to r.0 p file here.0 (sym (ap (option_map (λ (x : Resource). x.node)) (sym (ap (at_path s'.map) r.1) ∙ here.0)) ∙ copied))
      ]

  -- ---- a move

  pub moved_follows : (from to : Path) → HasFolder s.map (parent from) → HasFolder s.map (parent to) → is_front from (parent from) ≡ false → is_front to (parent from) ≡ false
      → is_front from (parent to) ≡ false → is_front to (parent to) ≡ false → IsMoved now from to s s' → Follow first now s'.map
  moved_follows from to above_from above_to from_from to_from from_to to_to h p file here = elim (cases_Bool (is_front from p)) [
    | inl gone ↦ none_some (at_path s'.map p) file (h.gone p gone) here.0
    | inr out ↦ elim (cases_Bool (is_front (parent to) p)) [
      | inl below ↦ inr (dated (parent to) above_to below from_to to_to (either (is_same_path (parent to) (parent from)) (is_same_path-refl (parent to))))
      | inr out_to ↦ elim (cases_Bool (is_front (parent from) p)) [
        | inl below ↦ inr (dated (parent from) above_from below from_from to_from (ap (λ b. b || is_same_path (parent from) (parent to)) (is_same_path-refl (parent from))))
        | inr out_from ↦ onward s.map s'.map p (λ q front. same_at q front out out_to out_from) first now follows file here
      ]
    ]
  ]
    where
      either : (a : Bool) {b : Bool} → b ≡ true → (a || b) ≡ true
      either true h = refl
      either false h = h

      dated : (q : Path) → HasFolder s.map q → is_front q p ≡ true → is_front from q ≡ false → is_front to q ≡ false
          → (is_same_path q (parent from) || is_same_path q (parent to)) ≡ true → IsAlong s'.map p now
      dated q folder front out_from out_to one =
          let there : at_path s'.map q ≡ Some (dated_folder from to now q folder.0) = h.others q out_from out_to ∙ ap (option_map (dated_folder from to now q)) folder.1 in
          inr (q, dated_folder from to now q folder.0, front, there, ap (λ b. (cond b (dated_entry now folder.0) folder.0).node.modified) one)

      apart : (q a : Path) → is_front q p ≡ true → is_front a p ≡ false → is_same_path q a ≡ false
      apart q a front out = false_from_ne_true _ (λ same. no_front a q p front out (is_same_path-same q a same))

      itself : (o : Option Resource) → option_map (λ (r : Resource). r) o ≡ o
      itself None = refl
      itself (Some r) = refl

      same_at : (q : Path) → is_front q p ≡ true → is_front from p ≡ false → is_front (parent to) p ≡ false → is_front (parent from) p ≡ false → at_path s'.map q ≡ at_path s.map q
      same_at q front out out_to out_from =
          let not_to : is_front to p ≡ false = false_from_ne_true _ (λ inside. true≢false (sym (is_front-trans (parent to) to p (parent_front to) inside) ∙ out_to)) in
          h.others q (out_above from q p front out) (out_above to q p front not_to)
          ∙ ap (λ b. option_map (λ (r : Resource). cond b (dated_entry now r) r) (at_path s.map q))
          (ap (λ b. b || is_same_path q (parent to)) (apart q (parent from) front out_from) ∙ apart q (parent to) front out_to)
          ∙ itself (at_path s.map q)
