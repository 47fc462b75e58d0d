-- Where the files of a map come from: each stood in the map before, maybe elsewhere, or has a new moment.
use Rattle.std.proofs.Common.{◌≡◌, ◌⊎◌, inl, inr, ℕ, Bool, true, false, ◌||◌, cond, List, [], ◌++◌, Option, Some, None, refl, sym, ◌∙◌, ap, subst}
use Rattle.std.specs.Prelude.{option_map}
use Rattle.std.proofs.lemmas.Bool.{cases_Bool}
use Rattle.dav_path_core.specs.Fronts.{Path, is_front, is_same_path, parent}
use Rattle.dav_path_core.proofs.lists.FinMaps.{dec, none_some}
use Rattle.dav_path_core.proofs.lists.Orders.{path_exact, path_total}
use Rattle.dav_path_core.proofs.paths.FrontLemmas.{is_same_path-same}
use Rattle.dav_files_core.specs.declared.memfs.Kind.TheVariants.{Folder, File}
use Rattle.dav_files_core.specs.Following.{dated_entry}
use Rattle.dav_files_core.specs.Resources.{Node, Resource, ResourceMap, at_path}
use Rattle.dav_guarded_core.specs.Step.{State}
use Rattle.dav_session_core.specs.Clearing.{IsCleared}
use Rattle.dav_session_core.specs.Copying.{IsPartlyCopied, copy_at, created_at, is_copied, node_at}
use Rattle.dav_session_core.specs.Ends.{HasFolder}
use Rattle.dav_session_core.specs.Moving.{IsMoved}
use Rattle.dav_session_core.specs.Removing.{IsRemoved}
use Rattle.dav_handler_core.specs.TagHistories.{HasFile}
use Rattle.dav_path_core.proofs.paths.SubtreePaths.{rest_of}

-- the map has a file with these bytes that was changed last at this moment
abbrev pub Had : ResourceMap → ℕ → List ℕ → Type 0
Had m modified bytes = (old : Resource) × HasFile m old × (old.node.modified ≡ modified) × (old.node.bytes ≡ bytes)

-- each file of the second map stood in the first with its bytes, or was changed at the moment and has these bytes
abbrev pub Come : ResourceMap → ℕ → List ℕ → ResourceMap → Type 0
Come m now bytes m' = (file : Resource) → HasFile m' file → Had m file.node.modified file.node.bytes ⊎ ((file.node.modified ≡ now) × (file.node.bytes ≡ bytes))

-- the bytes of a file, where one is there
abbrev pub bytes_of : Option Resource → List ℕ
bytes_of None = []
bytes_of (Some r) = r.node.bytes

as_was : (m : ResourceMap) (now : ℕ) (bytes : List ℕ) → Come m now bytes m
as_was m now bytes file has = inl (file, has, refl, refl)

-- what is left elsewhere is as it was, but that a folder has another moment
pub removed_come : (now : ℕ) (p : Path) (s s' : State) → IsRemoved now p s s' → Come s.map now (bytes_of (at_path s.map (parent p))) s'.map
removed_come now p s s' h = λ file has. elim (dec path_total path_exact has.0 (parent p)) [
  | inl above ↦ inr (dated_file file (at_path s.map (parent p)) (sym (subst (λ q. at_path s'.map q ≡ Some file) above has.1) ∙ h.above))
  | inr below ↦ elim (cases_Bool (is_front p has.0)) [
    | inl inside ↦ none_some (at_path s'.map has.0) file (h.gone has.0 inside) has.1
    | inr out ↦ inl (file, (has.0, sym (h.others has.0 out below) ∙ has.1, has.2), refl, refl)
  ]
]
  where
    dated_file : (file : Resource) (o : Option Resource) → Some file ≡ option_map (dated_entry now) o → (file.node.modified ≡ now) × (file.node.bytes ≡ bytes_of o)
    dated_file file None h = absurd (cc)
    dated_file file (Some r) h =
        let is : file ≡ dated_entry now r = cc in (ap (λ (x : Resource). x.node.modified) is, ap (λ (x : Resource). x.node.bytes) is)

pub cleared_come : (now : ℕ) (to : Path) (s s' : State) → IsCleared now to s s' → Come s.map now (bytes_of (at_path s.map (parent to))) s'.map
cleared_come now to s s' (inl h) = removed_come now to s s' h.1
cleared_come now to s s' (inr h) = subst (λ (t : State). Come s.map now (bytes_of (at_path s.map (parent to))) t.map) (sym h.1) (as_was s.map now (bytes_of (at_path s.map (parent to))))

-- a folder elsewhere stands after a folder has gone
pub cleared_folder : (now : ℕ) (to q : Path) (s s' : State) → IsCleared now to s s' → is_front to q ≡ false → HasFolder s.map q → HasFolder s'.map q
cleared_folder now to q s s' (inr h) out folder = subst (λ (t : State). HasFolder t.map q) (sym h.1) folder
cleared_folder now to q s s' (inl h) out folder = elim (dec path_total path_exact q (parent to)) [
  | inl above ↦ (
    dated_entry now folder.0,
    ap (at_path s'.map) above ∙ h.1.above ∙ ap (λ x. option_map (dated_entry now) (at_path s.map x)) (sym above) ∙ ap (option_map (dated_entry now)) folder.1,
    folder.2,
  )
  | inr other ↦ (folder.0, h.1.others q out other ∙ folder.1, folder.2)
]

-- ---- a copy

module _ (m : ResourceMap) (now : ℕ) (bytes : List ℕ) (s s' : State) (come : Come m now bytes s.map) where
  -- a file that has what another has
  same_file : (file : Resource) (node : Node) (q : Path) → file.node ≡ created_at now node → file.node.kind ≡ File → node_at s.map q ≡ Some node
      → Had m file.node.modified file.node.bytes ⊎ ((file.node.modified ≡ now) × (file.node.bytes ≡ bytes))
  same_file file node q is kind there = by (at_path s.map q) refl there
    where
      by : (o : Option Resource) → at_path s.map q ≡ o → option_map (λ (r : Resource). r.node) o ≡ Some node
          → Had m file.node.modified file.node.bytes ⊎ ((file.node.modified ≡ now) × (file.node.bytes ≡ bytes))
      by None here h = absurd (cc)
      by (Some r) here h =
          let nodes : r.node ≡ node = cc in
          let modified = ap (λ (n : Node). n.modified) is ∙ ap (λ (n : Node). n.modified) (sym nodes) in
          let content = ap (λ (n : Node). n.bytes) is ∙ ap (λ (n : Node). n.bytes) (sym nodes) in
          let kinds = ap (λ (n : Node). n.kind) nodes ∙ ap (λ (n : Node). n.kind) (sym is) ∙ kind in
          elim (come r (q, here, kinds)) [
            | inl had ↦ inl (had.0, had.1, had.2 ∙ sym modified, had.3 ∙ sym content)
            | inr new ↦ inr (modified ∙ new.0, content ∙ new.1)
          ]

  -- of which it is known that it is a copy
  copied_file : (deep : Bool) (from to rest : Path) (file : Resource) → file.node.kind ≡ File → Some file.node ≡ copy_at now deep from to s.map rest
      → Had m file.node.modified file.node.bytes ⊎ ((file.node.modified ≡ now) × (file.node.bytes ≡ bytes))
  copied_file deep from to rest file kind h = by (is_copied deep from to rest) (node_at s.map (from ++ rest)) refl h
    where
      by : (b : Bool) (o : Option Node) → node_at s.map (from ++ rest) ≡ o → Some file.node ≡ cond b (option_map (created_at now) o) None
          → Had m file.node.modified file.node.bytes ⊎ ((file.node.modified ≡ now) × (file.node.bytes ≡ bytes))
      by false o there h = absurd (cc)
      by true None there h = absurd (cc)
      by true (Some node) there h = let is : file.node ≡ created_at now node = cc in same_file file node (from ++ rest) is kind there

  pub copied_come : (deep : Bool) (from to : Path) → IsPartlyCopied now deep from to s s' → Come m now bytes s'.map
  copied_come deep from to h file has = elim (cases_Bool (is_front to has.0)) [
    | inl inside ↦ behind_it (rest_of to has.0 inside)
    | inr out ↦ come file (has.0, sym (h.others has.0 out) ∙ has.1, has.2)
  ]
    where
      behind_it : (rest : Path) × (has.0 ≡ to ++ rest) → Had m file.node.modified file.node.bytes ⊎ ((file.node.modified ≡ now) × (file.node.bytes ≡ bytes))
      behind_it r =
          let here : at_path s'.map (to ++ r.0) ≡ Some file = subst (λ q. at_path s'.map q ≡ Some file) r.1 has.1 in
          elim (h.there r.0) [
            | inl same ↦ come file (to ++ r.0, sym same ∙ here, has.2)
            | inr copied ↦ copied_file deep from to r.0 file has.2 (sym (ap (option_map (λ (x : Resource). x.node)) here) ∙ copied)
          ]

  -- ---- a move

  -- a folder with another moment is no file
  no_file : (q : Path) (f : Resource → Resource) (file : Resource) → ((r : Resource) → (f r).node.kind ≡ r.node.kind) → HasFolder s.map q
      → option_map f (at_path s.map q) ≡ Some file → file.node.kind ≡ File → ⊥
  no_file q f file keeps folder is kind =
      let one : f folder.0 ≡ file = one_of (sym (ap (option_map f) folder.1) ∙ is) in
      let kinds : Folder ≡ File = sym folder.2 ∙ sym (keeps folder.0) ∙ ap (λ (r : Resource). r.node.kind) one ∙ kind in
      cc
    where
      one_of : Some (f folder.0) ≡ Some file → f folder.0 ≡ file
      one_of h = cc

  pub moved_come : (from to : Path) → HasFolder s.map (parent from) → HasFolder s.map (parent to) → IsMoved now from to s s' → Come m now bytes s'.map
  moved_come from to above_from above_to h file has = elim (cases_Bool (is_front from has.0)) [
    | inl gone ↦ none_some (at_path s'.map has.0) file (h.gone has.0 gone) has.1
    | inr out ↦ elim (cases_Bool (is_front to has.0)) [
      | inl inside ↦
          let r = rest_of to has.0 inside in
          come file (from ++ r.0, sym (h.there r.0) ∙ subst (λ q. at_path s'.map q ≡ Some file) r.1 has.1, has.2)
      | inr away ↦ elsewhere (is_same_path has.0 (parent from) || is_same_path has.0 (parent to)) refl (sym (h.others has.0 out away) ∙ has.1)
    ]
  ]
    where
      folder_at : (is_same_path has.0 (parent from) || is_same_path has.0 (parent to)) ≡ true → HasFolder s.map has.0
      folder_at test = elim (cases_Bool (is_same_path has.0 (parent from))) [
        | inl here ↦ subst (HasFolder s.map) (sym (is_same_path-same has.0 (parent from) here)) above_from
        | inr other ↦
            let here : is_same_path has.0 (parent to) ≡ true = subst (λ b. (b || is_same_path has.0 (parent to)) ≡ true) other test in
            subst (HasFolder s.map) (sym (is_same_path-same has.0 (parent to) here)) above_to
      ]

      elsewhere : (b : Bool) → (is_same_path has.0 (parent from) || is_same_path has.0 (parent to)) ≡ b
          → option_map (λ (r : Resource). cond b (dated_entry now r) r) (at_path s.map has.0) ≡ Some file
          → Had m file.node.modified file.node.bytes ⊎ ((file.node.modified ≡ now) × (file.node.bytes ≡ bytes))
      elsewhere true is h' = absurd (no_file has.0 (λ (r : Resource). dated_entry now r) file (λ r. refl) (folder_at is) h' has.2)
      elsewhere false is h' = come file (has.0, by (at_path s.map has.0) h', has.2)
        where
          by : (o : Option Resource) → option_map (λ (r : Resource). r) o ≡ Some file → o ≡ Some file
          by None e = absurd (cc)
          by (Some r) e = e
