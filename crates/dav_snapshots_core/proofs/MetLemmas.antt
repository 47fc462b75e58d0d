-- The paths of a walk, by the folders that were met.
use Rattle.std.proofs.Common.{◌≡◌, inl, inr, ℕ, List, [], ◌∷◌, ◌++◌, map, Option, Some, None, sym, ap, subst, ◌∙◌, append_assoc}
use Rattle.std.specs.Prelude.{unwrap_or}
use Rattle.std.specs.List.{flat_map, last_or}
use Rattle.std.specs.FinMap.{entries}
use Rattle.std.proofs.lemmas.Bool.{cases_eq}
use Rattle.std.proofs.lemmas.Grind.{flat_map-append}
use Rattle.std.proofs.lemmas.List.{append-nil}
use Rattle.std.proofs.lemmas.List.Concat.{flat_map-cons}
use Rattle.std.proofs.lemmas.List.Sorted.{Contains-permutation, IsPermutation-sym}
use Rattle.dav_path_core.specs.Fronts.{Path, Segment}
use Rattle.dav_path_core.specs.PathText.{folder_bytes}
use Rattle.dav_path_core.proofs.lists.EntryLemmas.{In-entries}
use Rattle.dav_path_core.proofs.lists.FinMaps.{one_some}
use Rattle.dav_path_core.proofs.lists.MemberLemmas.{In, In-Contains, In-front, In-last, Contains-In}
use Rattle.dav_path_core.proofs.lists.Orders.{path_total}
use Rattle.dav_path_core.proofs.lists.SameMembers.{In-map, In-there}
use Rattle.dav_files_core.specs.declared.memfs.Kind.TheVariants.{Folder}
use Rattle.dav_files_core.specs.Resources.{Resource, ResourceMap, at_path}
use Rattle.dav_files_core.specs.Walks.{IsMapWalk, StandsBehind, Stored, stored_entry}
use Rattle.dav_files_core.proofs.moves.RenamedLemmas.{name_is}
use Rattle.dav_snapshots_core.specs.declared.paths.Met.{Met}
use Rattle.dav_snapshots_core.specs.Private.MetPaths.{AllMet, IsMet, IsWalk, MeetsOne, met_text}

-- ---- the bytes of a path

folder_push : (q : Path) (s : Segment) → folder_bytes (q ++ s ∷ []) ≡ folder_bytes q ++ (s ++ 47 ∷ [])
folder_push q s =
    let with_slash : Segment → List ℕ = λ s. s ++ 47 ∷ [] in
    ap (λ (l : List ℕ). 47 ∷ l) (flat_map-append with_slash q (s ∷ []) ∙ ap (λ (l : List ℕ). flat_map with_slash q ++ l) (flat_map-cons with_slash s [] ∙ append-nil (s ++ 47 ∷ [])))

-- those of its folder, its name, and a slash
pub path_grown : (met : Met) (p : Path) (folder : Option ℕ) (number : ℕ) (name : List ℕ) → IsMet met p folder → folder ≡ Some number → name ≡ unwrap_or (last_or None p) []
    → (met_text met number ++ name) ++ 47 ∷ [] ≡ folder_bytes p
path_grown met p folder number name h is n =
    let m : IsMet met p (Some number) = subst (IsMet met p) is h in
    let same : name ≡ m.1 = name_is p m.0 m.1 name m.3 n in
    ap (λ (s : List ℕ). (met_text met number ++ s) ++ 47 ∷ []) same ∙ ap (λ (t : List ℕ). (t ++ m.1) ++ 47 ∷ []) m.2 ∙ append_assoc (folder_bytes m.0) m.1 (47 ∷ [])
    ∙ sym (folder_push m.0 m.1) ∙ ap folder_bytes (sym m.3)

-- ---- what was met

-- what a walk gives stands in the map
pub in_map : (m : ResourceMap) (all : List Stored) (s : Stored) → IsMapWalk m all → In s all → at_path m s.path ≡ Some s.resource
in_map m all s w i =
    let es = map stored_entry all in
    let e : Path × Resource = (s.path, s.resource) in
    let c = Contains-permutation es (entries m.entries) e (IsPermutation-sym (entries m.entries) es w.all) (Contains-In es e (In-map stored_entry all s i)) in
    In-entries path_total m.entries e (In-Contains (entries m.entries) e c)

module _ (all front rest : List Stored) (s : Stored) (w : IsWalk all) (split : all ≡ front ++ s ∷ rest) where
  here : at_path w.map s.path ≡ Some s.resource
  here = in_map w.map all s w.walked (subst (In s) (sym split) (In-there front s rest))

  before : (f : Stored) → In f front → at_path w.map f.path ≡ Some f.resource
  before f i = in_map w.map all f w.walked (subst (In f) (sym split) (In-front front (s ∷ rest) f i))

  pub is_met : (met : Met) → AllMet met front → IsMet met s.path s.folder
  is_met met h = by s.folder (w.walked.behind front rest s split)
    where
      by : (folder : Option ℕ) → StandsBehind front s.path folder → IsMet met s.path folder
      by None b = b
      by (Some number) b =
          let f : Stored = b.0 in
          let name : Segment = b.1 in
          let is : s.path ≡ f.path ++ name ∷ [] = b.4 in
          let there : at_path w.map (f.path ++ name ∷ []) ≡ Some s.resource = ap (at_path w.map) (sym is) ∙ here in
          let parent = w.shape.parents f.path name s.resource there in
          let same : f.resource ≡ parent.0 = one_some (at_path w.map f.path) f.resource parent.0 (before f (In-Contains front f b.2)) parent.1 in
          let folder : f.resource.node.kind ≡ Folder = ap (λ (r : Resource). r.node.kind) same ∙ parent.2 in
          (f.path, name, ap (met_text met) (sym b.3) ∙ h f b.2 folder, is)

  pub met_more : (old new : Met) → AllMet old front → MeetsOne old new s → AllMet new (front ++ s ∷ [])
  met_more old new h m f c folder = elim (In-last front s f (In-Contains (front ++ s ∷ []) f c)) [
    | inl i ↦ elim (cases_eq f.resource.number s.resource.number) [
      | inl same ↦
          let path : f.path ≡ s.path = w.shape.apart f.path s.path f.resource s.resource (before f i) here same in
          let one : f.resource ≡ s.resource = one_some (at_path w.map s.path) f.resource s.resource (ap (at_path w.map) (sym path) ∙ before f i) here in
          let kind : s.resource.node.kind ≡ Folder = ap (λ (r : Resource). r.node.kind) (sym one) ∙ folder in
          ap (met_text new) same ∙ m.this kind ∙ ap folder_bytes (sym path)
      | inr other ↦ m.others f.resource.number other ∙ h f (Contains-In front f i) folder
    ]
    | inr e ↦ subst (λ (g : Stored). g.resource.node.kind ≡ Folder → met_text new g.resource.number ≡ folder_bytes g.path) e m.this folder
  ]
