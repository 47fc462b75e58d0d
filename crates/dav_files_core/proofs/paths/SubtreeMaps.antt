-- How what stands at and below a path in a resource map is gathered: what is done and what waits, and the names of members.
use Rattle.std.proofs.Common.{◌≡◌, ◌≢◌, ◌⊎◌, inl, inr, ℕ, true, false, List, [], ◌∷◌, ◌++◌, map, Option, Some, None, is_some, Result, Ok, Err, refl, sym, ap, ◌∙◌, subst}
use Rattle.std.specs.Prelude.{IsSome, T, option_map}
use Rattle.std.specs.List.{list_any}
use Rattle.std.specs.Cmp.{tied_itself}
use Rattle.std.specs.Ordering.{is_lt}
use Rattle.std.specs.FinMap.{entries}
use Rattle.std.specs.FinMap.Entries.{below_all}
use Rattle.std.proofs.lemmas.Bool.{false≢true}
use Rattle.std.proofs.lemmas.Simd.{map-map}
use Rattle.dav_path_core.specs.Fronts.{Segment, Path, segment_cmp, behind, is_front}
use Rattle.dav_path_core.proofs.lists.Every.{Every, first_so, second_so}
use Rattle.dav_path_core.proofs.lists.MemberLemmas.{In}
use Rattle.dav_path_core.proofs.lists.Orders.{segment_total}
use Rattle.dav_path_core.specs.declared.errors.FsError.{FsError}
use Rattle.dav_files_core.specs.declared.memfs.listing.MemFsEntry.{MemFsEntry}
use Rattle.dav_files_core.specs.Listing.{listed_entry, listed_member, read_dir}
use Rattle.dav_files_core.specs.Meta.{Meta as Known, meta_at, meta_of}
use Rattle.dav_files_core.specs.Outcomes.{◌>>=◌, find_folder}
use Rattle.dav_files_core.specs.Finding.{members}
use Rattle.dav_files_core.specs.Resources.{Resource, ResourceMap, at_path, IsResourceMap}
use Rattle.dav_files_core.proofs.listings.DescribingLemmas.{all_stand}
use Rattle.dav_files_core.specs.declared.memfs.MemFsMeta.{MemFsMeta}
use Rattle.dav_path_core.proofs.paths.SubtreePaths.{Later, Apart, counted}

-- a name that is below others is none of them
pub not_below_itself : (k s : Segment) (es : List (Segment × Resource)) → T (below_all segment_cmp k es) → In s (map (λ (e : Segment × Resource). e.0) es) → k ≢ s
not_below_itself k s [] h i = absurd i
not_below_itself k s (e ∷ es) h i = elim i [
  | inl is ↦ λ same. subst T (ap is_lt (ap (segment_cmp k) (is ∙ sym same) ∙ tied_itself segment_total k)) (first_so _ _ h)
  | inr j ↦ not_below_itself k s es (second_so _ _ h) j
]

-- something stands at the name of a member
pub name_stands : (m : ResourceMap) (p : Path) (s : Segment) → In s (map (λ (e : Segment × Resource). e.0) (entries (members m p))) → IsSome (at_path m (p ++ (s ∷ [])))
name_stands m p s i = by (entries (members m p)) (all_stand m p) i
  where
    by : (es : List (Segment × Resource)) → Every (λ (e : Segment × Resource). at_path m (p ++ (e.0 ∷ [])) ≡ Some e.1) es → In s (map (λ (e : Segment × Resource). e.0) es)
        → IsSome (at_path m (p ++ (s ∷ [])))
    by [] h i = absurd i
    by (e ∷ es) h i = elim i [
      | inl is ↦ subst (λ t. IsSome (at_path m (p ++ (t ∷ [])))) is (ap is_some h.0)
      | inr j ↦ by es h.1 j
    ]

pub record Walking (m : ResourceMap) (p : Path) (done waiting : List Path) : Type 0 where
  pub stand : (q : Path) → In q done ⊎ In q waiting → (is_front p q ≡ true) × IsSome (at_path m q)
  pub all : IsResourceMap m → (q : Path) → is_front p q ≡ true → IsSome (at_path m q) → In q done ⊎ ((x : Path) × In x waiting × (is_front x q ≡ true))
  pub order : Later (λ q r. is_front r q ≡ false) done
  pub behind : (q x : Path) → In q done → In x waiting → is_front x q ≡ false
  pub apart : Later Apart waiting

-- how many entries are at or below one of the paths
unfoldable pub left_below : ResourceMap → List Path → ℕ
left_below m waiting = counted (λ q. list_any (λ x. is_front x q) waiting) (map (λ (e : Path × Resource). e.0) (entries m.entries))

-- the names that a listing has are those of the members
listed_names : (m : ResourceMap) (p : Path) (told : List (Segment × Known)) → read_dir m p ≡ Ok told
    → map (λ (e : Segment × Known). e.0) told ≡ map (λ (e : Segment × Resource). e.0) (entries (members m p))
listed_names m p told h = by (find_folder m p) h
  where
    by : (r : Result Resource FsError) → (r >>= λ (_ : Resource). Ok (map listed_member (entries (members m p)))) ≡ Ok told
        → map (λ (e : Segment × Known). e.0) told ≡ map (λ (e : Segment × Resource). e.0) (entries (members m p))
    by (Ok r) e =
        let same : map listed_member (entries (members m p)) ≡ told = cc in
        ap (map (λ (e : Segment × Known). e.0)) (sym same) ∙ map-map (λ (e : Segment × Known). e.0) listed_member (entries (members m p))
    by (Err x) e = absurd (cc)

pub names_told : (m : ResourceMap) (p : Path) (items : List MemFsEntry) → read_dir m p ≡ Ok (map listed_entry items)
    → map (λ e. e.name) items ≡ map (λ (e : Segment × Resource). e.0) (entries (members m p))
names_told m p items h = sym (map-map (λ (e : Segment × Known). e.0) listed_entry items) ∙ listed_names m p (map listed_entry items) h

-- something is known of what stands there
pub stands_as : (result : Option MemFsMeta) (o : Option Resource) → option_map meta_of result ≡ option_map (λ (r : Resource). meta_at r.node) o → is_some result ≡ true → IsSome o
stands_as (Some x) (Some r) h e = refl
stands_as (Some x) None h e = absurd (cc)
stands_as None o h e = absurd (false≢true e)
