-- What a walk knows of what stands at its places.
use Rattle.std.proofs.Common.{◌≡◌, inl, inr, ◌↔◌, Bool, true, false, List, [], ◌∷◌, ◌++◌, map, Some, Result, Ok, Err, refl, sym, ap, ◌∙◌, subst}
use Rattle.std.specs.Prelude.{IfOk, IsTrue, reverse}
use Rattle.std.specs.FinMap.{entries}
use Rattle.std.proofs.lemmas.Bool.{true≢false}
use Rattle.dav_path_core.specs.declared.errors.FsError.{FsError}
use Rattle.dav_path_core.specs.Fronts.{Segment, Path}
use Rattle.dav_path_core.proofs.lists.Every.{Every}
use Rattle.dav_path_core.proofs.lists.MemberLemmas.{In, In-Contains, Contains-In}
use Rattle.dav_path_core.proofs.paths.SubtreePaths.{in_either, in_left, in_right, in_one}
use Rattle.dav_files_core.specs.declared.memfs.Kind.{Kind}
use Rattle.dav_files_core.specs.declared.memfs.Kind.TheVariants.{File, Folder}
use Rattle.dav_files_core.specs.declared.memfs.listing.MemFsEntry.{MemFsEntry}
use Rattle.dav_files_core.specs.Finding.{members}
use Rattle.dav_files_core.specs.Listing.{listed_entry, listed_member, read_dir}
use Rattle.dav_files_core.specs.Meta.{Meta}
use Rattle.dav_files_core.specs.Outcomes.{◌>>=◌, find_folder}
use Rattle.dav_files_core.specs.Resources.{IsResourceMap, Resource, ResourceMap, at_path, is_folder}
use Rattle.dav_files_core.proofs.listings.DescribingLemmas.{all_stand}
use Rattle.dav_session_core.specs.declared.session.subtrees.Place.{Place}
use Rattle.dav_faults_core.specs.declared.faults.Fault.TheVariants as fault
use Rattle.dav_session_core.specs.Questions.{LacksKind}
use Rattle.dav_session_core.proofs.SubtreeLemmas.{none_listed, plain_nowhere}
use Rattle.dav_session_core.specs.MemberPaths.{paths_in}
use Rattle.dav_session_core.specs.Private.WalkPlaces.{AreToldPlaces, IsToldPlace, is_listed_folder, place_path}
use Rattle.dav_session_core.proofs.WalkOrderLemmas.{from_back}

pub folder_told : (b : Bool) (k : Kind) → IsTrue b ↔ (k ≡ Folder) → b ≡ is_folder k
folder_told true Folder h = refl
folder_told true File h = absurd (let is = h.0 refl in cc)
folder_told false Folder h = absurd (let is : false ≡ true = h.1 refl in cc)
folder_told false File h = refl

-- what is listed of members is what is known of them
entries_told : (m : ResourceMap) (p : Path) (items : List MemFsEntry) → read_dir m p ≡ Ok (map listed_entry items)
    → map listed_member (entries (members m p)) ≡ map listed_entry items
entries_told m p items h = by (find_folder m p) h
  where
    by : (r : Result Resource FsError)
        → (r >>= λ (_ : Resource). Ok (map listed_member (entries (members m p)))) ≡ Ok (map listed_entry items)
        → map listed_member (entries (members m p)) ≡ map listed_entry items
    by (Ok r) e = cc
    by (Err x) e = absurd (cc)

module _ (m : ResourceMap) (p : Path) (is_map : IsResourceMap m) where
  known_at : (es : List (Segment × Resource)) (items : List MemFsEntry) (places : List Place)
      → Every (λ (e : Segment × Resource). at_path m (p ++ (e.0 ∷ [])) ≡ Some e.1) es
      → map listed_member es ≡ map listed_entry items
      → map place_path places ≡ paths_in p (map (λ (e : MemFsEntry). e.name) items)
      → map (λ (w : Place). w.folder) places ≡ map is_listed_folder items
      → (place : Place) → In place places → IsToldPlace m place
  known_at es items [] stand listed paths kinds place i = absurd i
  known_at es [] (w ∷ ws) stand listed paths kinds place i = absurd (cc)
  known_at [] (item ∷ items) (w ∷ ws) stand listed paths kinds place i = absurd (cc)
  known_at (e ∷ es) (item ∷ items) (w ∷ ws) stand listed paths kinds place i = elim i [
    | inl is ↦ subst (IsToldPlace m) is now
    | inr j ↦ known_at es items ws stand.1 later paths_later kinds_later place j
  ]
    where
      later : map listed_member es ≡ map listed_entry items
      later = cc

      paths_later : map place_path ws ≡ paths_in p (map (λ (e : MemFsEntry). e.name) items)
      paths_later = cc

      kinds_later : map (λ (w : Place). w.folder) ws ≡ map is_listed_folder items
      kinds_later = cc

      first : listed_member e ≡ listed_entry item
      first = cc

      path : place_path w ≡ p ++ (item.name ∷ [])
      path = cc

      kind : w.folder ≡ is_folder item.meta.kind
      kind = cc

      stands : at_path m (place_path w) ≡ Some e.1
      stands = ap (at_path m) (path ∙ ap (λ (x : Segment × Meta). p ++ (x.0 ∷ [])) (sym first)) ∙ stand.0

      no_folder : w.folder ≡ false → (r : Resource) → at_path m (place_path w) ≡ Some r
          → ¬ (r.node.kind ≡ Folder)
      no_folder file r there folder =
          let same : r ≡ e.1 = (let both = sym there ∙ stands in cc) in
          true≢false (ap is_folder (sym folder) ∙ ap (λ (x : Resource). is_folder x.node.kind) same
          ∙ ap (λ (x : Segment × Meta). is_folder x.1.kind) first ∙ sym kind ∙ file)

      now : IsToldPlace m w
      now file =
          let lacks : LacksKind Folder m (place_path w) fault.NotFound = inr (refl, no_folder file) in (
            sym (none_listed m (place_path w) fault.NotFound refl is_map lacks),
            plain_nowhere m (place_path w) fault.NotFound refl is_map lacks,
          )

  pub known_members : (items : List MemFsEntry) (places : List Place) → read_dir m p ≡ Ok (map listed_entry items)
      → map place_path places ≡ paths_in p (map (λ (e : MemFsEntry). e.name) items)
      → map (λ (w : Place). w.folder) places ≡ map is_listed_folder items
      → AreToldPlaces m places
  known_members items places h paths kinds place i =
      known_at (entries (members m p)) items places (all_stand m p) (entries_told m p items h) paths kinds place (In-Contains places place i)

pub if_both : {A E : Type 0} (result : Result A E) (P Q S : A → Type 0) → ((x : A) → P x → Q x → S x)
    → IfOk result P → IfOk result Q → IfOk result S
if_both (Ok x) P Q S f p q = f x p q
if_both (Err e) P Q S f p q = tt

module _ (m : ResourceMap) where
  -- a walk begins where anything may stand
  pub begin_known : (place : Place) (none waiting : List Place) → none ≡ [] → waiting ≡ none ++ (place ∷ []) → place.folder ≡ true → AreToldPlaces m waiting
  begin_known place none waiting n is folder other i file =
      let one : In other (place ∷ []) = subst (In other) (is ∙ ap (λ xs. xs ++ (place ∷ [])) n) (In-Contains waiting other i) in
      absurd (true≢false (sym folder ∙ ap (λ (w : Place). w.folder) (in_one other place one) ∙ file))

  module _ (waiting rest : List Place) (place : Place) (was : waiting ≡ rest ++ (place ∷ [])) (known : AreToldPlaces m waiting) (m' : ResourceMap) (same : m' ≡ m) where
    pub now_known : IsToldPlace m' place
    now_known = subst (λ n. IsToldPlace n place) (sym same)
        (known place (Contains-In waiting place (subst (In place) (sym was) (in_right place rest (place ∷ []) (inl refl)))))

    pub stay_known : (members turned waiting' : List Place) → turned ≡ reverse members → waiting' ≡ rest ++ turned → AreToldPlaces m' members → AreToldPlaces m waiting'
    stay_known members turned waiting' turns is new other i =
        elim (in_either other rest turned (subst (In other) is (In-Contains waiting' other i))) [
          | inl j ↦ known other (Contains-In waiting other (subst (In other) (sym was) (in_left other rest (place ∷ []) j)))
          | inr j ↦ subst (λ n. IsToldPlace n other) same
              (new other (Contains-In members other (from_back other members (subst (In other) turns j))))
        ]
