-- What finding says of a path, from what its folder is.
use Rattle.std.proofs.Common.{◌≡◌, List, [], ◌∷◌, ◌++◌, map, Option, Some, None, Result, Ok, Err, refl, sym, ap, ◌∙◌, append_assoc, append-nil}
use Rattle.std.specs.Prelude.{ok_or}
use Rattle.std.specs.Option.{option_or, option_map_or}
use Rattle.dav_path_core.specs.declared.errors.FsError.{FsError}
use Rattle.dav_path_core.specs.declared.errors.FsError.TheVariants.{NotFound, Forbidden}
use Rattle.dav_files_core.specs.declared.memfs.Kind.{Kind}
use Rattle.dav_files_core.specs.declared.memfs.Kind.TheVariants.{Folder, File}
use Rattle.dav_files_core.specs.Finding.{find, first_found, refusal_at, refusal_below}
use Rattle.dav_files_core.specs.Outcomes.{◌>>=◌, find_folder, only_folder}
use Rattle.dav_files_core.specs.Private.TreeCalls.{IsRefusedAlike}
use Rattle.dav_files_core.specs.Resources.{Resource, ResourceMap, at_path, IsResourceMap}
use Rattle.dav_path_core.specs.Fronts.{Segment, Path, parent, shorter_fronts}
use Rattle.dav_path_core.proofs.lists.FinMaps.{none_some, one_some}

pub parent-append : (p : Path) (s : Segment) (rest : Path) → parent (p ++ (s ∷ rest)) ≡ p ++ parent (s ∷ rest)
parent-append [] s rest = refl
parent-append (x ∷ []) s rest = refl
parent-append (x ∷ y ∷ p) s rest = ap (λ q. x ∷ q) (parent-append (y ∷ p) s rest)

pub parent-snoc : (p : Path) (s : Segment) → parent (p ++ (s ∷ [])) ≡ p
parent-snoc p s = parent-append p s [] ∙ append-nil p

pub shorter_fronts-snoc : (p : Path) (s : Segment) → shorter_fronts (p ++ (s ∷ [])) ≡ p ∷ shorter_fronts p
shorter_fronts-snoc [] s = refl
shorter_fronts-snoc (x ∷ p) s = ap (λ (fs : List Path). map (λ f. x ∷ f) fs ++ ([] ∷ [])) (shorter_fronts-snoc p s)

module _ (m : ResourceMap) (p : Path) where
  pub find_there : (r : Resource) → at_path m p ≡ Some r → find m p ≡ Ok r
  find_there r here = ap (λ o. ok_or o (refusal_at m p)) here

  pub found_there : (r : Resource) → find m p ≡ Ok r → at_path m p ≡ Some r
  found_there r h = by (at_path m p) refl
    where
      by : (o : Option Resource) → at_path m p ≡ o → o ≡ Some r
      by None e = let both : ◌≡◌ {A = Result Resource FsError} (Ok r) (Err (refusal_at m p)) = sym h ∙ ap (λ o. ok_or o (refusal_at m p)) e in absurd (cc)
      by (Some x) e = let both : ◌≡◌ {A = Result Resource FsError} (Ok r) (Ok x) = sym h ∙ ap (λ o. ok_or o (refusal_at m p)) e in cc

  pub not_there : (e : FsError) → find m p ≡ Err e → at_path m p ≡ None
  not_there e h = by (at_path m p) refl
    where
      by : (o : Option Resource) → at_path m p ≡ o → o ≡ None
      by None is = refl
      by (Some r) is = let both : ◌≡◌ {A = Result Resource FsError} (Err e) (Ok r) = sym h ∙ ap (λ o. ok_or o (refusal_at m p)) is in absurd (cc)

  pub folder_there : (r : Resource) → find_folder m p ≡ Ok r → (at_path m p ≡ Some r) × (r.node.kind ≡ Folder)
  folder_there r h = by (at_path m p) refl
    where
      by_kind : (x : Resource) → at_path m p ≡ Some x → (k : Kind) → x.node.kind ≡ k → ◌≡◌ {A = Result Resource FsError} (elim k [ Folder ↦ Ok x | File ↦ Err Forbidden ]) (Ok r) → (at_path m p ≡ Some r) × (r.node.kind ≡ Folder)
      by_kind x here Folder kind same = let is : x ≡ r = cc in (here ∙ ap Some is, ap (λ (r : Resource). r.node.kind) (sym is) ∙ kind)
      by_kind x here File kind same = absurd (cc)

      by : (o : Option Resource) → at_path m p ≡ o → (at_path m p ≡ Some r) × (r.node.kind ≡ Folder)
      by None e = let both : ◌≡◌ {A = Result Resource FsError} (Ok r) (Err (refusal_at m p)) = sym h ∙ ap (λ o. ok_or o (refusal_at m p) >>= only_folder) e in absurd (cc)
      by (Some x) e = by_kind x e x.node.kind refl (sym (ap (λ o. ok_or o (refusal_at m p) >>= only_folder) e) ∙ h)

  -- where nothing is, the folder says why
  pub find_below : (s : Segment) → at_path m (p ++ (s ∷ [])) ≡ None → find m (p ++ (s ∷ [])) ≡ (find_folder m p >>= λ _. Err NotFound)
  find_below s none =
      ap (λ o. ok_or o (refusal_at m (p ++ (s ∷ [])))) none
      ∙ ap (λ fs. Err (option_map_or (λ (r : Resource). refusal_below r.node.kind) (first_found m fs) NotFound)) (shorter_fronts-snoc p s)
      ∙ by (at_path m p)
    where
      by_kind : (x : Resource) (k : Kind) → ◌≡◌ {A = Result Resource FsError} (Err (refusal_below k)) (elim k [ Folder ↦ Ok x | File ↦ Err Forbidden ] >>= λ (_ : Resource). Err NotFound)
      by_kind x Folder = refl
      by_kind x File = refl

      by : (o : Option Resource) → ◌≡◌ {A = Result Resource FsError} (Err (option_map_or (λ (r : Resource). refusal_below r.node.kind) (option_or o (first_found m (shorter_fronts p))) NotFound))
          (ok_or o (refusal_at m p) >>= only_folder >>= λ (_ : Resource). Err NotFound)
      by None = refl
      by (Some x) = by_kind x x.node.kind

module _ (m : ResourceMap) (is_map : IsResourceMap m) where
  -- what is refused is refused further down
  one_on : (p : Path) (e : FsError) → find m p ≡ Err e → (s : Segment) → find m (p ++ (s ∷ [])) ≡ Err e
  one_on p e h s = find_below m p s (by (at_path m (p ++ (s ∷ []))) refl) ∙ ap (λ (f : Result Resource FsError). f >>= only_folder >>= λ (_ : Resource). Err NotFound) h
    where
      by : (o : Option Resource) → at_path m (p ++ (s ∷ [])) ≡ o → o ≡ None
      by None is = refl
      by (Some r) is = let above = is_map.parents p s r is in none_some (at_path m p) above.0 (not_there m p e h) above.1

  all_on : (p : Path) (e : FsError) → find m p ≡ Err e → (rest : Path) → find m (p ++ rest) ≡ Err e
  all_on p e h [] = ap (find m) (append-nil p) ∙ h
  all_on p e h (s ∷ rest) = ap (find m) (sym (append_assoc p (s ∷ []) rest)) ∙ all_on (p ++ (s ∷ [])) e (one_on p e h s) rest

  pub lost_below : (p : Path) (e : FsError) → find m p ≡ Err e → (s : Segment) (rest : Path) → IsRefusedAlike m (p ++ (s ∷ rest)) e
  lost_below p e h s rest = (
    all_on p e h (s ∷ rest),
    ap (find_folder m) (parent-append p s rest) ∙ ap (λ (f : Result Resource FsError). f >>= only_folder) (all_on p e h (parent (s ∷ rest))),
  )

  pub refused_below : (p : Path) (e : FsError) → IsRefusedAlike m p e → (rest : Path) → IsRefusedAlike m (p ++ rest) e
  refused_below p e h [] = (ap (find m) (append-nil p) ∙ h.0, ap (λ q. find_folder m (parent q)) (append-nil p) ∙ h.1)
  refused_below p e h (s ∷ rest) = lost_below p e h.0 s rest

-- nothing is below a file
pub file_stuck : (m : ResourceMap) → IsResourceMap m → (p : Path) (s : Segment) (r : Resource) → at_path m p ≡ Some r → r.node.kind ≡ File → at_path m (p ++ (s ∷ [])) ≡ None
file_stuck m is_map p s r here file = by (at_path m (p ++ (s ∷ []))) refl
  where
    by : (o : Option Resource) → at_path m (p ++ (s ∷ [])) ≡ o → o ≡ None
    by None e = refl
    by (Some x) e =
        let above = is_map.parents p s x e in
        let same : above.0 ≡ r = one_some (at_path m p) above.0 r above.1 here in
        let both : Folder ≡ File = sym above.2 ∙ ap (λ (r : Resource). r.node.kind) same ∙ file in
        absurd (cc)
