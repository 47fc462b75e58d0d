-- What is listed for names and numbers is what is known of the members.
use Rattle.std.proofs.Common.{◌≡◌, inl, ℕ, zero, suc, ◌<◌, List, [], ◌∷◌, ◌++◌, length, map, get_or, Vec, Global, Some, Result, Ok, Err, MatchResult, refl, sym, ap, ◌∙◌, subst, arith}
use Rattle.std.specs.FinMap.{entries, get}
use Rattle.std.specs.Prelude.{is_ok}
use Rattle.dav_path_core.specs.StoreAnswers.{TellsOutcome}
use Rattle.dav_path_core.specs.declared.errors.FsError.{FsError}
use Rattle.dav_path_core.specs.declared.errors.FsError.TheVariants.{InsufficientStorage}
use Rattle.dav_path_core.specs.Fronts.{Segment, Path}
use Rattle.dav_path_core.proofs.lists.Every.{Every, Every-map, get_each}
use Rattle.dav_path_core.proofs.lists.Orders.{segment_total}
use Rattle.dav_files_core.specs.declared.memfs.Kind.TheVariants.{Folder}
use Rattle.dav_files_core.specs.declared.memfs.listing.MemFsEntry.{MemFsEntry}
use Rattle.dav_files_core.specs.Finding.{members}
use Rattle.dav_files_core.specs.Listing.{listed_member, listed_entry, read_dir}
use Rattle.dav_files_core.specs.Outcomes.{◌>>=◌}
use Rattle.dav_files_core.specs.Private.Entries.{HasNumber}
use Rattle.dav_files_core.specs.Private.Listed.{numbered_member, AllNumbers, IsListedAs, Described}
use Rattle.dav_files_core.specs.Resources.{Resource, ResourceMap, at_path}
use Rattle.dav_files_core.proofs.changes.MakingLemmas.{folder_found}
use Rattle.dav_files_core.proofs.listings.MemberLemmas.{get-members}

module _ (m : ResourceMap) where
  pub number_at : (xs : List (Segment × ℕ)) → AllNumbers m xs → (k : ℕ) (d : Segment × ℕ) → k < length xs → HasNumber m (get_or xs k d).1
  number_at [] all k d inside = absurd (omega arith)
  number_at (x ∷ xs) all zero d inside = all.0
  number_at (x ∷ xs) all (suc k) d inside = number_at xs all.1 k d (omega arith)

  pub Described-push : (xs : List (Segment × ℕ)) (es : List MemFsEntry) (x : Segment × ℕ) (e : MemFsEntry) → Described m xs es → IsListedAs m x e → Described m (xs ++ (x ∷ [])) (es ++ (e ∷ []))
  Described-push [] [] x e h one = (one, tt)
  Described-push [] (f ∷ es) x e h one = absurd h
  Described-push (y ∷ xs) [] x e h one = absurd h
  Described-push (y ∷ xs) (f ∷ es) x e h one = (h.0, Described-push xs es x e h.1 one)

  module _ (p : Path) where
    abbrev Stand : List (Segment × Resource) → Type 0
    Stand es = Every (λ (e : Segment × Resource). at_path m (p ++ (e.0 ∷ [])) ≡ Some e.1) es

    pub all_stand : Stand (entries (members m p))
    all_stand = Every-map (λ (e : Segment × Resource) (h : get (members m p) e.0 ≡ Some e.1). sym (get-members m p e.0) ∙ h) (entries (members m p)) (get_each segment_total (members m p))

    all_numbers : (es : List (Segment × Resource)) → Stand es → AllNumbers m (map numbered_member es)
    all_numbers [] h = tt
    all_numbers (e ∷ es) h = ((p ++ (e.0 ∷ []), e.1, h.0, refl), all_numbers es h.1)

    pub members_known : (pairs : List (Segment × ℕ)) → pairs ≡ map numbered_member (entries (members m p)) → AllNumbers m pairs
    members_known pairs is = subst (AllNumbers m) (sym is) (all_numbers (entries (members m p)) all_stand)

    same_list : (es : List (Segment × Resource)) → Stand es → (vs : List MemFsEntry) → Described m (map numbered_member es) vs → map listed_member es ≡ map listed_entry vs
    same_list [] h [] d = refl
    same_list [] h (v ∷ vs) d = absurd d
    same_list (e ∷ es) h [] d = absurd d
    same_list (e ∷ es) h (v ∷ vs) d =
        let rest = same_list es h.1 vs d.1 in
        let meta = d.0.1 (p ++ (e.0 ∷ [])) e.1 h.0 refl in
        λ i. (sym d.0.0 i, sym meta i) ∷ rest i

    -- what a listing answers
    pub listing_answer : (r : Resource) → at_path m p ≡ Some r → r.node.kind ≡ Folder → (pairs : List (Segment × ℕ)) → pairs ≡ map numbered_member (entries (members m p))
        → (result : Result (Vec MemFsEntry Global) FsError) → MatchResult result (λ v. Described m pairs v.items) (λ e. e ≡ InsufficientStorage)
        → TellsOutcome (λ v. map listed_entry v.items) result (read_dir m p)
    listing_answer r here kind pairs is (Ok v) h =
        ap (λ (o : Result Resource FsError). o >>= λ (_ : Resource). Ok (map listed_member (entries (members m p)))) (folder_found m p r here kind)
        ∙ ap (λ xs. Ok xs) (same_list (entries (members m p)) all_stand v.items (subst (λ xs. Described m xs v.items) is h))
    listing_answer r here kind pairs is (Err e) h =
        inl (h, ap is_ok (ap (λ (o : Result Resource FsError). o >>= λ (_ : Resource). Ok (map listed_member (entries (members m p)))) (folder_found m p r here kind)))
