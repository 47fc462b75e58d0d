-- What a rename answers, from where an entry is put.
use Rattle.std.proofs.Common.{◌≡◌, ◌⊎◌, inl, inr, ℕ, Bool, true, false, [], ◌∷◌, ◌++◌, Option, Some, None, Result, Ok, Err, refl, sym, ap, ◌∙◌, subst, append_assoc, append-nil}
use Rattle.std.specs.Prelude.{ok_or, unwrap_or, if◌then◌else◌}
use Rattle.std.specs.List.{last_or}
use Rattle.std.proofs.lemmas.Bool.{true≢false}
use Rattle.dav_path_core.specs.declared.errors.FsError.{FsError}
use Rattle.dav_path_core.specs.declared.errors.FsError.TheVariants.{Exists, Forbidden}
use Rattle.dav_path_core.specs.Fronts.{Segment, Path, parent, behind}
use Rattle.dav_files_core.specs.declared.memfs.Kind.TheVariants.{Folder}
use Rattle.dav_path_core.proofs.lists.FinMaps.{one_some, get_same, get_other, dec}
use Rattle.dav_path_core.proofs.lists.Orders.{path_total, path_exact}
use Rattle.dav_files_core.specs.Finding.{refusal_at, has_members}
use Rattle.dav_files_core.specs.Folders.{is_root}
use Rattle.dav_files_core.specs.Moved.{moved_map}
use Rattle.dav_files_core.specs.Outcomes.{Outcome, ◌>>=◌, find_folder, with_other_node, with_modified_time, touched_at}
use Rattle.dav_files_core.specs.Private.Entries.{StandsIn, FindsFolder, put_there}
use Rattle.dav_files_core.specs.Private.TreeCalls.{entry_number}
use Rattle.dav_files_core.specs.Renaming.{rename, relocated_map, put_elsewhere}
use Rattle.dav_files_core.specs.Resources.{Node, Resource, ResourceMap, at_path, IsResourceMap}
use Rattle.dav_files_core.proofs.walks.FoundLemmas.{parent-snoc, folder_there}
use Rattle.dav_path_core.proofs.paths.FrontLemmas.{behind_is, behind_none, none_behind}
use Rattle.dav_files_core.proofs.walks.HasMembersLemmas.{has_member}
use Rattle.dav_files_core.proofs.paths.LengthLemmas.{no_longer}
use Rattle.dav_files_core.proofs.changes.MakingLemmas.{folder_found}
use Rattle.dav_files_core.proofs.changes.PuttingLemmas.{found_number}
use Rattle.dav_files_core.proofs.moves.MovedLemmas.{moved_other}
use Rattle.dav_files_core.proofs.moves.MovingLemmas.{front_there}
use Rattle.dav_files_core.proofs.moves.RelocatingLemmas.{snoc_no_root}

-- a modified time that is set leaves each entry its number
module _ (m : ResourceMap) (q : Path) (a : Resource) (at : at_path m q ≡ Some a) (now : ℕ) where
  abbrev node : Node
  node = record a.node { modified = now }

  abbrev entry : Resource
  entry = record { number = a.number; node = node }

  touched_is : with_modified_time m q now ≡ with_other_node m q a node
  touched_is = ap (touched_at m q now) at

  pub touched_keeps : (p : Path) (f : Resource) → at_path m p ≡ Some f → (f' : Resource) × (at_path (with_modified_time m q now) p ≡ Some f') × (f'.number ≡ f.number)
  touched_keeps p f there = elim (dec path_total path_exact p q) [
    | inl same ↦ (
      entry,
      ap (λ m. at_path m p) touched_is ∙ ap (at_path (with_other_node m q a node)) same ∙ get_same path_total path_exact m.entries q entry,
      ap (λ (r : Resource). r.number) (one_some (at_path m q) a f at (ap (at_path m) (sym same) ∙ there)),
    )
    | inr other ↦ (f, ap (λ m. at_path m p) touched_is ∙ get_other path_total path_exact m.entries q entry p other ∙ there, refl)
  ]

-- ---- where an entry is put
module _ (m : ResourceMap) (from p : Path) (name : Segment) where
  abbrev to : Path
  to = p ++ (name ∷ [])

  abbrev rest : Bool → Bool → Bool → Result ResourceMap FsError
  rest at_root members root =
      if at_root then Err (if root then Forbidden else Exists)
      else (if members then Err Exists
      else (if root then Err Forbidden
      else put_elsewhere m from to (behind from to)))

  -- what a relocation that is done says
  pub record Put (m' : ResourceMap) : Type 0 where
    pub leaf : has_members m to ≡ false
    pub not_up : is_root from ≡ false
    pub put : ((from ≡ to) × (m' ≡ m)) ⊎ ((behind from to ≡ None) × (m' ≡ moved_map m from to))

  pub put : (m' : ResourceMap) → relocated_map m from to ≡ Ok m' → Put m'
  put m' h = by (has_members m to) refl (is_root from) refl (sym (ap (λ b. rest b (has_members m to) (is_root from)) (snoc_no_root p name)) ∙ h)
    where
      how : (o : Option Path) → behind from to ≡ o → put_elsewhere m from to o ≡ Ok m' → ((from ≡ to) × (m' ≡ m)) ⊎ ((behind from to ≡ None) × (m' ≡ moved_map m from to))
      how None e h = inr (e, cc)
      how (Some []) e h = inl (sym (behind_is from to [] e ∙ append-nil from), cc)
      how (Some (s ∷ below)) e h = absurd (cc)

      by : (members : Bool) → has_members m to ≡ members → (root : Bool) → is_root from ≡ root → rest false (has_members m to) (is_root from) ≡ Ok m' → Put m'
      by true e root g h = let both : ◌≡◌ {A = Result ResourceMap FsError} (Err Exists) (Ok m') = ap (λ b. rest false b (is_root from)) (sym e) ∙ h in absurd (cc)
      by false e true g h =
          let both : ◌≡◌ {A = Result ResourceMap FsError} (Err Forbidden) (Ok m') = ap (λ b. rest false false b) (sym g) ∙ ap (λ b. rest false b (is_root from)) (sym e) ∙ h in absurd (cc)
      by false e false g h = record {
        leaf = e;
        not_up = g;
        put = how (behind from to) refl (ap (λ b. rest false false b) (sym g) ∙ ap (λ b. rest false b (is_root from)) (sym e) ∙ h);
      }

module _ (m : ResourceMap) (is_map : IsResourceMap m) (from : Path) (r : Resource) (source : at_path m from ≡ Some r)
    (p : Path) (name : Segment) (f : Resource) (folder : find_folder m p ≡ Ok f) where
  abbrev target : Path
  target = p ++ (name ∷ [])

  abbrev done : ℕ → Path → ResourceMap → Outcome (Unit {0})
  done now q m = Ok (tt, with_modified_time (with_modified_time m (parent from) now) q now)

  in_folder : (now : ℕ) → rename m from target now ≡ (relocated_map m from target >>= done now p)
  in_folder now =
      ap (λ o. ok_or o (refusal_at m from) >>= λ (_ : Resource). find_folder m (parent target) >>= λ (_ : Resource). relocated_map m from target >>= done now (parent target)) source
      ∙ ap (λ q. find_folder m q >>= λ (_ : Resource). relocated_map m from target >>= done now q) (parent-snoc p name)
      ∙ ap (λ (o : Result Resource FsError). o >>= λ (_ : Resource). relocated_map m from target >>= done now p) folder

  module _ (m' : ResourceMap) (h : relocated_map m from target ≡ Ok m') where
    -- the folder of the target stays
    pub target_stays : at_path m' p ≡ Some f
    target_stays = elim ((put m from p name m' h).put) [
      | inl same ↦ ap (λ m. at_path m p) same.1 ∙ (folder_there m p f folder).0
      | inr away ↦
          ap (λ m. at_path m p) away.1
          ∙ moved_other m from target p
          (behind_none from p (λ s e. none_behind from target away.0 (s ++ (name ∷ [])) (ap (λ t. t ++ (name ∷ [])) e ∙ append_assoc from s (name ∷ []))))
          (behind_none target p (λ s e. no_longer p name s e))
          ∙ (folder_there m p f folder).0
    ]

    -- and that of the source
    pub source_stays : (q : Path) (s : Segment) (a : Resource) → from ≡ q ++ (s ∷ []) → at_path m q ≡ Some a → at_path m' q ≡ Some a
    source_stays q s a is at = elim ((put m from p name m' h).put) [
      | inl same ↦ ap (λ m. at_path m q) same.1 ∙ at
      | inr away ↦
          ap (λ m. at_path m q) away.1
          ∙ moved_other m from target q (behind_none from q (λ u e. no_longer q s u (e ∙ ap (λ t. t ++ u) is))) (behind_none target q (λ u e. absurd (full u e)))
          ∙ at
    ]
      where
        full : (u : Path) → ¬ (q ≡ target ++ u)
        full u e = by u (is ∙ ap (λ t. t ++ (s ∷ [])) e ∙ append_assoc target u (s ∷ []))
          where
            member : (x : Segment) (v : Path) → ¬ (from ≡ target ++ (x ∷ v))
            member x v e =
                let next = front_there m is_map (target ++ (x ∷ [])) v r (ap (at_path m) (append_assoc target (x ∷ []) v ∙ sym e) ∙ source) in
                true≢false (sym (has_member m target x next.0 next.1) ∙ (put m from p name m' h).leaf)

            by : (u : Path) → ¬ (from ≡ target ++ (u ++ (s ∷ [])))
            by [] e = member s [] e
            by (x ∷ u) e = member x (u ++ (s ∷ [])) e

    -- the whole call
    pub renamed : (now : ℕ) → rename m from target now ≡ Ok (tt, with_modified_time (with_modified_time m' (parent from) now) p now)
    renamed now = in_folder now ∙ ap (λ (o : Result ResourceMap FsError). o >>= done now p) h

  pub not_renamed : (e : FsError) → relocated_map m from target ≡ Err e → (now : ℕ) → rename m from target now ≡ Err e
  not_renamed e h now = in_folder now ∙ ap (λ (o : Result ResourceMap FsError). o >>= done now p) h

-- what is there finds its folder by its number
pub finds_folder : (m : ResourceMap) → IsResourceMap m → (p : Path) (r : Resource) → at_path m p ≡ Some r → (x : Option ℕ) → StandsIn m p x → FindsFolder m p (Ok x)
finds_folder m is_map p r here None h = h
finds_folder m is_map p r here (Some folder) h =
    let above = is_map.parents h.0 h.1 r (ap (at_path m) (sym h.3) ∙ here) in
    let same : above.0 ≡ h.2 = one_some (at_path m h.0) above.0 h.2 above.1 h.4 in
    (h.0, h.1, h.2, h.3, folder_found m h.0 h.2 h.4 (ap (λ (r : Resource). r.node.kind) (sym same) ∙ above.2), h.5)

-- ---- the whole call, with the target in its folder
pub last_is : (o : Option Segment) (q : Path) (s : Segment) → last_or o (q ++ (s ∷ [])) ≡ Some s
last_is o [] s = refl
last_is o (x ∷ q) s = last_is (Some x) q s

pub name_is : (p q : Path) (s bytes : Segment) → p ≡ q ++ (s ∷ []) → bytes ≡ unwrap_or (last_or None p) [] → bytes ≡ s
name_is p q s bytes is h = h ∙ ap (λ p. unwrap_or (last_or None p) []) is ∙ ap (λ (o : Option Segment). unwrap_or o []) (last_is None q s)

abbrev pub Target : ResourceMap → Path → ℕ → Type 0
Target m p folder = (q : Path) × (s : Segment) × (f : Resource) × (p ≡ q ++ (s ∷ [])) × (find_folder m q ≡ Ok f) × (f.number ≡ folder)

-- what is left where an entry was put elsewhere, and where both folders are in it
pub record Away (m m' : ResourceMap) (from to : Path) (above folder : ℕ) : Type 0 where
  pub upper : (a : Resource) × (at_path m' (parent from) ≡ Some a) × (a.number ≡ above)
  pub lower : (now : ℕ) → (f : Resource) × (at_path (with_modified_time m' (parent from) now) (parent to) ≡ Some f) × (f.number ≡ folder)
  pub done : (now : ℕ) → rename m from to now ≡ Ok (tt, with_modified_time (with_modified_time m' (parent from) now) (parent to) now)

module _ (m : ResourceMap) (is_map : IsResourceMap m) (from : Path) (r : Resource) (source : at_path m from ≡ Some r) (to : Path) (folder : ℕ) (target : Target m to folder) where
  abbrev q : Path
  q = target.0

  abbrev name : Segment
  name = target.1

  module _ (m' : ResourceMap) (h : put_there m from (q ++ (name ∷ [])) ≡ Ok (tt, m')) where
    relocated_is : relocated_map m from (q ++ (name ∷ [])) ≡ Ok m'
    relocated_is = by (relocated_map m from (q ++ (name ∷ []))) h
      where
        by : (o : Result ResourceMap FsError) → ◌≡◌ {A = Outcome (Unit {0})} (o >>= λ (m : ResourceMap). Ok (tt, m)) (Ok (tt, m')) → o ≡ Ok m'
        by (Ok x) h = let pairs : (tt {0}, x) ≡ (tt {0}, m') = cc in ap (λ (x : Unit {0} × ResourceMap). Ok x.1) pairs
        by (Err e) h = absurd (cc)

    pub away : (above : ℕ) → StandsIn m from (Some above) → Away m m' from to above folder
    away above s =
        let parent_from : parent from ≡ s.0 = ap parent s.3 ∙ parent-snoc s.0 s.1 in
        let parent_to : parent to ≡ q = ap parent target.3 ∙ parent-snoc q name in
        let up : at_path m' (parent from) ≡ Some s.2 = ap (at_path m') parent_from ∙ source_stays m is_map from r source q name target.2 target.4 m' relocated_is s.0 s.1 s.2 s.3 s.4 in
        let low : at_path m' (parent to) ≡ Some target.2 = ap (at_path m') parent_to ∙ target_stays m is_map from r source q name target.2 target.4 m' relocated_is in
        record {
          upper = (s.2, up, s.5);
          lower = λ now. let k = touched_keeps m' (parent from) s.2 up now (parent to) target.2 low in (k.0, k.1, k.2 ∙ target.5);
          done = λ now.
              ap (λ to. rename m from to now) target.3 ∙ renamed m is_map from r source q name target.2 target.4 m' relocated_is now
              ∙ ap (λ q. Ok (tt {0}, with_modified_time (with_modified_time m' (parent from) now) q now)) (sym parent_to);
        }

  pub put_named : (bytes : Segment) (outcome : Outcome (Unit {0})) → bytes ≡ unwrap_or (last_or None to) [] → put_there m from (q ++ (bytes ∷ [])) ≡ outcome → put_there m from (q ++ (name ∷ [])) ≡ outcome
  put_named bytes outcome is h = ap (λ (s : Segment). put_there m from (q ++ (s ∷ []))) (sym (name_is to q name bytes target.3 is)) ∙ h

  -- a refusal
  pub rename_refused : (e : FsError) (now : ℕ) → put_there m from (q ++ (name ∷ [])) ≡ Err e → rename m from to now ≡ Err e
  rename_refused e now h = ap (λ to. rename m from to now) target.3 ∙ not_renamed m is_map from r source q name target.2 target.4 e (by (relocated_map m from (q ++ (name ∷ []))) h) now
    where
      by : (o : Result ResourceMap FsError) → ◌≡◌ {A = Outcome (Unit {0})} (o >>= λ (m : ResourceMap). Ok (tt, m)) (Err e) → o ≡ Err e
      by (Ok x) h = absurd (cc)
      by (Err x) h = cc

-- ---- the whole call, by the numbers that it found
-- what it found: the source, and the folder of the target
pub record Ends (m : ResourceMap) (from to : Path) (source folder : ℕ) : Type 0 where
  pub entry : Resource
  pub stands : at_path m from ≡ Some entry
  pub numbered : entry.number ≡ source
  pub target : Target m to folder
  pub above : at_path m target.0 ≡ Some target.2
  pub is_folder : target.2.node.kind ≡ Folder

pub ends : (m : ResourceMap) (from to : Path) (source : ℕ) → Ok source ≡ entry_number m from → (o : Option ℕ) (folder : ℕ) → o ≡ Some folder → FindsFolder m to (Ok o) → Ends m from to source folder
ends m from to source found o folder is finds =
    let here = found_number m from source found in
    let target : Target m to folder = subst (λ (o : Option ℕ). FindsFolder m to (Ok o)) is finds in
    let there = folder_there m target.0 target.2 target.4 in
    record { entry = here.0; stands = here.1; numbered = here.2; target = target; above = there.0; is_folder = there.1 }

module _ (m : ResourceMap) (is_map : IsResourceMap m) (from to : Path) (source folder : ℕ) (e : Ends m from to source folder) where
  -- what is left where the entry was put there by a name, the last of the target's path
  pub went : (name : Segment) → name ≡ unwrap_or (last_or None to) [] → (m' : ResourceMap) → put_there m from (e.target.0 ++ (name ∷ [])) ≡ Ok (tt, m') → (above : ℕ) → StandsIn m from (Some above) → Away m m' from to above folder
  went name is m' put above stands = away m is_map from e.entry e.stands to folder e.target m' (put_named m is_map from e.entry e.stands to folder e.target name _ is put) above stands

  -- and where it was refused
  pub stayed : (name : Segment) → name ≡ unwrap_or (last_or None to) [] → (error : FsError) (now : ℕ) → put_there m from (e.target.0 ++ (name ∷ [])) ≡ Err error → rename m from to now ≡ Err error
  stayed name is error now put = rename_refused m is_map from e.entry e.stands to folder e.target error now (put_named m is_map from e.entry e.stands to folder e.target name _ is put)
