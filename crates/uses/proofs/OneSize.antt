-- What stands at a path has one size.
use Rattle.std.proofs.Common.{◌≡◌, ℕ, ◌+◌, List, [], ◌∷◌, Result, Ok, Err, refl, sym, ap, ◌∙◌, subst, arith}
use Rattle.std.specs.Prelude.{map}
use Rattle.std.specs.FinMap.{entries}
use Rattle.dav_path_core.specs.declared.errors.FsError.{FsError}
use Rattle.dav_path_core.specs.declared.errors.FsError.TheVariants.{Forbidden}
use Rattle.dav_path_core.specs.Fronts.{Segment, Path}
use Rattle.dav_files_core.specs.declared.memfs.Kind.{Kind}
use Rattle.dav_files_core.specs.declared.memfs.Kind.TheVariants.{Folder, File}
use Rattle.dav_files_core.specs.Describing.{metadata}
use Rattle.dav_files_core.specs.Finding.{members, find}
use Rattle.dav_files_core.specs.Listing.{listed_member, read_dir}
use Rattle.dav_files_core.specs.Meta.{Meta, meta_at}
use Rattle.dav_files_core.specs.Outcomes.{◌>>=◌, only_folder}
use Rattle.dav_files_core.specs.Resources.{Resource, ResourceMap}
use Rattle.uses.specs.Sizes.{HasSize, HaveSize, file, folder, nothing, each, member_paths}

same_answer : {A : Type 0} (o : Result A FsError) (x y : A) → o ≡ Ok x → o ≡ Ok y → x ≡ y
same_answer o x y e h = let both : Ok x ≡ o = sym e in cc

not_both : (kind : Kind) → kind ≡ Folder → kind ≡ File → ⊥
not_both Folder e h = absurd (cc)
not_both File e h = absurd (cc)

module _ (m : ResourceMap) where
  -- no file is listed
  not_listed : (p : Path) (meta : Meta) (es : List (Segment × Meta)) → metadata m p ≡ Ok meta → meta.kind ≡ File → read_dir m p ≡ Ok es → ⊥
  not_listed p meta es = by (find m p)
    where
      kinds : (kind : Kind) (r : Resource) (meta : Meta) → r.node.kind ≡ kind → meta_at r.node ≡ meta → meta.kind ≡ File
          → ((elim kind [ Folder ↦ Ok r | File ↦ Err Forbidden ]) >>= λ (_ : Resource). Ok (map listed_member (entries (members m p)))) ≡ Ok es → ⊥
      kinds Folder r meta is told kind lists = not_both r.node.kind is (ap (λ (x : Meta). x.kind) told ∙ kind)
      kinds File r meta is told kind lists = absurd (cc)

      by : (o : Result Resource FsError) → (o >>= λ (r : Resource). Ok (meta_at r.node)) ≡ Ok meta → meta.kind ≡ File → ((o >>= only_folder) >>= λ (_ : Resource). Ok (map listed_member (entries (members m p)))) ≡ Ok es → ⊥
      by (Ok r) told kind lists = let same : meta_at r.node ≡ meta = cc in kinds r.node.kind r meta refl same kind lists
      by (Err e) told kind lists = absurd (cc)

  file_size : (p : Path) (meta : Meta) → metadata m p ≡ Ok meta → meta.kind ≡ File → (other : ℕ) → HasSize m p other → meta.length ≡ other
  file_size p meta is kind other (file q meta' is' kind') = ap (λ (x : Meta). x.length) (same_answer (metadata m p) meta meta' is is')
  file_size p meta is kind other (folder q es size lists all) = absurd (not_listed p meta es is kind lists)

  folder_size : (p : Path) (es : List (Segment × Meta)) → read_dir m p ≡ Ok es → (other : ℕ) → HasSize m p other → HaveSize m (member_paths p es) other
  folder_size p es lists other (file q meta is kind) = absurd (not_listed p meta es is kind lists)
  folder_size p es lists other (folder q es' size lists' all) = subst (λ es. HaveSize m (member_paths p es) other) (same_answer (read_dir m p) es' es lists' lists) all

  no_size : (other : ℕ) → HaveSize m [] other → 0 ≡ other
  no_size other nothing = refl

  first_and_rest : (p : Path) (ps : List Path) (other : ℕ) → HaveSize m (p ∷ ps) other → (a : ℕ) × (b : ℕ) × HasSize m p a × HaveSize m ps b × (a + b ≡ other)
  first_and_rest p ps other (each q qs a b one rest) = (a, b, one, rest, refl)

  mutual
    pub one_size : (p : Path) (size : ℕ) → HasSize m p size → (other : ℕ) → HasSize m p other → size ≡ other
    one_size p size (file q meta is kind) other h = file_size p meta is kind other h
    one_size p size (folder q es n lists all) other h = one_size_each (member_paths p es) size all other (folder_size p es lists other h)

    one_size_each : (ps : List Path) (size : ℕ) → HaveSize m ps size → (other : ℕ) → HaveSize m ps other → size ≡ other
    one_size_each ps size nothing other h = no_size other h
    one_size_each ps size (each p qs a b one rest) other h =
        let x = first_and_rest p qs other h in
        let first = one_size p a one x.0 x.2 in
        let others = one_size_each qs b rest x.1 x.3 in
        let sum = x.4 in
        omega arith
