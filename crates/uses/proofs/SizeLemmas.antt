-- Sizes of lists of paths, and what a listing tells of sizes.
use Rattle.std.proofs.Common.{◌≡◌, ℕ, zero, suc, ◌+◌, ◌<◌, List, [], ◌∷◌, ◌++◌, length, map, get_or, Option, Some, Result, Ok, Err, refl, sym, ap, ◌∙◌, subst, arith, Bool, true, false, IsTrue, ◌↔◌, IfOk}
use Rattle.std.specs.Prelude.{ok_or}
use Rattle.std.specs.FinMap.{entries}
use Rattle.std.proofs.lemmas.Bool.{true≢false, false≢true}
use Rattle.dav_path_core.specs.declared.errors.FsError.{FsError}
use Rattle.dav_path_core.specs.Fronts.{Segment, Path}
use Rattle.dav_path_core.proofs.lists.Every.{Every}
use Rattle.dav_files_core.specs.declared.memfs.Kind.{Kind}
use Rattle.dav_files_core.specs.declared.memfs.Kind.TheVariants.{Folder, File}
use Rattle.dav_files_core.specs.Describing.{metadata}
use Rattle.dav_files_core.specs.Finding.{members, refusal_at}
use Rattle.dav_files_core.specs.Listing.{listed_member, read_dir}
use Rattle.dav_files_core.specs.Meta.{Meta, meta_at}
use Rattle.dav_files_core.specs.Outcomes.{◌>>=◌, find_folder}
use Rattle.dav_files_core.specs.Resources.{Resource, ResourceMap, at_path}
use Rattle.dav_files_core.proofs.listings.DescribingLemmas.{all_stand}
use Rattle.uses.specs.Sizes.{HasSize, HaveSize, file, folder, nothing, each, member_paths}

map_joined : {A : Type 0} (f : A → Path) (xs ys : List A) → map f (xs ++ ys) ≡ map f xs ++ map f ys
map_joined f [] ys = refl
map_joined f (x ∷ xs) ys = ap (λ ps. f x ∷ ps) (map_joined f xs ys)

module _ (m : ResourceMap) where
  pub parted : (xs ys : List Path) (n : ℕ) → HaveSize m (xs ++ ys) n → (a : ℕ) × (b : ℕ) × HaveSize m xs a × HaveSize m ys b × (a + b ≡ n)
  parted [] ys n h = (0, n, nothing, h, omega arith)
  parted (x ∷ xs) ys n (each p ps size rest one others) =
      let h = parted xs ys rest others in
      let sum = h.4 in
      (size + h.0, h.1, each x xs size h.0 one h.2, h.3, omega arith)

  pub joined : (xs ys : List Path) (a b : ℕ) → HaveSize m xs a → HaveSize m ys b → HaveSize m (xs ++ ys) (a + b)
  joined [] ys a b nothing k = let sum : b ≡ 0 + b = omega arith in subst (HaveSize m ys) sum k
  joined (x ∷ xs) ys a b (each p ps size rest one others) k =
      let sum : size + (rest + b) ≡ (size + rest) + b = omega arith in
      subst (HaveSize m (x ∷ (xs ++ ys))) sum (each x (xs ++ ys) size (rest + b) one (joined xs ys rest b others k))

  pub alone : (p : Path) (n : ℕ) → HasSize m p n → HaveSize m (p ∷ []) n
  alone p n h = let sum : n + 0 ≡ n = omega arith in subst (HaveSize m (p ∷ [])) sum (each p [] n 0 h nothing)

  pub one_path : (p : Path) (n : ℕ) → HaveSize m (p ∷ []) n → HasSize m p n
  one_path p n (each q ps size rest one nothing) = let sum : size ≡ size + 0 = omega arith in subst (HasSize m p) sum one

  -- what a listing tells of a member is what is known at its path
  abbrev pub Known : Path → Segment × Meta → Type 0
  Known p member = metadata m (p ++ (member.0 ∷ [])) ≡ Ok member.1

  all_known : (p : Path) (es : List (Segment × Resource)) → Every (λ (e : Segment × Resource). at_path m (p ++ (e.0 ∷ [])) ≡ Some e.1) es → Every (Known p) (map listed_member es)
  all_known p [] h = tt
  all_known p (e ∷ es) h = (ap (λ (o : Option Resource). ok_or o (refusal_at m (p ++ (e.0 ∷ []))) >>= λ (r : Resource). Ok (meta_at r.node)) h.0, all_known p es h.1)

  pub listing_known : (p : Path) (es : List (Segment × Meta)) → read_dir m p ≡ Ok es → Every (Known p) es
  listing_known p es h = by (find_folder m p) h
    where
      by : (r : Result Resource FsError) → (r >>= λ (_ : Resource). Ok (map listed_member (entries (members m p)))) ≡ Ok es → Every (Known p) es
      by (Ok r) e = let same : map listed_member (entries (members m p)) ≡ es = cc in subst (Every (Known p)) same (all_known p (entries (members m p)) (all_stand m p))
      by (Err x) e = absurd (cc)

  module _ {E : Type 0} (told : E → Segment × Meta) (p : Path) where
    abbrev pub paths : List E → List Path
    paths es = member_paths p (map told es)

    pub known_at : (es : List E) → Every (Known p) (map told es) → (k : ℕ) (d : E) → k < length es → Known p (told (get_or es k d))
    known_at [] all k d inside = absurd (omega arith)
    known_at (e ∷ es) all zero d inside = all.0
    known_at (e ∷ es) all (suc k) d inside = known_at es all.1 k d (omega arith)

    paths_push : (es : List E) (e : E) → paths es ++ ((p ++ ((told e).0 ∷ [])) ∷ []) ≡ paths (es ++ (e ∷ []))
    paths_push [] e = refl
    paths_push (x ∷ es) e = ap (λ ps. (p ++ ((told x).0 ∷ [])) ∷ ps) (paths_push es e)

    pub member_counts : (es : List E) (e : E) (a b n : ℕ) → HaveSize m (paths es) a → HasSize m (p ++ ((told e).0 ∷ [])) b → a + b ≡ n → HaveSize m (paths (es ++ (e ∷ []))) n
    member_counts es e a b n h one sum =
        let q = p ++ ((told e).0 ∷ []) in
        subst (HaveSize m (paths (es ++ (e ∷ [])))) sum
        (subst (λ ps. HaveSize m ps (a + b)) (paths_push es e) (joined (paths es) (q ∷ []) a b h (alone q b one)))

    pub file_counts : (es : List E) (e : E) (a n : ℕ) → HaveSize m (paths es) a → Known p (told e) → (told e).1.kind ≡ File → a + (told e).1.length ≡ n → HaveSize m (paths (es ++ (e ∷ []))) n
    file_counts es e a n h known kind sum = member_counts es e a (told e).1.length n h (file (p ++ ((told e).0 ∷ [])) (told e).1 known kind) sum

    all_yielded : (es items : List E) → map (λ y. y) es ≡ items → es ≡ items
    all_yielded es items e = same es ∙ e
      where
        same : (xs : List E) → xs ≡ map (λ y. y) xs
        same [] = refl
        same (x ∷ xs) = ap (λ ys. x ∷ ys) (same xs)

    pub listing_has : (es items : List E) (n : ℕ) → map (λ y. y) es ≡ items → read_dir m p ≡ Ok (map told items) → HaveSize m (paths es) n → HasSize m p n
    listing_has es items n all lists have = folder p (map told items) n lists (subst (λ xs. HaveSize m (paths xs) n) (all_yielded es items all) have)

    module _ {A : Type 0} (f : A → Path) where
      pub none_yet : (folders : List A) (n : ℕ) → folders ≡ [] → HaveSize m (map f folders) n → HaveSize m [] (0 + n)
      none_yet folders n empty have = let sum : n ≡ 0 + n = omega arith in subst (HaveSize m []) sum (subst (λ xs. HaveSize m (map f xs) n) empty have)

      pub folder_counts : (es : List E) (e : E) (before pushed after : List A) (path : A) (name : Segment) (so_far files n : ℕ) → after ≡ pushed → pushed ≡ before ++ (path ∷ []) → f path ≡ p ++ (name ∷ []) → name ≡ (told e).0 → files ≡ so_far
          → ((n : ℕ) → HaveSize m (map f before) n → HaveSize m (paths es) (so_far + n)) → HaveSize m (map f after) n → HaveSize m (paths (es ++ (e ∷ []))) (files + n)
      folder_counts es e before pushed after path name so_far files n same is leads named kept h have =
          let both = parted (map f before) (f path ∷ []) n (subst (λ ps. HaveSize m ps n) (ap (map f) same ∙ ap (map f) is ∙ map_joined f before (path ∷ [])) have) in
          let parts = both.4 in
          let sum : (so_far + both.0) + both.1 ≡ files + n = omega arith in
          member_counts es e (so_far + both.0) both.1 (files + n) (h both.0 both.2)
          (subst (λ q. HasSize m q both.1) (leads ∙ ap (λ (s : Segment). p ++ (s ∷ [])) named) (one_path (f path) both.1 both.3)) sum

      pub length_counts : (es : List E) (e : E) (before after : List A) (meta : Meta) (so_far files n length : ℕ) → after ≡ before → meta ≡ (told e).1 → Known p (told e) → meta.kind ≡ File → length ≡ meta.length → files ≡ so_far + length
          → ((n : ℕ) → HaveSize m (map f before) n → HaveSize m (paths es) (so_far + n)) → HaveSize m (map f after) n → HaveSize m (paths (es ++ (e ∷ []))) (files + n)
      length_counts es e before after meta so_far files n length same is known kind long sum h have =
          let l : meta.length ≡ (told e).1.length = ap (λ (x : Meta). x.length) is in
          let total : (so_far + n) + (told e).1.length ≡ files + n = omega arith in
          file_counts es e (so_far + n) (files + n) (h n (subst (λ xs. HaveSize m (map f xs) n) same have)) known (sym (ap (λ (x : Meta). x.kind) is) ∙ kind) total

  -- ---- lists of folders that are still to be listed
  module _ {A : Type 0} (f : A → Path) where
    -- the last folder is replaced by the folders in it
    pub last_listed : (old rest more new : List A) (last : A) (files size : ℕ) → old ≡ rest ++ (last ∷ []) → new ≡ rest ++ more
        → ((n : ℕ) → HaveSize m (map f more) n → HasSize m (f last) (files + n)) → HaveSize m (map f new) size → HaveSize m (map f old) (files + size)
    last_listed old rest more new last files size before after lists have =
        let h = parted (map f rest) (map f more) size (subst (λ ps. HaveSize m ps size) (ap (map f) after ∙ map_joined f rest more) have) in
        let parts = h.4 in
        let sum : h.0 + (files + h.1) ≡ files + size = omega arith in
        let whole = joined (map f rest) (f last ∷ []) h.0 (files + h.1) h.2 (alone (f last) (files + h.1) (lists h.1 h.3)) in
        subst (HaveSize m (map f old)) sum (subst (λ ps. HaveSize m ps (h.0 + (files + h.1))) (sym (ap (map f) before ∙ map_joined f rest (last ∷ []))) whole)

    pub one_more : (old left new : List A) (so_far next sum more : ℕ) → ((n : ℕ) → HaveSize m (map f left) n → HaveSize m (map f old) (so_far + n))
        → ((n : ℕ) → HaveSize m (map f new) n → HaveSize m (map f left) (next + n)) → sum ≡ so_far + next → HaveSize m (map f new) more → HaveSize m (map f old) (sum + more)
    one_more old left new so_far next sum more h lists is have =
        let e : so_far + (next + more) ≡ sum + more = omega arith in
        subst (HaveSize m (map f old)) e (h (next + more) (lists more have))

    pub none_left : (old left : List A) (size : ℕ) → left ≡ [] → ((n : ℕ) → HaveSize m (map f left) n → HaveSize m (map f old) (size + n)) → HaveSize m (map f old) size
    none_left old left size empty h =
        let sum : size + 0 ≡ size = omega arith in
        subst (HaveSize m (map f old)) sum (h 0 (subst (λ ps. HaveSize m ps 0) (sym (ap (map f) empty)) nothing))

  pub whole_size : (result : Result ℕ FsError) (p : Path) (n : ℕ) → IfOk result (λ sum. sum ≡ n) → HasSize m p n → IfOk result (HasSize m p)
  whole_size (Ok sum) p n is h = subst (HasSize m p) (sym is) h
  whole_size (Err e) p n is h = tt

pub no_items : {A : Type 0} (xs : List A) (n : ℕ) → n ≡ length xs → n ≡ 0 → xs ≡ []
no_items [] n h e = refl
no_items (x ∷ xs) n h e = absurd (omega arith)

pub not_folder : (kind : Kind) (b : Bool) → (IsTrue b ↔ (kind ≡ Folder)) → b ≡ false → kind ≡ File
not_folder Folder true h e = absurd (true≢false e)
not_folder Folder false h e = absurd (false≢true (h.1 refl))
not_folder File b h e = refl
