-- The path of a resource as it is told: it has the same segments, and is told as it is.
use Rattle.std.proofs.Common.{◌≡◌, refl, sym, ap, ◌∙◌, ℕ, Bool, true, false, cond, List, [], ◌∷◌, ◌++◌, Option, Some, None}
use Rattle.std.proofs.lemmas.Bool.Decides.{Decides-eqb}
use Rattle.std.proofs.lemmas.Slice.Eq.{ends_is}
use Rattle.dav_path_core.specs.PathReading.{ends_in_slash}
use Rattle.dav_path_core.specs.PathText.{PathText}
use Rattle.dav_path_core.specs.Segments.{segments}
use Rattle.dav_path_core.proofs.paths.TrimLemmas.{segments-slash_end}
use Rattle.dav_files_core.specs.Meta.{Meta}
use Rattle.dav_files_core.specs.Resources.{ResourceMap, is_folder}
use Rattle.dav_session_core.specs.Ends.{known_at}
use Rattle.dav_documents_core.specs.RefusalReading.{IsRooted}
use Rattle.dav_methods_core.specs.ToldPaths.{with_slash, told_by, told_path}

-- ---- a slash at the end

ends_slashed : (bytes : List ℕ) → ends_in_slash (bytes ++ 47 ∷ []) ≡ true
ends_slashed bytes = (ends_is Decides-eqb (bytes ++ 47 ∷ []) (47 ∷ []) (ends_in_slash (bytes ++ 47 ∷ [])) refl).1 bytes refl

segments_slashed : (path : PathText) → segments (with_slash path).bytes ≡ segments path.bytes
segments_slashed path = by (ends_in_slash path.bytes)
  where
    by : (b : Bool) → segments (cond b path (record path { bytes = path.bytes ++ 47 ∷ [] })).bytes ≡ segments path.bytes
    by true = refl
    by false = segments-slash_end path.bytes

slashed_twice : (path : PathText) → with_slash (with_slash path) ≡ with_slash path
slashed_twice path = by (ends_in_slash path.bytes) refl
  where
    by : (b : Bool) → ends_in_slash path.bytes ≡ b → with_slash (cond b path (record path { bytes = path.bytes ++ 47 ∷ [] })) ≡ cond b path (record path { bytes = path.bytes ++ 47 ∷ [] })
    by true is = ap (λ b. cond b path (record path { bytes = path.bytes ++ 47 ∷ [] })) is
    by false is =
        let longer : PathText = record path { bytes = path.bytes ++ 47 ∷ [] } in
        ap (λ b. cond b longer (record longer { bytes = longer.bytes ++ 47 ∷ [] })) (ends_slashed path.bytes)

-- ---- the path that is told

module _ (path : PathText) where
  segments_by : (known : Option Meta) → segments (told_by known path).bytes ≡ segments path.bytes
  segments_by None = refl
  segments_by (Some known) = by (is_folder known.kind)
    where
      by : (b : Bool) → segments (cond b (with_slash path) path).bytes ≡ segments path.bytes
      by true = segments_slashed path
      by false = refl

  twice_by : (known : Option Meta) → told_by known (told_by known path) ≡ told_by known path
  twice_by None = refl
  twice_by (Some known) = by (is_folder known.kind)
    where
      by : (b : Bool) → cond b (with_slash (cond b (with_slash path) path)) (cond b (with_slash path) path) ≡ cond b (with_slash path) path
      by true = slashed_twice path
      by false = refl

  pub segments_told : (m : ResourceMap) → segments (told_path m path).bytes ≡ segments path.bytes
  segments_told m = segments_by (known_at m (segments path.bytes))

  pub told_twice : (m : ResourceMap) → told_path m (told_path m path) ≡ told_path m path
  told_twice m = ap (λ p. told_by (known_at m p) (told_path m path)) (segments_told m) ∙ twice_by (known_at m (segments path.bytes))

  -- by what is known to stand there
  pub told_folder : (m : ResourceMap) (known : Meta) → Some known ≡ known_at m (segments path.bytes) → is_folder known.kind ≡ true → with_slash path ≡ told_path m path
  told_folder m known is folder = sym (ap (λ b. cond b (with_slash path) path) folder) ∙ ap (λ o. told_by o path) is

  -- ---- it begins with a slash where the path does

  rooted_slashed : IsRooted path → IsRooted (with_slash path)
  rooted_slashed h = by (ends_in_slash path.bytes)
    where
      by : (b : Bool) → IsRooted (cond b path (record path { bytes = path.bytes ++ 47 ∷ [] }))
      by true = h
      by false = (h.0 ++ 47 ∷ [], ap (λ l. l ++ 47 ∷ []) h.1)

  rooted_by : (known : Option Meta) → IsRooted path → IsRooted (told_by known path)
  rooted_by None h = h
  rooted_by (Some known) h = by (is_folder known.kind)
    where
      by : (b : Bool) → IsRooted (cond b (with_slash path) path)
      by true = rooted_slashed h
      by false = h

  pub rooted_told : (m : ResourceMap) → IsRooted path → IsRooted (told_path m path)
  rooted_told m h = rooted_by (known_at m (segments path.bytes)) h
