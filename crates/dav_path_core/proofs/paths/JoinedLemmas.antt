-- Segments behind slashes, put behind a prefix: with a slash at the end they are a path's bytes.
use Rattle.std.proofs.Common.{◌≡◌, ◌≢◌, ◌⊎◌, inl, inr, ℕ, ◌<◌, ◌≤◌, Bool, true, false, List, [], ◌∷◌, ◌++◌, length, take, drop, refl, sym, ap, ◌∙◌, ⊎_elim, append_assoc, length-append, length-take-le, arith}
use Rattle.std.proofs.Math.Seq.{drop-append_seam}
use Rattle.std.proofs.lemmas.Grind.{flat_map-append}
use Rattle.dav_path_core.specs.Fronts.{Path}
use Rattle.dav_path_core.specs.PathReading.{path_of}
use Rattle.dav_path_core.specs.Private.Keeping.{behind_slashes}
use Rattle.dav_path_core.proofs.paths.KeptLemmas.{path_with_slash, path_with_none}
use Rattle.dav_path_core.proofs.paths.SlashedLemmas.{slashed-empty, slashed-some}

-- the segments of two paths, one after the other
pub slashed-both : (prefix half path : List ℕ) (front back : Path) → half ≡ prefix ++ behind_slashes front → path ≡ half ++ behind_slashes back → path ≡ prefix ++ behind_slashes (front ++ back)
slashed-both prefix half path front back e f =
    f ∙ ap (λ l. l ++ behind_slashes back) e ∙ append_assoc prefix (behind_slashes front) (behind_slashes back) ∙ ap (λ l. prefix ++ l) (sym (flat_map-append (λ s. 47 ∷ s) front back))

-- a slash is put behind them
pub joined-closed : (prefix path new : List ℕ) (names : Path) (slash : Bool) → path ≡ prefix ++ behind_slashes names → new ≡ path ++ 47 ∷ [] → (slash ≡ true) ⊎ (length path ≡ length prefix) → new ≡ prefix ++ path_of names slash
joined-closed prefix path new names slash e f h =
    f ∙ ap (λ l. l ++ 47 ∷ []) e ∙ append_assoc prefix (behind_slashes names) (47 ∷ [])
    ∙ ap (λ l. prefix ++ l) (path_with_slash names slash (⊎_elim inl (λ n. inr (slashed-empty names (behind_slashes names) refl (omega (arith, n, ap length e, length-append prefix (behind_slashes names))))) h))

-- or none
pub joined-open : (prefix path : List ℕ) (names : Path) (slash : Bool) → path ≡ prefix ++ behind_slashes names → slash ≡ false → length path ≢ length prefix → path ≡ prefix ++ path_of names slash
joined-open prefix path names slash e bare long =
    let some : 0 < length (behind_slashes names) = omega (arith, long, ap length e, length-append prefix (behind_slashes names)) in
    e ∙ ap (λ l. prefix ++ l) (path_with_none names slash bare (slashed-some names (behind_slashes names) refl some))

-- what stands behind the prefix
pub behind-joined : (whole path back : List ℕ) (n : ℕ) → n ≤ length whole → path ≡ take n whole ++ back → drop n path ≡ back
behind-joined whole path back n le e =
    let prefix = take n whole in
    let long : length prefix ≡ n = length-take-le n whole le in
    ap (drop n) e ∙ ap (λ i. drop i (prefix ++ back)) (sym long) ∙ drop-append_seam prefix back
