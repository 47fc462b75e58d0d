-- A command that is done changes only the places that its checks reach.
use Rattle.std.proofs.Common.{◌≡◌, ℕ, Bool, true, false, ◌||◌, List, [], ◌∷◌, ◌++◌, Result, Ok, Err, refl, sym, ap, ◌∙◌}
use Rattle.std.specs.Prelude.{cond}
use Rattle.std.specs.List.{list_any}
use Rattle.std.proofs.lemmas.Bool.{false≢true, or_parts}
use Rattle.dav_path_core.specs.declared.errors.FsError.{FsError}
use Rattle.dav_path_core.specs.Fronts.{Path, parent, is_front, is_same_path}
use Rattle.dav_path_core.proofs.paths.FrontLemmas.{is_same_path-refl}
use Rattle.dav_files_core.specs.Resources.{Property, ResourceMap}
use Rattle.dav_files_core.specs.Finding.{place}
use Rattle.dav_files_core.specs.Outcomes.{Outcome}
use Rattle.dav_files_core.specs.Describing.{metadata}
use Rattle.dav_files_core.specs.ContentParts.{read_at, write_at}
use Rattle.dav_files_core.specs.ResourcePutting.{put}
use Rattle.dav_files_core.specs.ResourceCopying.{copy}
use Rattle.dav_files_core.specs.Folders.{create_dir, remove}
use Rattle.dav_files_core.specs.Listing.{read_dir}
use Rattle.dav_files_core.specs.Properties.{patch_props, get_props, get_prop}
use Rattle.dav_files_core.specs.Renaming.{rename}
use Rattle.dav_files_core.proofs.laws.PlaceLemmas.{put_places, copy_places, create_dir_places, remove_places, rename_places, write_places, patch_places}
use Rattle.dav_guarded_core.specs.Requests.{Command, Reply, Done, Bytes, Entries, Meta, Patched, Props, Value}
use Rattle.dav_guarded_core.specs.Checks.{IsApart, has, is_reached, reach_check, shallow, member, target, checks}
use Rattle.dav_guarded_core.specs.ResourceStep.{changes, patches, tells, Does}

-- a shallow check that doesn't reach a path is of another path
not_reached : (q p : Path) → is_reached (shallow q) p ≡ false → ¬ (p ≡ q)
not_reached q p h same =
    false≢true (sym (or_parts (is_same_path q p) false h).0 ∙ ap (is_same_path q) same ∙ is_same_path-refl q)

-- the map that a change left, and an answer that changes nothing
pub change_left : (f : Outcome (Unit {0})) (reply : Reply) (m' : ResourceMap) → changes f ≡ Ok (reply, m') → f ≡ Ok (tt {0}, m')
change_left (Ok x) reply m' h =
    let same : (Done, x.1) ≡ (reply, m') = cc in
    let left : x.1 ≡ m' = ap (λ (y : Reply × ResourceMap). y.1) same in
    ap (λ (n : ResourceMap). Ok (tt {0}, n)) left
change_left (Err e) reply m' h = absurd (cc)

pub told_left : {A : Type 0} (m : ResourceMap) (tell : A → Reply) (f : Result A FsError) (reply : Reply) (m' : ResourceMap) → tells m tell f ≡ Ok (reply, m') → m' ≡ m
told_left m tell (Ok x) reply m' h =
    let same : (tell x, m) ≡ (reply, m') = cc in
    ap (λ (y : Reply × ResourceMap). y.1) (sym same)
told_left m tell (Err e) reply m' h = absurd (cc)

told_place : {A : Type 0} (m : ResourceMap) (tell : A → Reply) (f : Result A FsError) (reply : Reply) (m' : ResourceMap) (p : Path) → tells m tell f ≡ Ok (reply, m') → place m' p ≡ place m p
told_place m tell f reply m' p h = ap (λ m. place m p) (told_left m tell f reply m' h)

pub patch_left : (f : Outcome (List (ℕ × Property))) (reply : Reply) (m' : ResourceMap) → patches f ≡ Ok (reply, m')
    → (answers : List (ℕ × Property)) × (f ≡ Ok (answers, m'))
patch_left (Ok x) reply m' h =
    let same : (Patched x.0, x.1) ≡ (reply, m') = cc in
    let left : x.1 ≡ m' = ap (λ (y : Reply × ResourceMap). y.1) same in
    (x.0, ap (λ (n : ResourceMap). Ok (x.0, n)) left)
patch_left (Err e) reply m' h = absurd (cc)

-- a path that isn't reached
alone_apart : (q p : Path) → IsApart (shallow q ∷ []) p → ¬ (p ≡ q)
alone_apart q p h = not_reached q p (or_parts (is_reached (shallow q) p) false h).0

-- the same of a path and its parent
member_apart : (q p : Path) → IsApart (member q false) p → ¬ (p ≡ q) × ¬ (p ≡ parent q)
member_apart q p h =
    let parts = or_parts (is_reached (shallow q) p) (is_reached (shallow (parent q)) p || false) h in
    (not_reached q p parts.0, not_reached (parent q) p (or_parts (is_reached (shallow (parent q)) p) false parts.1).0)

-- the same where what is below is reached, too
deep_apart : (q p : Path) → is_reached (reach_check q true) p ≡ false → ¬ (p ≡ q) × (is_front q p ≡ false)
deep_apart q p h =
    let parts = or_parts (is_same_path q p) (is_front q p) h in
    ((λ same. false≢true (sym parts.0 ∙ ap (is_same_path q) same ∙ is_same_path-refl q)), parts.1)

deep_member_apart : (q p : Path) → IsApart (member q true) p → ¬ (p ≡ q) × (is_front q p ≡ false) × ¬ (p ≡ parent q)
deep_member_apart q p h =
    let parts = or_parts (is_reached (reach_check q true) p) (is_reached (shallow (parent q)) p || false) h in
    let below = deep_apart q p parts.0 in
    (below.0, below.1, not_reached (parent q) p (or_parts (is_reached (shallow (parent q)) p) false parts.1).0)

-- both ends of a move
ends_apart : (from to p : Path) → IsApart (member from true ++ member to true) p
    → (is_front from p ≡ false) × (is_front to p ≡ false) × ¬ (p ≡ parent from) × ¬ (p ≡ parent to)
ends_apart from to p h =
    let source = or_parts (is_reached (reach_check from true) p) (is_reached (shallow (parent from)) p || list_any (λ k. is_reached k p) (member to true)) h in
    let folder = or_parts (is_reached (shallow (parent from)) p) (list_any (λ k. is_reached k p) (member to true)) source.1 in
    let target = deep_member_apart to p folder.1 in
    ((deep_apart from p source.0).1, target.1, not_reached (parent from) p folder.0, target.2)

-- a target that isn't reached
target_apart : (m : ResourceMap) (q p : Path) → IsApart (target m q) p → (¬ (p ≡ q)) × (has m q ≡ false → ¬ (p ≡ parent q))
target_apart m q p h = by (has m q) refl h
  where
    by : (b : Bool) → has m q ≡ b → IsApart (cond b (shallow q ∷ []) (member q false)) p → (¬ (p ≡ q)) × (has m q ≡ false → ¬ (p ≡ parent q))
    by true e h = (not_reached q p (or_parts (is_reached (shallow q) p) false h).0, λ none. absurd (false≢true (sym none ∙ e)))
    by false e h = let parts = member_apart q p h in (parts.0, λ none. parts.1)

pub framed : (m m' : ResourceMap) (c : Command) (now : ℕ) (reply : Reply) (p : Path) → Does m c now (Ok reply) m'
    → IsApart (checks m c) p → place m' p ≡ place m p
framed m m' (Command.Put path bytes) now reply p does apart =
    let parts = target_apart m path p apart in
    put_places m m' path bytes now (change_left (put m path bytes now) reply m' does) p parts.0 parts.1
framed m m' (Command.Write path at bytes) now reply p does apart =
    write_places m m' path at bytes (change_left (write_at m path at bytes) reply m' does) p (alone_apart path p apart)
framed m m' (Command.Read path at count) now reply p does apart = told_place m Bytes (read_at m path at count) reply m' p does
framed m m' (Command.List path) now reply p does apart = told_place m Entries (read_dir m path) reply m' p does
framed m m' (Command.Meta path) now reply p does apart = told_place m Meta (metadata m path) reply m' p does
framed m m' (Command.MkCol path) now reply p does apart =
    let parts = member_apart path p apart in
    create_dir_places m m' path now (change_left (create_dir m path now) reply m' does) p parts.0 parts.1
framed m m' (Command.Remove path) now reply p does apart =
    let parts = deep_member_apart path p apart in
    remove_places m m' path now (change_left (remove m path now) reply m' does) p parts.0 parts.2
framed m m' (Command.Move from to) now reply p does apart =
    let parts = ends_apart from to p apart in
    rename_places m m' from to now (change_left (rename m from to now) reply m' does) p parts.0 parts.1 parts.2 parts.3
framed m m' (Command.Copy from to) now reply p does apart =
    let parts = target_apart m to p apart in
    copy_places m m' from to now (change_left (copy m from to now) reply m' does) p parts.0 parts.1
framed m m' (Command.PatchProps path patch) now reply p does apart =
    let done = patch_left (patch_props m path patch) reply m' does in
    patch_places m m' path patch done.0 done.1 p (alone_apart path p apart)
framed m m' (Command.GetProps path content) now reply p does apart = told_place m Props (get_props m path content) reply m' p does
framed m m' (Command.GetProp path wanted) now reply p does apart = told_place m Value (get_prop m path wanted) reply m' p does
framed m m' (Command.Lock path owner timeout shared deep) now reply p does apart = absurd does
framed m m' (Command.Unlock path token) now reply p does apart = absurd does
framed m m' (Command.Refresh path token timeout) now reply p does apart = absurd does
framed m m' (Command.Discover path) now reply p does apart = absurd does
framed m m' (Command.Check path deep) now reply p does apart = absurd does
