-- Each path of a map is made of segments, and stays so.
use Rattle.std.proofs.Common.{◌≡◌, inl, inr, ℕ, Bool, true, false, List, [], ◌∷◌, ◌++◌, Option, Some, None, is_some, Result, Ok, Err, refl, sym, ◌∙◌, subst}
use Rattle.std.specs.Prelude.{◌||◌, if◌then◌else◌, option_and_then, nat_lt, length, max, ◌+◌, ◌^◌, unwrap_or}
use Rattle.std.specs.FinMap.{empty, get, get-empty, insert}
use Rattle.std.specs.List.{AllByRecursion}
use Rattle.dav_path_core.specs.declared.errors.FsError.{FsError}
use Rattle.dav_path_core.specs.declared.errors.FsError.TheVariants.{Exists, Forbidden, TooLarge}
use Rattle.dav_path_core.specs.Fronts.{Path, behind, parent, path_cmp}
use Rattle.dav_path_core.specs.PathText.{folder_bytes}
use Rattle.dav_path_core.proofs.lists.FinMaps.{inserted, none_some, removed}
use Rattle.dav_path_core.proofs.lists.Orders.{path_exact, path_total}
use Rattle.dav_path_core.proofs.paths.FrontLemmas.{behind_is}
use Rattle.dav_path_core.proofs.paths.ParentLemmas.{IsSegment, all_segments, segments-folder_bytes}
use Rattle.dav_files_core.specs.ContentParts.{write_at}
use Rattle.dav_files_core.specs.Finding.{find, has_members}
use Rattle.dav_files_core.specs.Folders.{create_dir, is_root, remove}
use Rattle.dav_files_core.specs.Moved.{moved_map}
use Rattle.dav_files_core.specs.OpenFiles.{overwritten_at, with_number}
use Rattle.dav_files_core.specs.Outcomes.{Outcome, ◌>>=◌, find_folder, new_file, new_folder, only_file, start, touched_at, with_modified_time, with_new_entry, with_other_node, without}
use Rattle.dav_files_core.specs.Properties.{patch_answers, patch_props, patched_properties}
use Rattle.dav_files_core.specs.Renaming.{put_elsewhere, relocated_map, rename}
use Rattle.dav_files_core.specs.ResourceCopying.{copy, copy_to}
use Rattle.dav_files_core.specs.ResourcePutting.{put, put_at}
use Rattle.dav_files_core.specs.Resources.{Node, Property, Resource, ResourceMap, at_path}
use Rattle.dav_files_core.specs.Restoring.{can_stand, is_root_folder, restore, restore_at, with_restored_entry}
use Rattle.dav_files_core.proofs.moves.MovedLemmas.{get-moved}
use Rattle.dav_guarded_core.specs.Requests.{Command, Reply, Request}
use Rattle.dav_guarded_core.specs.ResourceStep.{Does}
use Rattle.dav_guarded_core.specs.Step.{Effect, State}
use Rattle.dav_guarded_core.specs.Stores.{Stores, state_of}
use Rattle.dav_guarded_core.proofs.Frame.{change_left, patch_left}
use Rattle.dav_notes_core.specs.Noting.{Noted}
use Rattle.dav_notes_core.specs.PlayedNotes.{NotesPlayed}
use Rattle.dav_effects_core.specs.Records.{IsChange, IsNoted, IsPath}
use Rattle.dav_snapshots_core.specs.WrittenSnapshots.{HasPaths}

-- each name of the path is a segment
abbrev pub IsNamed : Path → Type 0
IsNamed p = AllByRecursion IsSegment p

abbrev pub Named : ResourceMap → Type 0
Named m = (p : Path) (r : Resource) → at_path m p ≡ Some r → IsNamed p

pub of_paths : (m : ResourceMap) → HasPaths m → Named m
of_paths m h p r here = subst IsNamed (h p r here) (all_segments (folder_bytes p))

pub to_paths : (m : ResourceMap) → Named m → HasPaths m
to_paths m h p r here = segments-folder_bytes p (h p r here)

of_path : (p : Path) → IsPath p → IsNamed p
of_path p h = subst IsNamed h.whole (all_segments (folder_bytes p))

named_append : (a b : Path) → IsNamed a → IsNamed b → IsNamed (a ++ b)
named_append [] b one two = two
named_append (s ∷ a) b one two = (one.0, named_append a b one.1 two)

named_behind : (a b : Path) → IsNamed (a ++ b) → IsNamed b
named_behind [] b h = h
named_behind (s ∷ a) b h = named_behind a b h.1

-- ---- changes of the map
module _ (m : ResourceMap) (all : Named m) where
  put_in : (p : Path) (x : Resource) (next : ℕ) → IsNamed p → Named (record { entries = insert m.entries p x; next = next })
  put_in p x next named q y h = elim (inserted path_total path_exact m.entries p x q y h) [
    | inl new ↦ subst IsNamed (sym new.0) named
    | inr old ↦ all q y old.1
  ]

  taken_out : (p : Path) → Named (without m p)
  taken_out p q y h = all q y (removed path_total path_exact m.entries p q y h).1

  touched : (p : Path) (now : ℕ) → Named (with_modified_time m p now)
  touched p now = steps (at_path m p) refl
    where
      steps : (o : Option Resource) → at_path m p ≡ o → Named (touched_at m p now o)
      steps None here = all
      steps (Some r) here = put_in p (record { number = r.number; node = record r.node { modified = now } }) m.next (all p r here)

  moved : (from to : Path) → IsNamed to → Named (moved_map m from to)
  moved from to named q x h = by (behind to q) refl (sym (get-moved m from to q) ∙ h)
    where
      other : (b : Bool) → option_and_then (at_path m) (if b then None else Some q) ≡ Some x → IsNamed q
      other true h = absurd (cc)
      other false h = all q x h

      by : (o : Option Path) → behind to q ≡ o → option_and_then (at_path m) (elim o [ Some s ↦ Some (from ++ s) | None ↦ if is_some (behind from q) then None else Some q ]) ≡ Some x → IsNamed q
      by (Some s) is h = subst IsNamed (sym (behind_is to q s is)) (named_append to s named (named_behind from s (all (from ++ s) x h)))
      by None is h = other (is_some (behind from q)) h

-- ---- outcomes
abbrev pub Leaves : {A : Type 0} → (A → Type 0) → Result A FsError → Type 0
Leaves {A} P o = (x : A) → o ≡ Ok x → P x

module _ {A : Type 0} (P : A → Type 0) where
  ok : (x : A) → P x → Leaves P (Ok x)
  ok x p y h = let same : x ≡ y = cc in subst P same p

  err : (e : FsError) → Leaves P (Err e)
  err e y h = absurd (cc)

  first : {B : Type 0} (o : Result B FsError) (f : B → Result A FsError) → ((y : B) → o ≡ Ok y → Leaves P (f y)) → Leaves P (o >>= f)
  first (Ok y) f g = g y refl
  first (Err e) f g = err e

  chosen : (b : Bool) (s t : Result A FsError) → Leaves P s → Leaves P t → Leaves P (if b then s else t)
  chosen true s t g h = g
  chosen false s t g h = h

abbrev pub NamedMap : {A : Type 0} → A × ResourceMap → Type 0
NamedMap x = Named x.1

-- ---- commands
module _ (m : ResourceMap) (all : Named m) where
  put_named : (p : Path) (bytes : List ℕ) (now : ℕ) → IsNamed p → Leaves NamedMap (put m p bytes now)
  put_named p bytes now named = by (at_path m p)
    where
      by : (o : Option Resource) → Leaves NamedMap (put_at m p bytes now o)
      by (Some r) = first NamedMap (only_file r) (λ (r : Resource). Ok (tt, with_other_node m p r (record r.node { bytes = bytes; modified = now })))
          (λ x h. ok NamedMap (tt, with_other_node m p x (record x.node { bytes = bytes; modified = now })) (put_in m all p (record { number = x.number; node = record x.node { bytes = bytes; modified = now } }) m.next named))
      by None = first NamedMap (find_folder m (parent p)) (λ (_ : Resource). Ok (tt, with_new_entry m p (new_file bytes now)))
          (λ x h. ok NamedMap (tt, with_new_entry m p (new_file bytes now)) (put_in m all p (record { number = m.next; node = new_file bytes now }) (m.next + 1) named))

  made_named : (p : Path) (now : ℕ) → IsNamed p → Leaves NamedMap (create_dir m p now)
  made_named p now named =
      let folder = with_new_entry m p (new_folder now) in
      let made = with_modified_time folder (parent p) now in
      first NamedMap (find_folder m (parent p)) (λ (_ : Resource). if is_some (at_path m p) then Err Exists else Ok (tt {0}, made))
      (λ x h. chosen NamedMap (is_some (at_path m p)) (Err Exists) (Ok (tt, made)) (err NamedMap Exists)
      (ok NamedMap (tt, made) (touched folder (put_in m all p (record { number = m.next; node = new_folder now }) (m.next + 1) named) (parent p) now)))

  removed_named : (p : Path) (now : ℕ) → Leaves NamedMap (remove m p now)
  removed_named p now =
      let left = with_modified_time (without m p) (parent p) now in
      first NamedMap (find m p) (λ (_ : Resource). if is_root p || has_members m p then Err Forbidden else Ok (tt, left))
      (λ x h. chosen NamedMap (is_root p || has_members m p) (Err Forbidden) (Ok (tt, left)) (err NamedMap Forbidden)
      (ok NamedMap (tt, left) (touched (without m p) (taken_out m all p) (parent p) now)))

  relocated_named : (from to : Path) → IsNamed to → Leaves Named (relocated_map m from to)
  relocated_named from to named =
      chosen Named (is_root to) (Err (if is_root from then Forbidden else Exists)) _ (err Named (if is_root from then Forbidden else Exists))
      (chosen Named (has_members m to) (Err Exists) _ (err Named Exists)
      (chosen Named (is_root from) (Err Forbidden) _ (err Named Forbidden) (by (behind from to))))
    where
      by : (o : Option Path) → Leaves Named (put_elsewhere m from to o)
      by (Some []) = ok Named m all
      by (Some (s ∷ below)) = err Named Forbidden
      by None = ok Named (moved_map m from to) (moved m all from to named)

  abbrev last : Path → Path → ℕ → ResourceMap → Outcome (Unit {0})
  last from to now z = Ok (tt, with_modified_time (with_modified_time z (parent from) now) (parent to) now)

  renamed_named : (from to : Path) (now : ℕ) → IsNamed to → Leaves NamedMap (rename m from to now)
  renamed_named from to now named =
      first NamedMap (find m from) (λ (_ : Resource). find_folder m (parent to) >>= λ (_ : Resource). relocated_map m from to >>= last from to now)
      (λ x h. first NamedMap (find_folder m (parent to)) (λ (_ : Resource). relocated_map m from to >>= last from to now)
      (λ y g. first NamedMap (relocated_map m from to) (last from to now)
      (λ z e. ok NamedMap (tt, with_modified_time (with_modified_time z (parent from) now) (parent to) now)
      (touched (with_modified_time z (parent from) now) (touched z (relocated_named from to named z e) (parent from) now) (parent to) now))))

  copied_named : (from to : Path) (now : ℕ) → IsNamed to → Leaves NamedMap (copy m from to now)
  copied_named from to now named = first NamedMap (find m from) (λ (r : Resource). copy_to m to (record r.node { created = now }) (at_path m to)) (λ r h. by (record r.node { created = now }) (at_path m to))
    where
      by : (node : Node) (o : Option Resource) → Leaves NamedMap (copy_to m to node o)
      by node (Some target) = first NamedMap (only_file target) (λ (target : Resource). Ok (tt, with_other_node m to target node))
          (λ x h. ok NamedMap (tt, with_other_node m to x node) (put_in m all to (record { number = x.number; node = node }) m.next named))
      by node None = first NamedMap (find_folder m (parent to)) (λ (_ : Resource). Ok (tt, with_new_entry m to node))
          (λ x h. ok NamedMap (tt, with_new_entry m to node) (put_in m all to (record { number = m.next; node = node }) (m.next + 1) named))

  patched_named : (p : Path) (patch : List (Bool × Property)) → IsNamed p → Leaves NamedMap (patch_props m p patch)
  patched_named p patch named = first NamedMap (find m p) (λ (r : Resource). Ok (patch_answers patch, with_other_node m p r (record r.node { props = patched_properties r.node.props patch })))
      (λ r h. ok NamedMap (patch_answers patch, with_other_node m p r (record r.node { props = patched_properties r.node.props patch }))
      (put_in m all p (record { number = r.number; node = record r.node { props = patched_properties r.node.props patch } }) m.next named))

  written_named : (p : Path) (at : Option ℕ) (new : List ℕ) → IsNamed p → Leaves NamedMap (write_at m p at new)
  written_named p at new named =
      first NamedMap (find m p) (λ (r : Resource). only_file r >>= written) (λ r h. first NamedMap (only_file r) written
      (λ x e. chosen NamedMap (fits x) (Ok (tt, with_other_node m p x (node x))) (Err TooLarge)
      (ok NamedMap (tt, with_other_node m p x (node x)) (put_in m all p (record { number = x.number; node = node x }) m.next named))
      (err NamedMap TooLarge)))
    where
      start_at : Resource → ℕ
      start_at r = unwrap_or at (length r.node.bytes)

      fits : Resource → Bool
      fits r = nat_lt (start_at r + length new) (2 ^ 64)

      node : Resource → Node
      node r = record r.node { bytes = overwritten_at r.node.bytes (start_at r) new }

      written : Resource → Outcome (Unit {0})
      written r = if fits r then Ok (tt, with_other_node m p r (node r)) else Err TooLarge

  pub restored_named : (p : Path) (r : Resource) → IsNamed p → Leaves NamedMap (restore m p r)
  restored_named p r named = chosen NamedMap (can_stand r) (restore_at m p r (at_path m p)) (Err Forbidden) (by (at_path m p)) (err NamedMap Forbidden)
    where
      by : (o : Option Resource) → Leaves NamedMap (restore_at m p r o)
      by (Some x) = chosen NamedMap (is_root_folder p r) (Ok (tt, with_other_node m p x r.node)) (Err Exists)
          (ok NamedMap (tt, with_other_node m p x r.node) (put_in m all p (record { number = x.number; node = r.node }) m.next named)) (err NamedMap Exists)
      by None = first NamedMap (find_folder m (parent p)) (λ (_ : Resource). if is_some (with_number m r.number) then Err Exists else Ok (tt {0}, with_restored_entry m p r))
          (λ x h. chosen NamedMap (is_some (with_number m r.number)) (Err Exists) (Ok (tt, with_restored_entry m p r)) (err NamedMap Exists)
          (ok NamedMap (tt, with_restored_entry m p r) (put_in m all p (record { number = r.number; node = r.node }) (max m.next (r.number + 1)) named)))

does_named : (m m' : ResourceMap) (c : Command) (now : ℕ) (reply : Reply) → IsChange c → Named m → Does m c now (Ok reply) m' → Named m'
does_named m m' (Command.Put path bytes) now reply change all does = put_named m all path bytes now (of_path path change.0) (tt, m') (change_left (put m path bytes now) reply m' does)
does_named m m' (Command.Write path at bytes) now reply change all does = written_named m all path at bytes (of_path path change.0) (tt, m') (change_left (write_at m path at bytes) reply m' does)
does_named m m' (Command.MkCol path) now reply change all does = made_named m all path now (of_path path change) (tt, m') (change_left (create_dir m path now) reply m' does)
does_named m m' (Command.Remove path) now reply change all does = removed_named m all path now (tt, m') (change_left (remove m path now) reply m' does)
does_named m m' (Command.Move from to) now reply change all does = renamed_named m all from to now (of_path to change.1) (tt, m') (change_left (rename m from to now) reply m' does)
does_named m m' (Command.Copy from to) now reply change all does = copied_named m all from to now (of_path to change.1) (tt, m') (change_left (copy m from to now) reply m' does)
does_named m m' (Command.PatchProps path patch) now reply change all does =
    let done = patch_left (patch_props m path patch) reply m' does in patched_named m all path patch (of_path path change.0) (done.0, m') done.1
does_named m m' (Command.Lock path owner timeout shared deep) now reply change all does = absurd does
does_named m m' (Command.Unlock path token) now reply change all does = absurd does
does_named m m' (Command.Refresh path token timeout) now reply change all does = absurd does
does_named m m' (Command.Read path at count) now reply change all does = absurd change
does_named m m' (Command.List path) now reply change all does = absurd change
does_named m m' (Command.Meta path) now reply change all does = absurd change
does_named m m' (Command.GetProps path content) now reply change all does = absurd change
does_named m m' (Command.GetProp path wanted) now reply change all does = absurd change
does_named m m' (Command.Discover path) now reply change all does = absurd change
does_named m m' (Command.Check path deep) now reply change all does = absurd change

-- ---- notes that are played
effect_named : (c : Command) (s : State) (r : Request) (reply : Reply) (s' : State) → IsChange c → Named s.map → Effect c s r reply s' → Named s'.map
effect_named (Command.Lock path owner timeout shared deep) s r reply s' change all e = subst Named (sym e.1.map_is) all
effect_named (Command.Unlock path token) s r reply s' change all e = subst Named (sym e.3.map_is) all
effect_named (Command.Refresh path token timeout) s r reply s' change all e = subst Named (sym e.5.map_is) all
effect_named (Command.Put path bytes) s r reply s' change all e = does_named s.map s'.map (Command.Put path bytes) r.now reply change all e.0
effect_named (Command.Write path at bytes) s r reply s' change all e = does_named s.map s'.map (Command.Write path at bytes) r.now reply change all e.0
effect_named (Command.MkCol path) s r reply s' change all e = does_named s.map s'.map (Command.MkCol path) r.now reply change all e.0
effect_named (Command.Remove path) s r reply s' change all e = does_named s.map s'.map (Command.Remove path) r.now reply change all e.0
effect_named (Command.Move from to) s r reply s' change all e = does_named s.map s'.map (Command.Move from to) r.now reply change all e.0
effect_named (Command.Copy from to) s r reply s' change all e = does_named s.map s'.map (Command.Copy from to) r.now reply change all e.0
effect_named (Command.PatchProps path patch) s r reply s' change all e = does_named s.map s'.map (Command.PatchProps path patch) r.now reply change all e.0
effect_named (Command.Read path at count) s r reply s' change all e = absurd change
effect_named (Command.List path) s r reply s' change all e = absurd change
effect_named (Command.Meta path) s r reply s' change all e = absurd change
effect_named (Command.GetProps path content) s r reply s' change all e = absurd change
effect_named (Command.GetProp path wanted) s r reply s' change all e = absurd change
effect_named (Command.Discover path) s r reply s' change all e = absurd change
effect_named (Command.Check path deep) s r reply s' change all e = absurd change

notes_named : (s s' : Stores) (ns : List Noted) → Named s.map → AllByRecursion IsNoted ns → NotesPlayed s ns s' → Named s'.map
notes_named s s' [] all noted played = subst (λ (t : Stores). Named t.map) (sym played) all
notes_named s s' (n ∷ ns) all noted played =
    let mid = played.0 in
    let step = played.1.1 in
    notes_named mid s' ns
    (effect_named n.request.command (record (state_of s step.before) { locks = _ }) n.request played.1.0 (state_of mid step.after) noted.0.command all step.step.1)
    noted.1 played.2

pub notes_keep_paths : (s s' : Stores) (ns : List Noted) → HasPaths s.map → AllByRecursion IsNoted ns → NotesPlayed s ns s' → HasPaths s'.map
notes_keep_paths s s' ns paths noted played = to_paths s'.map (notes_named s s' ns (of_paths s.map paths) noted played)

pub new_paths : (now : ℕ) → HasPaths (start now)
new_paths now p r here = elim (inserted path_total path_exact empty [] (record { number = 1; node = new_folder now }) p r here) [
  | inl root ↦ segments-folder_bytes p (subst IsNamed (sym root.0) tt)
  | inr other ↦ absurd (none_some (get empty p) r (get-empty path_cmp p) other.1)
]
