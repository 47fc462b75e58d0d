-- The resource step below a folder and apart from it, over all commands.
use Rattle.std.proofs.Common.{◌≡◌, ℕ, ◌≤◌, Bool, true, false, List, [], ◌∷◌, ◌++◌, is_some, Result, Ok, Err, refl, sym, ap, ◌∙◌, subst, arith}
use Rattle.std.specs.Prelude.{if◌then◌else◌}
use Rattle.std.specs.List.{AllByRecursion}
use Rattle.std.proofs.lemmas.Bool.{and_parts}
use Rattle.dav_path_core.specs.declared.errors.FsError.{FsError}
use Rattle.dav_path_core.specs.Fronts.{Path, is_front}
use Rattle.dav_files_core.specs.Resources.{Property, ResourceMap, at_path}
use Rattle.dav_files_core.specs.Below.{is_below, SameBelow, AgreeBelow, Alike, SameAnswer}
use Rattle.dav_files_core.specs.Outcomes.{Outcome}
use Rattle.dav_files_core.specs.Describing.{metadata}
use Rattle.dav_files_core.specs.ContentParts.{read_at, write_at}
use Rattle.dav_files_core.specs.ResourcePutting.{put}
use Rattle.dav_files_core.specs.ResourceCopying.{copy}
use Rattle.dav_files_core.specs.Folders.{create_dir, remove}
use Rattle.dav_files_core.specs.Listing.{read_dir}
use Rattle.dav_files_core.specs.Properties.{patch_props, get_props, get_prop}
use Rattle.dav_files_core.specs.Renaming.{rename}
use Rattle.dav_files_core.proofs.laws.GrownLemmas.{Grows, itself, put_grows, write_at_grows, create_dir_grows, remove_grows, rename_grows, copy_grows, patch_grows}
use Rattle.dav_files_core.proofs.laws.AgreeingLemmas.{inside, within_front, parent_front, put_alike, write_alike, create_dir_alike, remove_alike, rename_alike, copy_alike, patch_alike, read_same, read_dir_same, metadata_same, get_props_same, get_prop_same}
use Rattle.dav_guarded_core.specs.Requests.{Command, Reply, Bytes, Entries, Meta, Patched, Props, Value}
use Rattle.dav_guarded_core.specs.Checks.{Check, IsApart, has, shallow, member, target, checks}
use Rattle.dav_guarded_core.specs.ResourceStep.{DoesAs, changes, patches, tells, Does}
use Rattle.dav_guarded_core.specs.Alone.{is_within}
use Rattle.dav_guarded_core.proofs.Frame.{change_left, told_left, patch_left, framed}

-- ---- the law: what is below decides

module _ (folder : Path) where
  changes_alike : (o u : Outcome (Unit {0})) → Alike (SameAnswer folder) o u → Alike (SameAnswer folder) (changes o) (changes u)
  changes_alike (Ok x) (Ok y) h = (refl, h.1)
  changes_alike (Ok x) (Err d) h = absurd h
  changes_alike (Err e) (Ok y) h = absurd h
  changes_alike (Err e) (Err d) h = h

  patches_alike : (o u : Outcome (List (ℕ × Property))) → Alike (SameAnswer folder) o u → Alike (SameAnswer folder) (patches o) (patches u)
  patches_alike (Ok x) (Ok y) h = (ap Patched h.0, h.1)
  patches_alike (Ok x) (Err d) h = absurd h
  patches_alike (Err e) (Ok y) h = absurd h
  patches_alike (Err e) (Err d) h = h

  tells_alike : {A : Type 0} (m n : ResourceMap) (reply : A → Reply) (o u : Result A FsError) → AgreeBelow folder m n → u ≡ o → Alike (SameAnswer folder) (tells m reply o) (tells n reply u)
  tells_alike m n reply o u agree e = subst (λ u. Alike (SameAnswer folder) (tells m reply o) (tells n reply u)) (sym e) (by o)
    where
      by : (o : Result _ FsError) → Alike (SameAnswer folder) (tells m reply o) (tells n reply o)
      by (Ok x) = (refl, agree)
      by (Err d) = refl

  -- what is done in one map is done in the other
  abbrev pub DoneToo : (ResourceMap → Type 0) → ResourceMap → Type 0
  DoneToo P m' = (n' : ResourceMap) × P n' × AgreeBelow folder m' n'

  does_too : (o u : Outcome Reply) (m n m' : ResourceMap) (result : Result Reply FsError) → AgreeBelow folder m n → Alike (SameAnswer folder) o u → DoesAs o m result m' → DoneToo (DoesAs u n result) m'
  does_too (Ok x) (Ok y) m n m' (Ok reply) agree h does =
      let same : x ≡ (reply, m') = cc in
      (y.1, ap (λ (z : Reply). Ok (z, y.1)) (h.0 ∙ ap (λ (z : Reply × ResourceMap). z.0) same), subst (λ k. AgreeBelow folder k y.1) (ap (λ (z : Reply × ResourceMap). z.1) same) h.1)
  does_too (Ok x) (Ok y) m n m' (Err e) agree h does = let not_done = does.0 in absurd (cc)
  does_too (Ok x) (Err d) m n m' result agree h does = absurd h
  does_too (Err e) (Ok y) m n m' result agree h does = absurd h
  does_too (Err e) (Err d) m n m' (Ok reply) agree h does = absurd (cc)
  does_too (Err e) (Err d) m n m' (Err f) agree h does = (n, (ap Err h ∙ does.0, refl), subst (λ k. AgreeBelow folder k n) (sym does.1) agree)

  module _ (m n : ResourceMap) (agree : AgreeBelow folder m n) where
    changed_too : (o u : Outcome (Unit {0})) (m' : ResourceMap) (result : Result Reply FsError) → Alike (SameAnswer folder) o u → DoesAs (changes o) m result m' → DoneToo (DoesAs (changes u) n result) m'
    changed_too o u m' result h does = does_too (changes o) (changes u) m n m' result agree (changes_alike o u h) does

    told_too : {A : Type 0} (tell : A → Reply) (o u : Result A FsError) (m' : ResourceMap) (result : Result Reply FsError) → u ≡ o → DoesAs (tells m tell o) m result m' → DoneToo (DoesAs (tells n tell u) n result) m'
    told_too tell o u m' result e does = does_too (tells m tell o) (tells n tell u) m n m' result agree (tells_alike m n tell o u agree e) does

-- where two maps agree at and below a folder, a command within it has the same reply in both, and they agree afterwards
pub does_below : (folder : Path) (m n m' : ResourceMap) (c : Command) (now : ℕ) (result : Result Reply FsError) → AgreeBelow folder m n → is_within folder c ≡ true
    → Does m c now result m' → (n' : ResourceMap) × Does n c now result n' × AgreeBelow folder m' n'
does_below folder m n m' (Command.Put path bytes) now result agree below does =
    changed_too folder m n agree (put m path bytes now) (put n path bytes now) m' result (put_alike folder m n agree path bytes now (inside folder path below)) does
does_below folder m n m' (Command.Write path at bytes) now result agree below does =
    changed_too folder m n agree (write_at m path at bytes) (write_at n path at bytes) m' result (write_alike folder m n agree path at bytes (within_front folder path below)) does
does_below folder m n m' (Command.Read path at count) now result agree below does =
    told_too folder m n agree Bytes (read_at m path at count) (read_at n path at count) m' result (read_same folder m n agree path at count (within_front folder path below)) does
does_below folder m n m' (Command.List path) now result agree below does =
    told_too folder m n agree Entries (read_dir m path) (read_dir n path) m' result (read_dir_same folder m n agree path (within_front folder path below)) does
does_below folder m n m' (Command.Meta path) now result agree below does =
    told_too folder m n agree Meta (metadata m path) (metadata n path) m' result (metadata_same folder m n agree path (within_front folder path below)) does
does_below folder m n m' (Command.MkCol path) now result agree below does =
    changed_too folder m n agree (create_dir m path now) (create_dir n path now) m' result (create_dir_alike folder m n agree path now (inside folder path below)) does
does_below folder m n m' (Command.Remove path) now result agree below does =
    changed_too folder m n agree (remove m path now) (remove n path now) m' result (remove_alike folder m n agree path now (inside folder path below)) does
does_below folder m n m' (Command.Move from to) now result agree below does =
    let both = and_parts _ (is_below folder to) below in
    changed_too folder m n agree (rename m from to now) (rename n from to now) m' result (rename_alike folder m n agree from to now (inside folder from both.0) (inside folder to both.1)) does
does_below folder m n m' (Command.Copy from to) now result agree below does =
    let both = and_parts _ (is_below folder to) below in
    changed_too folder m n agree (copy m from to now) (copy n from to now) m' result (copy_alike folder m n agree from to now (within_front folder from both.0) (inside folder to both.1)) does
does_below folder m n m' (Command.PatchProps path patch) now result agree below does =
    does_too folder (patches (patch_props m path patch)) (patches (patch_props n path patch)) m n m' result agree
    (patches_alike folder (patch_props m path patch) (patch_props n path patch) (patch_alike folder m n agree path patch (within_front folder path below))) does
does_below folder m n m' (Command.GetProps path content) now result agree below does =
    told_too folder m n agree Props (get_props m path content) (get_props n path content) m' result (get_props_same folder m n agree path content (within_front folder path below)) does
does_below folder m n m' (Command.GetProp path wanted) now result agree below does =
    told_too folder m n agree Value (get_prop m path wanted) (get_prop n path wanted) m' result (get_prop_same folder m n agree path wanted (within_front folder path below)) does
does_below folder m n m' (Command.Lock path owner timeout shared deep) now result agree below does = absurd does
does_below folder m n m' (Command.Unlock path token) now result agree below does = absurd does
does_below folder m n m' (Command.Refresh path token timeout) now result agree below does = absurd does
does_below folder m n m' (Command.Discover path) now result agree below does = absurd does
does_below folder m n m' (Command.Check path deep) now result agree below does = absurd does

-- a refusal leaves the map
pub does_refused : (m m' : ResourceMap) (c : Command) (now : ℕ) (e : FsError) → Does m c now (Err e) m' → m' ≡ m
does_refused m m' (Command.Lock path owner timeout shared deep) now e does = absurd does
does_refused m m' (Command.Unlock path token) now e does = absurd does
does_refused m m' (Command.Refresh path token timeout) now e does = absurd does
does_refused m m' (Command.Discover path) now e does = absurd does
does_refused m m' (Command.Check path deep) now e does = absurd does
does_refused m m' _ now e does = does.1

-- ---- its companion: a command none of whose checks reaches at or below the folder leaves what is there
pub does_apart : (folder : Path) (m m' : ResourceMap) (c : Command) (now : ℕ) (reply : Reply) → Does m c now (Ok reply) m'
    → ((s : Path) → IsApart (checks m c) (folder ++ s)) → SameBelow folder m m'
does_apart folder m m' c now reply does apart s =
    ap (λ x. x.0) (framed m m' c now reply (folder ++ s) does (apart s))

-- ---- checks of a command within the folder

front : (folder p : Path) → is_below folder p ≡ true → is_front folder p ≡ true
front folder p h = (and_parts (is_front folder p) _ h).0

abbrev AllFront : Path → List Check → Type 0
AllFront folder ks = AllByRecursion (λ k. is_front folder k.path ≡ true) ks

member_below : (folder p : Path) (deep : Bool) → is_below folder p ≡ true → AllFront folder (member p deep)
member_below folder p deep h = (front folder p h, (parent_front folder p h, tt))

target_below : (folder : Path) (m : ResourceMap) (p : Path) → is_below folder p ≡ true → AllFront folder (target m p)
target_below folder m p h = by (has m p)
  where
    by : (b : Bool) → AllFront folder (if b then shallow p ∷ [] else member p false)
    by true = (front folder p h, tt)
    by false = member_below folder p false h

-- all of them are at or below it
pub checks_below : (folder : Path) (m : ResourceMap) (c : Command) → is_within folder c ≡ true → AllFront folder (checks m c)
checks_below folder m (Command.Put path bytes) within = target_below folder m path within
checks_below folder m (Command.Write path at bytes) within = (within, tt)
checks_below folder m (Command.MkCol path) within = member_below folder path false within
checks_below folder m (Command.Remove path) within = member_below folder path true within
checks_below folder m (Command.Move from to) within =
    let both = and_parts (is_below folder from) (is_below folder to) within in
    (front folder from both.0, (parent_front folder from both.0, member_below folder to true both.1))
checks_below folder m (Command.Copy from to) within = target_below folder m to (and_parts (is_front folder from) (is_below folder to) within).1
checks_below folder m (Command.PatchProps path patch) within = (within, tt)
checks_below folder m (Command.Check path deep) within = (within, tt)
checks_below folder m _ within = tt

-- ---- the next number never falls

pub same_next : (m m' : ResourceMap) → m' ≡ m → m.next ≤ m'.next
same_next m m' same = let next : m'.next ≡ m.next = ap (λ (m : ResourceMap). m.next) same in omega (arith, next)

-- ---- what is done leaves a map that has grown

unchanged : (m m' : ResourceMap) → m' ≡ m → Grows m m'
unchanged m m' same = subst (Grows m) (sym same) (itself m)

pub does_grows : (m m' : ResourceMap) (c : Command) (now : ℕ) (reply : Reply) → Does m c now (Ok reply) m' → Grows m m'
does_grows m m' (Command.Put path bytes) now reply does = put_grows m path bytes now (tt, m') (change_left (put m path bytes now) reply m' does)
does_grows m m' (Command.Write path at bytes) now reply does = write_at_grows m path at bytes (tt, m') (change_left (write_at m path at bytes) reply m' does)
does_grows m m' (Command.Read path at count) now reply does = unchanged m m' (told_left m Bytes (read_at m path at count) reply m' does)
does_grows m m' (Command.List path) now reply does = unchanged m m' (told_left m Entries (read_dir m path) reply m' does)
does_grows m m' (Command.Meta path) now reply does = unchanged m m' (told_left m Meta (metadata m path) reply m' does)
does_grows m m' (Command.MkCol path) now reply does = create_dir_grows m path now (tt, m') (change_left (create_dir m path now) reply m' does)
does_grows m m' (Command.Remove path) now reply does = remove_grows m path now (tt, m') (change_left (remove m path now) reply m' does)
does_grows m m' (Command.Move from to) now reply does = rename_grows m from to now (tt, m') (change_left (rename m from to now) reply m' does)
does_grows m m' (Command.Copy from to) now reply does = copy_grows m from to now (tt, m') (change_left (copy m from to now) reply m' does)
does_grows m m' (Command.PatchProps path patch) now reply does =
    let done = patch_left (patch_props m path patch) reply m' does in patch_grows m path patch (done.0, m') done.1
does_grows m m' (Command.GetProps path content) now reply does = unchanged m m' (told_left m Props (get_props m path content) reply m' does)
does_grows m m' (Command.GetProp path wanted) now reply does = unchanged m m' (told_left m Value (get_prop m path wanted) reply m' does)
does_grows m m' (Command.Lock path owner timeout shared deep) now reply does = absurd does
does_grows m m' (Command.Unlock path token) now reply does = absurd does
does_grows m m' (Command.Refresh path token timeout) now reply does = absurd does
does_grows m m' (Command.Discover path) now reply does = absurd does
does_grows m m' (Command.Check path deep) now reply does = absurd does

pub does_next : (m m' : ResourceMap) (c : Command) (now : ℕ) (reply : Reply) → Does m c now (Ok reply) m' → m.next ≤ m'.next
does_next m m' c now reply does = (does_grows m m' c now reply does).on
