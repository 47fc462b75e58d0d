-- The resource step: what commands do on a resource map (RFC 4918 section 9).
use Rattle.std.specs.Prelude.{◌≡◌, ◌⊎◌, ℕ, List, Bool, true, false, Result, Ok, Err}
use Rattle.dav_path_core.specs.declared.errors.FsError.{FsError}
use Rattle.dav_files_core.specs.Resources.{Property, ResourceMap}
use Rattle.dav_files_core.specs.Outcomes.{Outcome, ◌>>=◌}
use Rattle.dav_files_core.specs.Describing.{metadata}
use Rattle.dav_files_core.specs.ContentParts.{read_at, write_at}
use Rattle.dav_files_core.specs.ResourcePutting.{put}
use Rattle.dav_files_core.specs.ResourceCopying.{copy}
use Rattle.dav_files_core.specs.Folders.{create_dir, remove}
use Rattle.dav_files_core.specs.Listing.{read_dir}
use Rattle.dav_files_core.specs.Properties.{patch_props, get_props, get_prop}
use Rattle.dav_files_core.specs.Renaming.{rename}
use Rattle.dav_locks_core.specs.Lock.{Lock}
use Rattle.dav_locks_core.specs.Locks.{without_below}
use Rattle.dav_guarded_core.specs.Requests.{Command, Reply, Done, Bytes, Entries, Meta, Patched, Props, Value}

-- ---- the table of commands; its first column, what a command is checked for, is `checks`

-- it is answered by the map
abbrev pub is_on_map : Command → Bool
is_on_map (Command.Put path bytes) = true
is_on_map (Command.Write path at bytes) = true
is_on_map (Command.Read path at count) = true
is_on_map (Command.List path) = true
is_on_map (Command.Meta path) = true
is_on_map (Command.MkCol path) = true
is_on_map (Command.Remove path) = true
is_on_map (Command.Move from to) = true
is_on_map (Command.Copy from to) = true
is_on_map (Command.PatchProps path patch) = true
is_on_map (Command.GetProps path content) = true
is_on_map (Command.GetProp path wanted) = true
is_on_map _ = false

-- as an outcome says; a refusal leaves the map as it was
abbrev pub DoesAs : Outcome Reply → ResourceMap → Result Reply FsError → ResourceMap → Type 0
DoesAs outcome m (Ok reply) m' = outcome ≡ Ok (reply, m')
DoesAs outcome m (Err e) m' = (outcome ≡ Err e) × (m' ≡ m)

-- a change, with nothing to tell
abbrev pub changes : Outcome (Unit {0}) → Outcome Reply
changes f = f >>= λ x. Ok (Done, x.1)

-- a change, with an answer for each property
abbrev pub patches : Outcome (List (ℕ × Property)) → Outcome Reply
patches f = f >>= λ x. Ok (Patched x.0, x.1)

-- an answer, and nothing changes
abbrev pub tells : {A : Type 0} → ResourceMap → (A → Reply) → Result A FsError → Outcome Reply
tells m reply f = f >>= λ x. Ok (reply x, m)

-- what it does on the map at a moment
abbrev pub Does : ResourceMap → Command → ℕ → Result Reply FsError → ResourceMap → Type 0
Does m (Command.Put path bytes) now result m' = DoesAs (changes (put m path bytes now)) m result m'
Does m (Command.Write path at bytes) now result m' = DoesAs (changes (write_at m path at bytes)) m result m'
Does m (Command.Read path at count) now result m' = DoesAs (tells m Bytes (read_at m path at count)) m result m'
Does m (Command.List path) now result m' = DoesAs (tells m Entries (read_dir m path)) m result m'
Does m (Command.Meta path) now result m' = DoesAs (tells m Meta (metadata m path)) m result m'
Does m (Command.MkCol path) now result m' = DoesAs (changes (create_dir m path now)) m result m'
Does m (Command.Remove path) now result m' = DoesAs (changes (remove m path now)) m result m'
Does m (Command.Move from to) now result m' = DoesAs (changes (rename m from to now)) m result m'
Does m (Command.Copy from to) now result m' = DoesAs (changes (copy m from to now)) m result m'
Does m (Command.PatchProps path patch) now result m' = DoesAs (patches (patch_props m path patch)) m result m'
Does m (Command.GetProps path content) now result m' = DoesAs (tells m Props (get_props m path content)) m result m'
Does m (Command.GetProp path wanted) now result m' = DoesAs (tells m Value (get_prop m path wanted)) m result m'
Does m _ now result m' = ⊥

-- its work on the map takes memory: that of all commands on the map but these two
abbrev pub takes_map_memory : Command → Bool
takes_map_memory (Command.Meta path) = false
takes_map_memory (Command.Remove path) = false
takes_map_memory command = is_on_map command

-- it takes memory before all is looked at that may refuse it
abbrev pub takes_memory_early : Command → Bool
takes_memory_early (Command.Move from to) = true
takes_memory_early _ = false

-- nothing on the map refuses it
abbrev pub CanBeDone : ResourceMap → Command → ℕ → Type 0
CanBeDone m command now = (reply : Reply) × (m' : ResourceMap) × Does m command now (Ok reply) m'

-- its work on the map may be out of memory
unfoldable pub MayLackOnMap : ResourceMap → Command → ℕ → Type 0
MayLackOnMap m command now = (takes_map_memory command ≡ true) × ((takes_memory_early command ≡ true) ⊎ CanBeDone m command now)

-- the locks that stand once it is done: where something goes, the locks there and below go with it
abbrev pub locks_left : Command → List Lock → List Lock
locks_left (Command.Remove path) locks = without_below path locks
locks_left (Command.Move from to) locks = without_below from locks
locks_left _ locks = locks
