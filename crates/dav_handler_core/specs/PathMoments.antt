-- What the moments along a path tell over a run of a server: whether it is the same file that stands there (own).
use Rattle.std.specs.Prelude.{◌≡◌, ◌⊎◌, ℕ, ◌*◌, ◌<◌, ◌≤◌, true, Some}
use Rattle.dav_path_core.specs.Fronts.{Path, is_front}
use Rattle.dav_files_core.specs.declared.memfs.Kind.TheVariants.{File}
use Rattle.dav_files_core.specs.Resources.{Resource, ResourceMap, at_path}
use Rattle.dav_handler_core.specs.Server.{Server}

-- a file stands at the path
abbrev pub IsFileAt : ResourceMap → Path → Resource → Type 0
IsFileAt m p file = (at_path m p ≡ Some file) × (file.node.kind ≡ File)

-- A moment along a path: that at which what stands there was made; or that of its last change, or of the last change of a folder above.
abbrev pub IsAlong : ResourceMap → Path → ℕ → Type 0
IsAlong m p n = ((r : Resource) × (at_path m p ≡ Some r) × (r.node.created ≡ n))
    ⊎ ((q : Path) × (r : Resource) × (is_front q p ≡ true) × (at_path m q ≡ Some r) × (r.node.modified ≡ n))

-- a file at a path of the one server and a file there of the other have the same bytes, or a moment along the path in the other is later than all moments of the one
abbrev pub MomentsTellFiles : Server → Server → Type 0
MomentsTellFiles s s' = (p : Path) (file other : Resource) → IsFileAt s.state.map p file → IsFileAt s'.state.map p other
    → (other.node.bytes ≡ file.node.bytes) ⊎ ((n : ℕ) × (s.last < n) × IsAlong s'.state.map p n)

-- and they have the same bytes, where a date in whole seconds is not after the last change of the one, and no moment along the path is after that date in the other
abbrev pub DatesTellFiles : Server → Server → Type 0
DatesTellFiles s s' = (p : Path) (file other : Resource) (date : ℕ) → IsFileAt s.state.map p file → IsFileAt s'.state.map p other
    → date * 1000000000 ≤ file.node.modified → ((n : ℕ) → IsAlong s'.state.map p n → n ≤ date * 1000000000) → other.node.bytes ≡ file.node.bytes
