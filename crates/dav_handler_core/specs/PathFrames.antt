-- Which requests change what stands at a path: those that name it, one above it, or a target there (RFC 9110 section 9.3, RFC 4918 section 9).
use Rattle.std.specs.Prelude.{◌≡◌, ◌⊎◌, ℕ, true, List, Option, None, Some, Result, Ok, Err}
use Rattle.http.specs.declared.request.Request.{Request}
use Rattle.http.specs.Request.{head_of}
use Rattle.http_server.specs.declared.response.Response.{Response}
use Rattle.dav_path_core.specs.declared.util.DavMethod.{DavMethod}
use Rattle.dav_path_core.specs.declared.util.DavMethod.TheVariants as method
use Rattle.dav_path_core.specs.Fronts.{Path, is_front}
use Rattle.dav_path_core.specs.PathText.{PathText}
use Rattle.dav_path_core.specs.Segments.{segments}
use Rattle.dav_files_core.specs.declared.memfs.Kind.TheVariants.{File}
use Rattle.dav_files_core.specs.Resources.{Resource, at_path}
use Rattle.dav_faults_core.specs.declared.faults.Fault.{Fault}
use Rattle.dav_faults_core.specs.declared.faults.Fault.TheVariants as fault
use Rattle.dav_fields_core.specs.TransferDestinations.{IsDestination}
use Rattle.dav_handler_core.specs.Answers.{Answers}
use Rattle.dav_handler_core.specs.Server.{Names, Server, site_for}

-- ---- what stays

-- one resource and another are the same, but that a folder may have another last change
pub record IsSame (r r' : Resource) : Type 0 where
  pub number : r'.number ≡ r.number
  pub kind : r'.node.kind ≡ r.node.kind
  pub bytes : r'.node.bytes ≡ r.node.bytes
  pub props : r'.node.props ≡ r.node.props
  pub created : r'.node.created ≡ r.node.created
  pub modified : r.node.kind ≡ File → r'.node.modified ≡ r.node.modified

-- nothing stood and stands there, or what stands there is the same
abbrev pub IsAlike : Option Resource → Option Resource → Type 0
IsAlike None None = Unit {0}
IsAlike (Some r) (Some r') = IsSame r r'
IsAlike _ _ = ⊥

-- ---- what changes it

-- the target of the request names the path
abbrev pub NamesHere : Server → Request (List ℕ) → Path → Type 0
NamesHere before request p = (path : PathText) × Names before.options request path × (p ≡ segments path.bytes)

-- or one above it
abbrev pub NamesFront : Server → Request (List ℕ) → Path → Type 0
NamesFront before request p = (path : PathText) × Names before.options request path × (is_front (segments path.bytes) p ≡ true)

-- its `Destination` leads there, or above
abbrev pub LeadsAbove : Server → Request (List ℕ) → Path → Type 0
LeadsAbove before request p = (target : PathText)
    × IsDestination (site_for before.options request) before.options.prefix (head_of request).headers target × (is_front (segments target.bytes) p ≡ true)

-- A request of a method changes what stands at the path, by how it ended: a PUT, a MKCOL, a LOCK or a PROPPATCH of the path that is done, of which a MKCOL and a LOCK make something
-- where nothing stands; a DELETE or a MOVE of it, or of one above it, that is done; a COPY or a MOVE to it, or to one above it, that is done, or lacked memory.
abbrev pub Touches : Server → Request (List ℕ) → Path → Option DavMethod → Result ℕ Fault → Type 0
Touches before request p (Some method.Put) (Ok status) = NamesHere before request p
Touches before request p (Some method.MkCol) (Ok status) = NamesHere before request p × (at_path before.state.map p ≡ None)
Touches before request p (Some method.Lock) (Ok status) = NamesHere before request p × (at_path before.state.map p ≡ None)
Touches before request p (Some method.PropPatch) (Ok status) = NamesHere before request p
Touches before request p (Some method.Delete) (Ok status) = NamesFront before request p
Touches before request p (Some method.Move) (Ok status) = NamesFront before request p ⊎ LeadsAbove before request p
Touches before request p (Some method.Move) (Err e) = (e ≡ fault.InsufficientStorage) × LeadsAbove before request p
Touches before request p (Some method.Copy) (Ok status) = LeadsAbove before request p
Touches before request p (Some method.Copy) (Err e) = (e ≡ fault.InsufficientStorage) × LeadsAbove before request p
Touches before request p _ _ = ⊥

-- ---- over a run

-- what a server becomes by answers that don't touch the path, with its clock set between them
pub data LeavesPath (p : Path) (s : Server) : Server → Type 0 where
  itself : LeavesPath p s s
  by_clock : (mid : Server) (now : ℕ) → LeavesPath p s mid → LeavesPath p s (record mid { clock = now })
  by_answer : (mid after : Server) (request : Request (List ℕ)) (response : Response) → LeavesPath p s mid → (h : Answers mid request response after)
      → ¬ Touches mid request p h.method h.result → LeavesPath p s after
