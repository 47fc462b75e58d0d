-- What a server is, whose a request to it is, and which path it names (own).
use Rattle.std.specs.Prelude.{Bool, ℕ, List, Option}
use Rattle.http.specs.declared.request.Request.{Request}
use Rattle.http.specs.Request.{head_of}
use Rattle.dav_path_core.specs.PathText.{PathText}
use Rattle.dav_guarded_core.specs.Step.{State}
use Rattle.dav_fields_core.specs.declared.bases.Scheme.{Scheme}
use Rattle.dav_fields_core.specs.Bases.{Site, site_of}
use Rattle.dav_session_core.specs.Callers.{Caller, IsSender}
use Rattle.dav_session_core.specs.Sessions.{Noting}
use Rattle.dav_fields_core.specs.Targets.{IsTargetOf}

-- the scheme of the server's URLs, the prefix that they stand behind, the header that names the principal, where there is one, the greatest timeout of a lock,
-- and whether a PROPFIND all the way down is refused
pub record Options : Type 0 where
  pub scheme : Scheme
  pub prefix : List ℕ
  pub user_header : Option (List ℕ)
  pub longest : Option ℕ
  pub finite : Bool

-- what a server is: its options, the state of its stores, the moment of the last request, what its clock says, and what it notes of what changes
pub record Server : Type 0 where
  pub options : Options
  pub state : State
  pub last : ℕ
  pub clock : ℕ
  pub noting : Noting

-- where it is sent: the scheme of the server, and the host of its target, where that has one
abbrev pub site_for : Options → Request (List ℕ) → Site
site_for options request = site_of options.scheme (head_of request).uri

-- the request is the caller's
abbrev pub IsFrom : Options → Request (List ℕ) → Caller → Type 0
IsFrom options request who =
    IsSender options.user_header (site_for options request) (head_of request).headers who

-- its target names the path
abbrev pub Names : Options → Request (List ℕ) → PathText → Type 0
Names options request path = IsTargetOf options.prefix (head_of request).uri path
