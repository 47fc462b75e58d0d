-- How a request begins. Private contracts alone speak of it.
use Rattle.std.specs.Prelude.{◌≡◌, ◌≢◌, ℕ, ◌<◌, Bool, true, List, []}
use Rattle.http.specs.declared.request.Request.{Request}
use Rattle.http.specs.Request.{body_of}
use Rattle.dav_path_core.specs.PathText.{PathText}
use Rattle.dav_faults_core.specs.declared.faults.Fault.{Fault}
use Rattle.dav_faults_core.specs.declared.faults.Fault.TheVariants as fault
use Rattle.dav_handler_core.specs.MethodAnswers.{Admits, Begins, HoldsOff}
use Rattle.dav_handler_core.specs.Server.{Server}
use Rattle.dav_session_core.specs.Callers.{Caller}

-- a request begins; one that may change something has a moment of its own
abbrev pub IsBegun : Server → Request (List ℕ) → Bool → Server → PathText → Caller → Type 0
IsBegun before request changes after path who = Begins before request after path who × (changes ≡ true → before.last < after.last)

-- it begins, and its `If` holds it off
abbrev pub IsHeld : Server → Request (List ℕ) → Server → Fault → Type 0
IsHeld before request after e =
    (path : PathText) × ((who : Caller) × Begins before request after path who × HoldsOff before request after path e)

-- it begins, its `If` lets it go on, and it has a body that its method takes no notice of
abbrev pub IsOverladen : Server → Request (List ℕ) → Server → Fault → Type 0
IsOverladen before request after e =
    (path : PathText) × ((who : Caller) × Begins before request after path who
    × Admits before request after path × (body_of request ≢ [])
    × (e ≡ fault.UnsupportedMediaType))
