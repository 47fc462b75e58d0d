-- What holds of each answer of a server, from new stores on, whatever bytes any number of clients send, in whatever pieces (RFC 4918 sections 6 and 7, RFC 9110 section 9).
use Rattle.std.specs.Prelude.{◌≡◌, ◌≢◌, ◌⊎◌, ℕ, List, [], ◌∷◌, ◌++◌, Option, None, Some, Ok, IfErr}
use Rattle.std.proofs.Common.{inl, inr}
use Rattle.http.specs.declared.request.Request.{Request}
use Rattle.http.specs.Request.{body_of, head_of}
use Rattle.http_server.specs.declared.response.Response.{Response}
use Rattle.http_server.specs.Exchange.{Call, Chain}
use Rattle.http_frames.specs.ConnectionEvents.{Event, Answered}
use Rattle.http_frames.specs.Gate.{TakesTurn}
use Rattle.http_frames.specs.TurnRuns.{EventDoes}
use Rattle.dav_path_core.specs.declared.util.DavMethod.{DavMethod}
use Rattle.dav_path_core.specs.declared.util.DavMethod.TheVariants as method
use Rattle.dav_path_core.specs.Fronts.{Path}
use Rattle.dav_path_core.specs.PathText.{PathText}
use Rattle.dav_path_core.specs.Segments.{segments}
use Rattle.dav_files_core.specs.declared.memfs.Kind.TheVariants.{File}
use Rattle.dav_files_core.specs.Resources.{Resource, ResourceMap, at_path}
use Rattle.dav_faults_core.specs.declared.faults.Fault.TheVariants as fault
use Rattle.dav_handler_core.specs.Answers.{Answers}
use Rattle.dav_handler_core.specs.Server.{Names, Server, site_for}
use Rattle.dav_session_core.specs.Callers.{SameLive}
use Rattle.dav_fields_core.specs.TransferDestinations.{IsDestination}
use Rattle.dav_handler_core.specs.Holding.{IsKeptUnderAny, IsKeptUnlessHeld, StandsUnlessEnded}
use Rattle.dav_handler_core.specs.Serving.{BeginsTurn, Clocked, Leads, Listed, Replies, Timing}
use Rattle.dav_handler_core.specs.TagHistories.{Becomes, Restarts}

-- ---- which bytes stand at a path

-- a file with these bytes stands there
abbrev pub StandsAt : ResourceMap → Path → List ℕ → Type 0
StandsAt m p bytes = (file : Resource) × (at_path m p ≡ Some file) × (file.node.kind ≡ File) × (file.node.bytes ≡ bytes)

-- the path is at or below the target of the COPY or MOVE, and this one at or below its source, as far
pub record Brings (before : Server) (request : Request (List ℕ)) (from to : Path) : Type 0 where
  pub source : PathText
  pub named : Names before.options request source
  pub target : PathText
  pub leads : IsDestination (site_for before.options request) before.options.prefix (head_of request).headers target
  pub rest : Path
  pub from_is : from ≡ segments source.bytes ++ rest
  pub to_is : to ≡ segments target.bytes ++ rest

-- the answer is to this method, and it was done
abbrev pub DoesMethod : {before after : Server} {request : Request (List ℕ)} {response : Response} → Answers before request response after → DavMethod → Type 0
DoesMethod h m = (h.method ≡ Some m) × ((status : ℕ) × (h.result ≡ Ok status))

-- The bytes that stand at a path, and how they came there since the server began: they were put there; a COPY or a MOVE brought them from a path where they had been left;
-- or a LOCK made an empty file where nothing stood. Each other answer, each moment that the clock tells, and each restart leaves them.
pub data IsLeft (begun : Server) : Server → Path → List ℕ → Type 0 where
  by_put : (before after : Server) (request : Request (List ℕ)) (response : Response) (path : PathText) → Becomes begun before → (h : Answers before request response after)
      → DoesMethod h method.Put → Names before.options request path → StandsAt after.state.map (segments path.bytes) (body_of request)
      → IsLeft begun after (segments path.bytes) (body_of request)
  by_transfer : (before after : Server) (request : Request (List ℕ)) (response : Response) (from to : Path) (bytes : List ℕ) → Becomes begun before
      → (h : Answers before request response after) → (h.method ≡ Some method.Copy) ⊎ (h.method ≡ Some method.Move) → Brings before request from to
      → IsLeft begun before from bytes → StandsAt after.state.map to bytes → IsLeft begun after to bytes
  by_lock : (before after : Server) (request : Request (List ℕ)) (response : Response) (path : PathText) → Becomes begun before → (h : Answers before request response after)
      → DoesMethod h method.Lock → Names before.options request path → at_path before.state.map (segments path.bytes) ≡ None → StandsAt after.state.map (segments path.bytes) []
      → IsLeft begun after (segments path.bytes) []
  by_answer : (before after : Server) (request : Request (List ℕ)) (response : Response) (p : Path) (bytes : List ℕ) → Answers before request response after
      → IsLeft begun before p bytes → StandsAt after.state.map p bytes → IsLeft begun after p bytes
  by_restart : (before after : Server) (p : Path) (bytes : List ℕ) → Restarts before after → IsLeft begun before p bytes → IsLeft begun after p bytes
  by_clock : (before : Server) (now : ℕ) (p : Path) (bytes : List ℕ) → IsLeft begun before p bytes → IsLeft begun (record before { clock = now }) p bytes

-- ---- each answer

-- A GET that is answered 200, of a file, has the bytes that were left at its path.
abbrev pub GetsWhatIsLeft : Server → Server → Request (List ℕ) → Response → Option DavMethod → Type 0
GetsWhatIsLeft begun before request response (Some method.Get) =
    response.status ≡ 200 → (path : PathText) × Names before.options request path
    × ((file : Resource) → at_path before.state.map (segments path.bytes) ≡ Some file → file.node.kind ≡ File
    → (response.body.items ≡ file.node.bytes) × IsLeft begun before (segments path.bytes) file.node.bytes)
GetsWhatIsLeft begun before request response _ = Unit {0}

pub record KeepsTo (begun before : Server) (request : Request (List ℕ)) (response : Response) (after : Server) : Type 0 where
  -- a path under an exclusive lock changes only by a request that names its token under its principal
  pub changed : IsKeptUnlessHeld before request after
  -- one under any lock only by a request that names such a token of a lock at the path or above
  pub any_changed : IsKeptUnderAny before request after
  -- a lock is ended, or given another timeout, by its holder alone, and else ended by time alone
  pub ended : StandsUnlessEnded before request after
  pub answer : Answers before request response after
  pub got : GetsWhatIsLeft begun before request response answer.method
  -- a refusal changes nothing, but that locks that have expired may be gone; one that lacked memory may have begun
  pub refused : IfErr answer.result (λ e. e ≢ fault.InsufficientStorage → SameLive after.last before.state after.state)

-- ---- of all answers

module _ {C : Type 0} (P : Server → Request (List ℕ) → Response → Server → Type 0) where
  -- of each of these calls, and its answer as it was made
  abbrev pub EachCall : (s : Timing C) (calls : List Call) (s' : Timing C) → Chain Replies s calls s' → Type 0
  EachCall s [] s' chain = Unit {0}
  EachCall s (c ∷ calls) s' chain = P s.server c.0 chain.1.0 chain.0.server × EachCall chain.0 calls s' chain.2

module _ {C : Type 0} (tells : C → Option ℕ → C → Type 0) (P : Server → Request (List ℕ) → Response → Server → Type 0) where
  -- of each call of a turn
  abbrev pub EachOfTurn : (s : Timing C) (number : ℕ) (calls : List Call) (s' : Timing C) → TakesTurn (BeginsTurn tells) Replies s number calls s' → Type 0
  EachOfTurn s number calls s' (inl none) = Unit {0}
  EachOfTurn s number calls s' (inr turn) = EachCall P turn.0 calls s' turn.2.chain

  -- no other event has calls
  abbrev pub EachOf : (s : Timing C) (e : Event) (s' : Timing C) → EventDoes (BeginsTurn tells) Replies Clocked Listed e s s' → Type 0
  EachOf s (Answered number calls) s' does = EachOfTurn s number calls s' does
  EachOf s _ s' does = Unit {0}

  -- of each request that the frames bring, one after another, each from the server that the one before it left
  abbrev pub EachAnswer : (s : Timing C) (events : List Event) (s' : Timing C) → Leads tells s events s' → Type 0
  EachAnswer s [] s' leads = Unit {0}
  EachAnswer s (e ∷ events) s' leads = EachOf s e leads.0 leads.1 × EachAnswer leads.0 events s' leads.2
