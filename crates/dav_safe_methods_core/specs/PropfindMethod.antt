-- What a PROPFIND is told, and why it is refused (RFC 4918 sections 9.1 and 10.2).
use Rattle.std.specs.Prelude.{◌≡◌, ◌≢◌, ℕ, Bool, true, List, [], ◌∷◌, None, Some, IsSome}
use Rattle.http_header.specs.FieldValue.{FieldValue}
use Rattle.http_header.specs.HeaderMap.{Entries}
use Rattle.dav_path_core.specs.Fronts.{Path}
use Rattle.dav_headers_core.specs.declared.davheaders.depths.Depth.{Depth}
use Rattle.dav_headers_core.specs.declared.davheaders.depths.Depth.TheVariants as reach
use Rattle.dav_files_core.specs.Resources.{ResourceMap, at_path}
use Rattle.dav_guarded_core.specs.Step.{State}
use Rattle.dav_faults_core.specs.declared.faults.Fault.{Fault}
use Rattle.dav_faults_core.specs.declared.faults.Fault.TheVariants as fault
use Rattle.dav_session_core.specs.Callers.{Caller}
use Rattle.dav_fields_core.specs.Reaches.{depth_in}
use Rattle.dav_fields_core.specs.Fields.{Sent}
use Rattle.dav_documents_core.specs.Pieces.{written_pieces}
use Rattle.dav_session_core.specs.DepthPlaces.{AreWithin, HasOddWithin}
use Rattle.dav_safe_methods_core.specs.PropertyAnswers.{Describes}
use Rattle.dav_documents_core.specs.PropertyDocuments.{Description, multistatus}
use Rattle.dav_documents_core.specs.PropertyQuestions.{Question, question_in}
use Rattle.dav_safe_methods_core.specs.SentDocuments.{document_sent}

-- what is told of each place, in order
abbrev pub DescribesEach : List ℕ → State → List Path → List Description → Type 0
DescribesEach prefix s [] [] = Unit {0}
DescribesEach prefix s [] (d ∷ resources) = ⊥
DescribesEach prefix s (p ∷ places) [] = ⊥
DescribesEach prefix s (p ∷ places) (d ∷ resources) =
    Describes prefix s p d × DescribesEach prefix s places resources

-- It reaches so far. A server that tells of no resources all the way down has a finite depth.
abbrev pub ReachesTo : Bool → Entries FieldValue → Depth → Type 0
ReachesTo finite headers depth =
    (depth_in headers ≡ Some depth) × (finite ≡ true → depth ≢ reach.Infinity)

-- The body of the answer: of each place within the depth, what is asked for. Something stands at
-- the path, and each place has a name that a path can have which is read.
pub record Finds (finite : Bool) (prefix : List ℕ) (headers : Entries FieldValue) (body : List ℕ)
    (s : State) (who : Caller) (p : Path) (told : List ℕ) : Type 0 where
  pub depth : Depth
  pub reaches : ReachesTo finite headers depth
  pub question : Question
  pub question_is : question_in body ≡ Some question
  pub stands : IsSome (at_path s.map p)
  pub plain : ¬ HasOddWithin depth s.map p
  pub places : List Path
  pub within : AreWithin depth s.map p places
  pub resources : List Description
  pub described : DescribesEach prefix s places resources
  pub told_is : told ≡ written_pieces (multistatus prefix who.principal who.now question resources)

-- 207, with that body as a document
abbrev pub TellsFound : Bool → List ℕ → Entries FieldValue → List ℕ → Sent → State → Caller → Path
    → ℕ → State → Type 0
TellsFound finite prefix headers body sent s who p status s' =
    (status ≡ 207) × (sent ≡ document_sent sent.body)
    × Finds finite prefix headers body s who p sent.body

-- Each refusal, and where it comes: first a depth that can't be read; then all the way down, where
-- the server refuses that; then a body that asks for nothing of the kind; then nothing stands
-- there; or a name within the depth that no path has which is read.
pub data FailsToFind (finite : Bool) (headers : Entries FieldValue) (body : List ℕ)
    (m : ResourceMap) (p : Path) : Fault → Type 0 where
  memory : FailsToFind finite headers body m p fault.InsufficientStorage
  unread : depth_in headers ≡ None → FailsToFind finite headers body m p fault.BadRequest
  endless : finite ≡ true → depth_in headers ≡ Some reach.Infinity
      → FailsToFind finite headers body m p fault.InfiniteDepth
  unasked : (d : Depth) → ReachesTo finite headers d → question_in body ≡ None
      → FailsToFind finite headers body m p fault.BadRequest
  missing : (d : Depth) (q : Question) → ReachesTo finite headers d → question_in body ≡ Some q
      → at_path m p ≡ None → FailsToFind finite headers body m p fault.NotFound
  odd : (d : Depth) (q : Question) → ReachesTo finite headers d → question_in body ≡ Some q
      → HasOddWithin d m p → FailsToFind finite headers body m p fault.BadRequest

abbrev pub FailsToTell : Bool → Entries FieldValue → List ℕ → State → Caller → Path → Fault → Type 0
FailsToTell finite headers body s who p e = FailsToFind finite headers body s.map p e
