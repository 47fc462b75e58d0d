-- How the places of a PROPFIND are told of one after another. Private contracts alone speak of it.
use Rattle.std.specs.Prelude.{◌≡◌, ℕ, List, flat_map}
use Rattle.dav_xml_core.specs.Writing.{Writing}
use Rattle.dav_path_core.specs.Fronts.{Path}
use Rattle.dav_guarded_core.specs.Step.{State}
use Rattle.dav_session_core.specs.Callers.{Caller}
use Rattle.dav_safe_methods_core.specs.PropfindMethod.{DescribesEach}
use Rattle.dav_documents_core.specs.Pieces.{and_pieces}
use Rattle.dav_safe_methods_core.specs.PropertyAnswers.{Describes}
use Rattle.dav_documents_core.specs.PropertyDocuments.{Description, response_pieces}
use Rattle.dav_documents_core.specs.PropertyQuestions.{Question}

-- the response to the question about one place is written behind what was written
pub record TellsOne (prefix : List ℕ) (s : State) (who : Caller) (question : Question)
    (p : Path) (was now : Writing) : Type 0 where
  pub resource : Description
  pub described : Describes prefix s p resource
  pub written : now ≡ and_pieces was (response_pieces prefix who.principal who.now question resource)

-- of each of the places, in order
pub record TellsEach (prefix : List ℕ) (s : State) (who : Caller) (question : Question)
    (places : List Path) (was now : Writing) : Type 0 where
  pub resources : List Description
  pub described : DescribesEach prefix s places resources
  pub written : now ≡ and_pieces was (flat_map
      (response_pieces prefix who.principal who.now question) resources)
