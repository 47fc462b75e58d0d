-- What a body that isn't empty asks for.
use Rattle.std.proofs.Common.{◌≡◌, ℕ, false, nat_eq, List, [], ◌∷◌, length, Some, ap}
use Rattle.std.specs.Prelude.{option_and_then}
use Rattle.std.proofs.lemmas.Bool.{true≢false}
use Rattle.dav_xml_core.specs.Documents.{Node}
use Rattle.dav_xml_core.specs.Reading.{document_of}
use Rattle.dav_documents_core.specs.PropertyQuestions.{asked_in, question_in}

pub asked_of : (body : List ℕ) (nodes : List Node) → nat_eq (length body) 0 ≡ false → document_of body ≡ Some nodes → question_in body ≡ asked_in nodes
asked_of [] nodes some read = absurd (true≢false some)
asked_of (b ∷ bytes) nodes some read = ap (option_and_then asked_in) read
