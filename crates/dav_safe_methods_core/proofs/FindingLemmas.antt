-- What is told of places one after another, and why nothing is told.
use Rattle.std.proofs.Common.{Bool, true, false, ◌≡◌, ◌≢◌, ◌⊎◌, inl, inr, ℕ, ◌+◌, ◌<◌, List, [], ◌∷◌, codes, length, map, drop, get_or, Option, Some, None, refl, sym, ap, ◌∙◌, subst}
use Rattle.std.specs.Prelude.{flat_map, if◌then◌else◌}
use Rattle.std.proofs.lemmas.List.{drop_more}
use Rattle.dav_xml_core.specs.Writing.{Writing}
use Rattle.http_header.specs.FieldValue.{FieldValue}
use Rattle.http_header.specs.HeaderMap.{Entries, get_all}
use Rattle.dav_path_core.specs.Fronts.{Path}
use Rattle.dav_headers_core.specs.declared.davheaders.depths.Depth.{Depth}
use Rattle.dav_headers_core.specs.declared.davheaders.depths.Depth.TheVariants as reach
use Rattle.dav_files_core.specs.Resources.{ResourceMap}
use Rattle.dav_guarded_core.specs.Step.{State}
use Rattle.dav_faults_core.specs.declared.faults.Fault.{Fault}
use Rattle.dav_faults_core.specs.declared.faults.Fault.TheVariants as fault
use Rattle.dav_headers_core.specs.Depths.{depth_of}
use Rattle.dav_fields_core.specs.Reaches.{depth_by, depth_in, depth_spelled}
use Rattle.dav_session_core.specs.Callers.{Caller}
use Rattle.dav_safe_methods_core.specs.PropfindMethod.{FailsToFind, ReachesTo}
use Rattle.dav_documents_core.specs.Pieces.{and_pieces}
use Rattle.dav_safe_methods_core.specs.Private.Telling.{TellsEach, TellsOne}
use Rattle.dav_session_core.specs.Placed.{IsNowhere}
use Rattle.dav_documents_core.specs.PropertyDocuments.{response_pieces}
use Rattle.dav_documents_core.specs.PropertyQuestions.{Question, question_in}
use Rattle.dav_documents_core.proofs.PieceLemmas.{in_turn}

-- ---- one place, and those behind it

module _ (prefix : List ℕ) (s : State) (who : Caller) (question : Question) where
  pub tells_none : (w : Writing) → TellsEach prefix s who question [] w w
  tells_none w = record { resources = []; described = tt; written = refl }

  tells_more : (p : Path) (places : List Path) (was mid now : Writing) → TellsOne prefix s who question p was mid → TellsEach prefix s who question places mid now
      → TellsEach prefix s who question (p ∷ places) was now
  tells_more p places was mid now one rest = record {
    resources = one.resource ∷ rest.resources;
    described = (one.described, rest.described);
    written = rest.written ∙ ap (λ (w : Writing). and_pieces w (flat_map (response_pieces prefix who.principal who.now question) rest.resources)) one.written
        ∙ sym (in_turn was (response_pieces prefix who.principal who.now question one.resource) (flat_map (response_pieces prefix who.principal who.now question) rest.resources));
  }

  -- in a list that code goes over
  pub tells_on : {A : Type 0} (view : A → Path) (xs : List A) (i : ℕ) (x : A) (was mid now whole : Writing) → i < length xs → x ≡ get_or xs i x
      → TellsOne prefix s who question (view x) was mid
      → (TellsEach prefix s who question (map view (drop i xs)) was now → TellsEach prefix s who question (map view xs) whole now)
      → TellsEach prefix s who question (map view (drop (i + 1) xs)) mid now → TellsEach prefix s who question (map view xs) whole now
  tells_on view xs i x was mid now whole lt is one all rest =
      all (subst (λ ys. TellsEach prefix s who question (map view ys) was now) (sym (drop_more xs i x lt ∙ ap (λ y. y ∷ drop (i + 1) xs) (sym is)))
      (tells_more (view x) (map view (drop (i + 1) xs)) was mid now one rest))

-- ---- why nothing is told

either_apart : (b : Bool) (x y : Option Depth) → x ≢ Some reach.Default → y ≢ Some reach.Default
    → (if b then x else y) ≢ Some reach.Default
either_apart true x y h k = h
either_apart false x y h k = k

spelled : (text : List ℕ) → depth_spelled text ≢ Some reach.Default
spelled text =
    either_apart _ (Some reach.Infinity) (depth_of text) (λ is. cc)
    (either_apart _ (Some reach.Infinity) _ (λ is. cc)
    (either_apart _ (Some reach.Zero) _ (λ is. cc)
    (either_apart _ (Some reach.One) None (λ is. cc) (λ is. cc))))

-- no value of `Depth` is read as the depth that stands for none
never_default : (values : List FieldValue) → depth_by values ≢ Some reach.Default
never_default [] is = cc
never_default (value ∷ []) is = spelled value.bytes is
never_default (value ∷ (other ∷ more)) is = cc

module _ (finite : Bool) (headers : Entries FieldValue) (body : List ℕ) (m : ResourceMap) (p : Path) where
  told_as : (e other : Fault) → e ≡ other → FailsToFind finite headers body m p other → FailsToFind finite headers body m p e
  told_as e other same h = subst (FailsToFind finite headers body m p) (sym same) h

  pub by_memory : (e : Fault) → e ≡ fault.InsufficientStorage → FailsToFind finite headers body m p e
  by_memory e same = told_as e fault.InsufficientStorage same FailsToFind.memory

  pub by_depth : (e : Fault)
      → ((e ≡ fault.BadRequest) × (depth_in headers ≡ None))
      ⊎ ((e ≡ fault.InfiniteDepth) × (finite ≡ true) × (depth_in headers ≡ Some reach.Infinity))
      → FailsToFind finite headers body m p e
  by_depth e (inl bad) = told_as e fault.BadRequest bad.0 (FailsToFind.unread bad.1)
  by_depth e (inr deep) = told_as e fault.InfiniteDepth deep.0 (FailsToFind.endless deep.1 deep.2)

  pub by_question : (e : Fault) (d : Depth) → ReachesTo finite headers d
      → (e ≡ fault.InsufficientStorage) ⊎ ((e ≡ fault.BadRequest) × (question_in body ≡ None))
      → FailsToFind finite headers body m p e
  by_question e d is (inl short) = by_memory e short
  by_question e d is (inr bad) = told_as e fault.BadRequest bad.0 (FailsToFind.unasked d is bad.1)

  pub by_places : (e : Fault) (d : Depth) (q : Question) → ReachesTo finite headers d
      → question_in body ≡ Some q → IsNowhere d m p e → FailsToFind finite headers body m p e
  by_places e d q is asks (inl short) = by_memory e short
  by_places e d q is asks (inr (inl none)) =
      told_as e fault.NotFound none.0 (FailsToFind.missing d q is asks none.1)
  by_places e d q is asks (inr (inr bad)) = told_as e fault.BadRequest bad.0 (elim bad.1 [
    | inl other ↦ absurd (never_default (get_all headers (codes "depth"))
        (is.0 ∙ ap Some other))
    | inr odd ↦ FailsToFind.odd d q is asks odd
  ])
