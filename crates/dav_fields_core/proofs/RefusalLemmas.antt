-- Why a request isn't read, by what its parts are refused with.
use Rattle.std.proofs.Common.{◌≡◌, ◌∙◌, ◌⊎◌, inl, inr, ℕ, List, [], ◌∷◌, ◌++◌, Option, Some, refl, sym, ap, subst}
use Rattle.http_header.specs.FieldValue.{FieldValue}
use Rattle.http_header.specs.HeaderMap.{Entries, get_all}
use Rattle.http_uri.specs.declared.uri.Uri.{Uri}
use Rattle.http_uri.specs.Uri.{uri_path}
use Rattle.dav_path_core.specs.declared.davpath.ParseError.{ParseError}
use Rattle.dav_path_core.specs.declared.davpath.ParseError.TheVariants as parse
use Rattle.dav_path_core.specs.Fault as path
use Rattle.dav_path_core.specs.Fault.Fault.{no_target, first}
use Rattle.dav_path_core.specs.Fault.IsFaultAt.{foreign, above}
use Rattle.dav_path_core.specs.PathText.{PathText, full}
use Rattle.dav_path_core.specs.Prefix.{NeedsSlash, SetsPrefix}
use Rattle.dav_path_core.specs.PathReading.{Read}
use Rattle.dav_headers_core.specs.declared.davheaders.errors.HeaderError.{HeaderError}
use Rattle.dav_headers_core.specs.declared.davheaders.errors.HeaderError.TheVariants as header
use Rattle.dav_headers_core.specs.IfValues.{Located, ReadsAs}
use Rattle.dav_faults_core.specs.declared.faults.Fault.TheVariants as fault
use Rattle.dav_faults_core.specs.Faults.{fault_of_path, fault_of_header}
use Rattle.dav_fields_core.specs.Targets.{IsPathOf, RefusesPath}
use Rattle.dav_fields_core.specs.RequestRefusals.{RefusesTarget, RefusesPrincipal}
use Rattle.dav_fields_core.specs.Senders.{NamesNobody}

-- ---- targets

at_fault : (prefix text : List ℕ) (pieces : List (List ℕ)) (k : ℕ) (e : ParseError) → path.IsFaultAt pieces k e → path.Fault text e
    → RefusesPath prefix text e
at_fault prefix text pieces k _ (foreign h) faulty = faulty
at_fault prefix text pieces k _ (above h) faulty = faulty

refuses_faulty : (prefix text : List ℕ) (e : ParseError) → path.Fault text e → RefusesPath prefix text e
refuses_faulty prefix text _ (no_target h) = no_target h
refuses_faulty prefix text _ (first e target f) = at_fault prefix text _ f.at e f.fault (first e target f)

-- a text that is no path
pub faulty_text : (prefix text : List ℕ) (e : ParseError) → (e ≡ parse.OutOfMemory) ⊎ path.Fault text e → RefusesPath prefix text e
faulty_text prefix text e (inl short) = subst (RefusesPath prefix text) (sym short) tt
faulty_text prefix text e (inr faulty) = refuses_faulty prefix text e faulty

module _ (prefix text whole front : List ℕ) (at_root : front ≡ []) (read : Read text whole) (e : ParseError)
    (why : ((e ≡ parse.OutOfMemory) × NeedsSlash (front ++ whole) prefix)
    ⊎ ((e ≡ parse.PrefixMismatch) × ((after q : List ℕ) → ¬ SetsPrefix (front ++ whole) prefix after q))) where
  whole_is : front ++ whole ≡ whole
  whole_is = ap (λ f. f ++ whole) at_root

  -- a path that isn't behind the prefix
  pub foreign_text : RefusesPath prefix text e
  foreign_text = elim why [
    | inl short ↦ subst (RefusesPath prefix text) (sym short.0) tt
    | inr behind ↦ subst (RefusesPath prefix text) (sym behind.0)
        (whole, read, subst (λ w. (after q : List ℕ) → ¬ SetsPrefix w prefix after q) whole_is behind.1)
  ]

  -- a text that is read as one behind the prefix is refused for memory alone
  pub foreign_only : ((bytes : List ℕ) → Read text bytes → whole ≡ bytes) → (path : PathText) → IsPathOf prefix text path → e ≡ parse.OutOfMemory
  foreign_only only path is = elim why [
    | inl short ↦ short.0
    | inr behind ↦ absurd (behind.1 (full path) path.prefix
        (subst (λ w. SetsPrefix w prefix (full path) path.prefix) (sym (only is.whole is.read) ∙ sym whole_is) is.sets))
  ]

-- the fault of a target that is refused
pub refuses_target : (prefix : List ℕ) (uri : Uri) (e : ParseError) → RefusesPath prefix (uri_path uri) e
    → (fault_of_path e ≡ fault.InsufficientStorage) ⊎ RefusesTarget prefix uri (fault_of_path e)
refuses_target prefix uri parse.InvalidPath h = inr h
refuses_target prefix uri parse.PrefixMismatch h = inr h
refuses_target prefix uri parse.ForbiddenPath h = inr h
refuses_target prefix uri parse.OutOfMemory h = inl refl

-- ---- senders

-- a value that names nobody
pub nobody_named : (named : Option (List ℕ)) (headers : Entries FieldValue) (name : List ℕ) (value : FieldValue) → named ≡ Some name
    → get_all headers name ≡ value ∷ [] → NamesNobody value → RefusesPrincipal named headers fault.Unauthorized
nobody_named named headers name value is_named only nobody =
    subst (λ (n : Option (List ℕ)). RefusesPrincipal n headers fault.Unauthorized) (sym is_named) (inr (value, only, nobody))

-- an `If` whose one value isn't read by itself
pub unread_if : (value : FieldValue) (values : List FieldValue) (e : HeaderError) → values ≡ value ∷ []
    → ((lists : List Located) → ReadsAs values lists → e ≡ header.OutOfMemory)
    → (fault_of_header e ≡ fault.InsufficientStorage)
    ⊎ ((fault_of_header e ≡ fault.BadRequest) × ((lists : List Located) → ¬ ReadsAs (value ∷ []) lists))
unread_if value values header.OutOfMemory only read = inl refl
unread_if value values header.Invalid only read =
    inr (refl, λ lists h. apart (read lists (subst (λ v. ReadsAs v lists) (sym only) h)))
  where
    apart : header.Invalid ≡ header.OutOfMemory → ⊥
    apart h = cc
