-- Where a request leads, by what its parts say.
use Rattle.std.proofs.Common.{◌≡◌, ◌⊎◌, inl, inr, ℕ, List, Some, None, Result, Ok, Err, IfOk, IfErr, false, sym, subst}
use Rattle.http_header.specs.FieldValue.{FieldValue}
use Rattle.http_header.specs.HeaderMap.{Entries}
use Rattle.url.specs.Parts.{Parts}
use Rattle.dav_path_core.specs.declared.davpath.ParseError.{ParseError}
use Rattle.dav_path_core.specs.PathText.{PathText}
use Rattle.dav_headers_core.specs.Destinations.{is_rooted}
use Rattle.dav_headers_core.specs.Urls.{url_of}
use Rattle.dav_faults_core.specs.declared.faults.Fault.{Fault}
use Rattle.dav_faults_core.specs.declared.faults.Fault.TheVariants as fault
use Rattle.dav_fields_core.specs.Bases.{IsBase, Site}
use Rattle.dav_fields_core.specs.TransferDestinations.{IsDestination, LeadsNowhere, LeadsTo, NamesText, fault_of}
use Rattle.dav_fields_core.specs.TransferDestinations.LeadsNowhere.{memory, no_text, no_url, no_host, no_path}
use Rattle.dav_fields_core.specs.Targets.{IsPathOf, RefusesPath}

module _ (site : Site) (prefix : List ℕ) (headers : Entries FieldValue) where
  abbrev Nowhere : Fault → Type 0
  Nowhere e = LeadsNowhere site prefix headers e

  pub without_text : (e : Fault) → (e ≡ fault.BadRequest) × ((text : List ℕ) → ¬ NamesText headers text) → LeadsNowhere site prefix headers e
  without_text e h = subst Nowhere (sym h.0) (no_text h.1)

  module _ (text : List ℕ) (names : NamesText headers text) where
    pub without_url : (e : Fault) → is_rooted text ≡ false → (e ≡ fault.InsufficientStorage) ⊎ ((e ≡ fault.BadRequest) × (url_of text ≡ None))
        → LeadsNowhere site prefix headers e
    without_url e rooted (inl short) = subst Nowhere (sym short) memory
    without_url e rooted (inr h) = subst Nowhere (sym h.0) (no_url text names rooted h.1)

    pub without_host : (e : Fault) → is_rooted text ≡ false
        → (e ≡ fault.InsufficientStorage) ⊎ ((e ≡ fault.BadRequest) × ((base : Parts) → ¬ IsBase site headers base)) → LeadsNowhere site prefix headers e
    without_host e rooted (inl short) = subst Nowhere (sym short) memory
    without_host e rooted (inr h) = subst Nowhere (sym h.0) (no_host text names rooted h.1)

    module _ (at : List ℕ) (leads : LeadsTo site headers text (Some at)) where
      pub with_path : (r : Result PathText Fault) → IfOk r (λ path. IsPathOf prefix at path) → IfOk r (λ path. IsDestination site prefix headers path)
      with_path (Ok path) h = record { text = text; names = names; at = at; leads = leads; path_of = h }
      with_path (Err e) h = tt

      pub without_path : (r : Result PathText Fault) → IfErr r (λ e. (error : ParseError) × (e ≡ fault_of error) × RefusesPath prefix at error)
          → IfErr r (λ e. LeadsNowhere site prefix headers e)
      without_path (Ok path) h = tt
      without_path (Err e) h = subst Nowhere (sym h.1) (no_path text at h.0 names leads h.2)
