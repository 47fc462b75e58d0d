-- A request whose `If` is read, where nothing tells where URLs begin.
use Rattle.std.proofs.Common.{◌≡◌, ◌⊎◌, List, sym, subst, inl, inr}
use Rattle.http_header.specs.FieldValue.{FieldValue}
use Rattle.http_header.specs.HeaderMap.{Entries}
use Rattle.url.specs.Parts.{Parts}
use Rattle.dav_path_core.specs.PathText.{PathText}
use Rattle.dav_headers_core.specs.IfValues.{Located}
use Rattle.dav_guarded_core.specs.Step.{State}
use Rattle.dav_faults_core.specs.declared.faults.Fault.{Fault}
use Rattle.dav_faults_core.specs.declared.faults.Fault.TheVariants as fault
use Rattle.dav_methods_core.specs.Admitting.{IsHeldOff}
use Rattle.dav_fields_core.specs.Bases.{IsBase, Site}
use Rattle.dav_fields_core.specs.RootedTags.{IfSays}

-- a request with an `If` that is read, and no base
pub no_base : (site : Site) (s : State) (headers : Entries FieldValue) (here : PathText) (lists : List Located) (e : Fault)
    → IfSays site headers lists
    → (e ≡ fault.InsufficientStorage) ⊎ ((e ≡ fault.BadRequest) × ((base : Parts) → ¬ IsBase site headers base)) → IsHeldOff site s headers here e
no_base site s headers here lists e reads (inl short) = subst (IsHeldOff site s headers here) (sym short) tt
no_base site s headers here lists e reads (inr none) = subst (IsHeldOff site s headers here) (sym none.0) (inr (lists, reads, none.1))
