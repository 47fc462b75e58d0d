-- What the body of a request is read as, and why it isn't (RFC 4918 section 8.2).
use Rattle.std.specs.Prelude.{◌≡◌, ◌⊎◌, Option, None, Some, Result, Ok, Err}
use Rattle.dav_faults_core.specs.declared.faults.Fault.{Fault}
use Rattle.dav_faults_core.specs.declared.faults.Fault.TheVariants.{BadRequest, InsufficientStorage}

-- there is nothing that it is to be read as; or there is no memory for it
abbrev pub IsUnread : {U : Type 0} → Fault → Option U → Type 0
IsUnread e expected = (e ≡ InsufficientStorage) ⊎ ((e ≡ BadRequest) × (expected ≡ None))

-- Ok exactly with what is expected, which `view` shows, out of memory aside; and `BadRequest` only where nothing is
abbrev pub IsReadAs : {T U : Type 0} → (T → U) → Result T Fault → Option U → Type 0
IsReadAs view (Ok x) expected = expected ≡ Some (view x)
IsReadAs view (Err e) expected = IsUnread e expected
