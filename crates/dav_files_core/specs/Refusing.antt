-- Why a call is refused, whatever file system it is made on.
use Rattle.std.specs.Prelude.{◌≡◌, ◌⊎◌, Result, Err}
use Rattle.dav_path_core.specs.declared.errors.FsError.{FsError}
use Rattle.dav_path_core.specs.declared.errors.FsError.TheVariants.{NotImplemented, GeneralFailure, InsufficientStorage}

-- refused as the outcome says, or since there is no room, or since the medium fails
abbrev pub RefusesAs : {A : Type 0} → Result A FsError → FsError → Type 0
RefusesAs outcome e = (outcome ≡ Err e) ⊎ ((e ≡ InsufficientStorage) ⊎ (e ≡ GeneralFailure))

-- the same of a call that need not be offered
abbrev pub RefusesAsOffered : {A : Type 0} → Result A FsError → FsError → Type 0
RefusesAsOffered outcome e = (e ≡ NotImplemented) ⊎ RefusesAs outcome e
