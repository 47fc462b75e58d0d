-- The error that stands for one of the operating system, by its Linux number, and else by its kind (own).
use Rattle.std.specs.Prelude.{ℕ, ℤ, pos, negsuc, ◌||◌, ◌==◌, Option, Some, None, if◌then◌else◌}
use Rattle.std.specs.declared.io.ErrorKind.{ErrorKind}
use Rattle.std.specs.declared.io.ErrorKind.TheVariants as kind
use Rattle.dav_path_core.specs.declared.errors.FsError.{FsError}
use Rattle.dav_path_core.specs.declared.errors.FsError.TheVariants.{NotImplemented, GeneralFailure, Exists, NotFound, Forbidden, InsufficientStorage, LoopDetected, PathTooLong, TooLarge, IsRemote}

-- the numbers that decide by themselves
abbrev pub error_of_number : ℕ → Option FsError
error_of_number n =
    if n == 28 || n == 31 || n == 122 then Some InsufficientStorage else (
    if n == 27 then Some TooLarge else (
    if n == 1 || n == 13 || n == 20 || n == 21 || n == 30 then Some Forbidden else (
    if n == 17 || n == 39 then Some Exists else (
    if n == 40 then Some LoopDetected else (
    if n == 36 then Some PathTooLong else (
    if n == 2 then Some NotFound else (
    if n == 38 then Some NotImplemented else (
    if n == 18 then Some IsRemote else None))))))))

abbrev pub error_of_kind : ErrorKind → FsError
error_of_kind kind.NotFound = NotFound
error_of_kind kind.PermissionDenied = Forbidden
error_of_kind _ = GeneralFailure

abbrev pub or_by_kind : Option FsError → ErrorKind → FsError
or_by_kind (Some e) k = e
or_by_kind None k = error_of_kind k

-- without a number it is `NotImplemented`, whatever the kind
abbrev pub error_of_os : Option ℤ → ErrorKind → FsError
error_of_os None k = NotImplemented
error_of_os (Some (pos n)) k = or_by_kind (error_of_number n) k
error_of_os (Some (negsuc n)) k = error_of_kind k
