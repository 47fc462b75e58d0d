-- The status and the kind of each error of a call on files (RFC 4918 section 11, RFC 9110 section 15; the table is this project's own).
use Rattle.std.specs.Prelude.{ℕ}
use Rattle.std.specs.declared.io.ErrorKind.{ErrorKind}
use Rattle.std.specs.declared.io.ErrorKind.TheVariants as kind
use Rattle.dav_path_core.specs.declared.errors.FsError.{FsError}
use Rattle.dav_path_core.specs.declared.errors.FsError.TheVariants.{NotImplemented, GeneralFailure, Exists, NotFound, Forbidden, InsufficientStorage, LoopDetected, PathTooLong, TooLarge, IsRemote}

abbrev pub fs_status : FsError → ℕ
fs_status NotImplemented = 501
fs_status GeneralFailure = 500
fs_status Exists = 405
fs_status NotFound = 404
fs_status Forbidden = 403
fs_status InsufficientStorage = 507
fs_status LoopDetected = 508
fs_status PathTooLong = 414
fs_status TooLarge = 413
fs_status IsRemote = 502

abbrev pub fs_kind : FsError → ErrorKind
fs_kind NotImplemented = kind.Other
fs_kind GeneralFailure = kind.Other
fs_kind Exists = kind.AlreadyExists
fs_kind NotFound = kind.NotFound
fs_kind Forbidden = kind.PermissionDenied
fs_kind InsufficientStorage = kind.Other
fs_kind LoopDetected = kind.Other
fs_kind PathTooLong = kind.Other
fs_kind TooLarge = kind.Other
fs_kind IsRemote = kind.Other
