-- The errors of requests: the status of a reply, its kind, and whether the connection is closed (RFC 4918 section 11, RFC 9110
-- section 15; the tables are this project's own).
use Rattle.std.specs.Prelude.{ℕ, Bool, true, false}
use Rattle.std.specs.declared.io.ErrorKind.{ErrorKind}
use Rattle.std.specs.declared.io.ErrorKind.TheVariants as kind
use Rattle.dav_path_core.specs.declared.davpath.ParseError.{ParseError}
use Rattle.dav_path_core.specs.declared.davpath.ParseError.TheVariants as parse
use Rattle.dav_path_core.specs.declared.errors.FsError.{FsError}
use Rattle.dav_path_core.specs.declared.errors.FsError.TheVariants as fs
use Rattle.dav_path_core.specs.declared.errors.DavError.{DavError}
use Rattle.dav_path_core.specs.declared.errors.DavError.TheVariants.{XmlReadError, XmlParseError, InvalidPath, IllegalPath, ForbiddenPath, UnknownDavMethod, ChanError, Utf8Error, Status, StatusClose, FsError as OfFiles, IoError, XmlReaderError, XmlWriterError}
use Rattle.dav_path_core.specs.Errors.{fs_status, fs_kind}

abbrev pub io_status : ErrorKind → ℕ
io_status kind.NotFound = 404
io_status kind.PermissionDenied = 403
io_status kind.AlreadyExists = 409
io_status kind.TimedOut = 504
io_status _ = 502

abbrev pub dav_status : DavError → ℕ
dav_status XmlReadError = 400
dav_status XmlParseError = 400
dav_status InvalidPath = 400
dav_status IllegalPath = 502
dav_status ForbiddenPath = 403
dav_status UnknownDavMethod = 501
dav_status ChanError = 500
dav_status Utf8Error = 415
dav_status (Status code) = code
dav_status (StatusClose code) = code
dav_status (OfFiles e) = fs_status e
dav_status (IoError k) = io_status k
dav_status XmlReaderError = 400
dav_status XmlWriterError = 500

abbrev pub closes_after : FsError → Bool
closes_after fs.NotFound = false
closes_after fs.Forbidden = false
closes_after fs.Exists = false
closes_after _ = true

abbrev pub closes_connection : DavError → Bool
closes_connection (Status code) = false
closes_connection (OfFiles e) = closes_after e
closes_connection _ = true

abbrev pub dav_kind : DavError → ErrorKind
dav_kind (OfFiles e) = fs_kind e
dav_kind (IoError k) = k
dav_kind _ = kind.Other

-- the error of a request whose path is refused
abbrev pub error_of_path : ParseError → DavError
error_of_path parse.InvalidPath = InvalidPath
error_of_path parse.PrefixMismatch = IllegalPath
error_of_path parse.ForbiddenPath = ForbiddenPath
error_of_path parse.OutOfMemory = OfFiles fs.InsufficientStorage
