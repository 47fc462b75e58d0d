-- Why a request is refused, and the status of each fault (RFC 9110 section 15, RFC 4918 section 11).
use Rattle.std.specs.Prelude.{ℕ}
use Rattle.dav_path_core.specs.declared.davpath.ParseError.{ParseError}
use Rattle.dav_path_core.specs.declared.davpath.ParseError.TheVariants as parse
use Rattle.dav_headers_core.specs.declared.davheaders.errors.HeaderError.{HeaderError}
use Rattle.dav_headers_core.specs.declared.davheaders.errors.HeaderError.TheVariants as header
use Rattle.dav_xml_core.specs.declared.davxml.errors.XmlError.{XmlError}
use Rattle.dav_xml_core.specs.declared.davxml.errors.XmlError.TheVariants as xml
use Rattle.dav_faults_core.specs.declared.faults.Fault.{Fault}
use Rattle.dav_faults_core.specs.declared.faults.Fault.TheVariants.{MemberLocked, ConflictingMember, BadRequest, Unauthorized, Forbidden, InfiniteDepth, NotFound, MethodNotAllowed, Conflict, NoSuchLock, PreconditionFailed, UnsupportedMediaType, Locked, ConflictingLock, NotImplemented, BadGateway, ServiceUnavailable, InsufficientStorage}

abbrev pub fault_status : Fault → ℕ
fault_status (MemberLocked path) = 207
fault_status (ConflictingMember at path) = 207
fault_status BadRequest = 400
fault_status Unauthorized = 401
fault_status Forbidden = 403
fault_status InfiniteDepth = 403
fault_status NotFound = 404
fault_status (MethodNotAllowed folder) = 405
fault_status Conflict = 409
fault_status NoSuchLock = 409
fault_status PreconditionFailed = 412
fault_status UnsupportedMediaType = 415
fault_status (Locked path) = 423
fault_status (ConflictingLock path) = 423
fault_status NotImplemented = 501
fault_status BadGateway = 502
fault_status ServiceUnavailable = 503
fault_status InsufficientStorage = 507

-- the fault of a request whose path is refused
abbrev pub fault_of_path : ParseError → Fault
fault_of_path parse.InvalidPath = BadRequest
fault_of_path parse.PrefixMismatch = NotFound
fault_of_path parse.ForbiddenPath = Forbidden
fault_of_path parse.OutOfMemory = InsufficientStorage

-- the fault of a request with a header that isn't read
abbrev pub fault_of_header : HeaderError → Fault
fault_of_header header.Invalid = BadRequest
fault_of_header header.OutOfMemory = InsufficientStorage

-- the fault of a body that is no document
abbrev pub fault_of_xml : XmlError → Fault
fault_of_xml (xml.NotWellFormed at) = BadRequest
fault_of_xml xml.DocumentType = BadRequest
fault_of_xml xml.Encoding = BadRequest
fault_of_xml xml.OutOfMemory = InsufficientStorage
