-- What follows from the conditions of HTTP for a method that changes something (RFC 9110 section
-- 13.2.1).
use Rattle.std.specs.Prelude.{◌≡◌, ◌⊎◌, Option, None, Some, Result, Ok, Err}
use Rattle.http_header.specs.FieldValue.{FieldValue}
use Rattle.http_header.specs.HeaderMap.{Entries}
use Rattle.dav_path_core.specs.declared.util.DavMethod.{DavMethod}
use Rattle.dav_path_core.specs.Fronts.{Path}
use Rattle.dav_files_core.specs.Resources.{ResourceMap}
use Rattle.dav_faults_core.specs.declared.faults.Fault.{Fault}
use Rattle.dav_faults_core.specs.declared.faults.Fault.TheVariants as fault
use Rattle.dav_fields_core.specs.declared.preconditions.Course.{Course}
use Rattle.dav_fields_core.specs.declared.preconditions.Course.TheVariants as course
use Rattle.dav_fields_core.specs.FileTags.{standing_at}
use Rattle.dav_fields_core.specs.Preconditions.{course_of}

-- it is done, or refused
abbrev pub changes_by : Option Course → Result (Unit {0}) Fault
changes_by None = Err fault.BadRequest
changes_by (Some course.PreconditionFailed) = Err fault.PreconditionFailed
changes_by (Some course.NotModified) = Err fault.PreconditionFailed
changes_by (Some course.Whole) = Ok tt
changes_by (Some course.Proceed) = Ok tt

-- of a method at a path, by what stands there
abbrev pub change_course : DavMethod → ResourceMap → Path → Entries FieldValue → Result (Unit {0}) Fault
change_course m map p headers = changes_by (course_of m (standing_at map p) headers)

-- Why a method is refused: it can't be done; or it could be, and the conditions don't let it.
abbrev pub IsStopped : (Fault → Type 0) → Type 0 → Result (Unit {0}) Fault → Fault → Type 0
IsStopped Cant Can course e = Cant e ⊎ (Can × (course ≡ Err e))
