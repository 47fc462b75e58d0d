-- How a method is stopped by the conditions of HTTP.
use Rattle.std.proofs.Common.{◌≡◌, ◌⊎◌, inl, inr, ℕ, Option, None, Some, Result, Err, sym, subst}
use Rattle.http_header.specs.FieldValue.{FieldValue}
use Rattle.http_header.specs.HeaderMap.{Entries}
use Rattle.dav_path_core.specs.declared.util.DavMethod.{DavMethod}
use Rattle.dav_path_core.specs.Fronts.{Path}
use Rattle.dav_guarded_core.specs.Step.{State}
use Rattle.dav_faults_core.specs.declared.faults.Fault.{Fault}
use Rattle.dav_faults_core.specs.declared.faults.Fault.TheVariants as fault
use Rattle.dav_fields_core.specs.declared.preconditions.Course.{Course}
use Rattle.dav_fields_core.specs.declared.preconditions.Course.TheVariants as course
use Rattle.dav_session_core.specs.Callers.{SameLive}
use Rattle.dav_methods_core.specs.ChangeConditions.{IsStopped, change_course, changes_by}

-- a course behind questions is the one before them
pub course_stays : (m : DavMethod) (p : Path) (headers : Entries FieldValue) (now : ℕ) (s mid : State) (course : Result (Unit {0}) Fault) → SameLive now s mid
    → change_course m mid.map p headers ≡ course → change_course m s.map p headers ≡ course
course_stays m p headers now s mid course same h = subst (λ (t : State). change_course m t.map p headers ≡ course) same h

-- behind questions, a method that could be done is stopped, or lacks memory to look
pub stopped_after : (m : DavMethod) (p : Path) (headers : Entries FieldValue) (now : ℕ) (s mid : State) → SameLive now s mid → (Cant : Fault → Type 0) (Can : Type 0) (e : Fault)
    → Cant fault.InsufficientStorage → Can → (e ≡ fault.InsufficientStorage) ⊎ (change_course m mid.map p headers ≡ Err e)
    → IsStopped Cant Can (change_course m s.map p headers) e
stopped_after m p headers now s mid same Cant Can e memory can (inl short) = inl (subst Cant (sym short) memory)
stopped_after m p headers now s mid same Cant Can e memory can (inr h) = inr (can, course_stays m p headers now s mid (Err e) same h)
