-- The statuses of answers: those of faults, and those of what is done.
use Rattle.std.proofs.Common.{◌≡◌, ◌≢◌, ◌⊎◌, inl, inr, ℕ, ◌<◌, ◌≤◌, Bool, true, false, List, refl, sym, ◌∙◌, arith, if◌then◌else◌}
use Rattle.http.specs.declared.request.Request.{Request}
use Rattle.dav_path_core.specs.Segments.{segments}
use Rattle.dav_guarded_core.specs.Checks.{has}
use Rattle.dav_faults_core.specs.declared.faults.Fault.{Fault}
use Rattle.dav_faults_core.specs.declared.faults.Fault.TheVariants as fault
use Rattle.dav_faults_core.specs.Faults.{fault_status}
use Rattle.dav_fields_core.specs.Fields.{Sent}
use Rattle.dav_handler_core.specs.MethodAnswers.{IsLocked}
use Rattle.dav_handler_core.specs.Server.{Server}

-- ---- statuses of faults

abbrev pub IsOfMember : Fault → Type 0
IsOfMember (fault.MemberLocked path) = Unit {0}
IsOfMember (fault.ConflictingMember at path) = Unit {0}
IsOfMember _ = ⊥

pub member_status : (e : Fault) → IsOfMember e → fault_status e ≡ 207
member_status (fault.MemberLocked path) h = refl
member_status (fault.ConflictingMember at path) h = refl
member_status _ h = absurd h

-- the lock of a member is told with 207, and any other fault with 400 or more
pub fault_high : (e : Fault) → IsOfMember e ⊎ (400 ≤ fault_status e)
fault_high (fault.MemberLocked path) = inl tt
fault_high (fault.ConflictingMember at path) = inl tt
fault_high fault.BadRequest = inr (omega arith)
fault_high fault.Unauthorized = inr (omega arith)
fault_high fault.Forbidden = inr (omega arith)
fault_high fault.InfiniteDepth = inr (omega arith)
fault_high fault.NotFound = inr (omega arith)
fault_high (fault.MethodNotAllowed folder) = inr (omega arith)
fault_high fault.Conflict = inr (omega arith)
fault_high fault.NoSuchLock = inr (omega arith)
fault_high fault.PreconditionFailed = inr (omega arith)
fault_high fault.UnsupportedMediaType = inr (omega arith)
fault_high (fault.Locked path) = inr (omega arith)
fault_high (fault.ConflictingLock path) = inr (omega arith)
fault_high fault.NotImplemented = inr (omega arith)
fault_high fault.BadGateway = inr (omega arith)
fault_high fault.ServiceUnavailable = inr (omega arith)
fault_high fault.InsufficientStorage = inr (omega arith)

pub fault_failed : (e : Fault) → fault_status e ≡ 412 → e ≡ fault.PreconditionFailed
fault_failed (fault.MemberLocked path) h = absurd (omega (arith, h))
fault_failed (fault.ConflictingMember at path) h = absurd (omega (arith, h))
fault_failed fault.BadRequest h = absurd (omega (arith, h))
fault_failed fault.Unauthorized h = absurd (omega (arith, h))
fault_failed fault.Forbidden h = absurd (omega (arith, h))
fault_failed fault.InfiniteDepth h = absurd (omega (arith, h))
fault_failed fault.NotFound h = absurd (omega (arith, h))
fault_failed (fault.MethodNotAllowed folder) h = absurd (omega (arith, h))
fault_failed fault.Conflict h = absurd (omega (arith, h))
fault_failed fault.NoSuchLock h = absurd (omega (arith, h))
fault_failed fault.PreconditionFailed h = refl
fault_failed fault.UnsupportedMediaType h = absurd (omega (arith, h))
fault_failed (fault.Locked path) h = absurd (omega (arith, h))
fault_failed (fault.ConflictingLock path) h = absurd (omega (arith, h))
fault_failed fault.NotImplemented h = absurd (omega (arith, h))
fault_failed fault.BadGateway h = absurd (omega (arith, h))
fault_failed fault.ServiceUnavailable h = absurd (omega (arith, h))
fault_failed fault.InsufficientStorage h = absurd (omega (arith, h))

-- no fault has such a status
pub no_fault : (e : Fault) (status : ℕ) → fault_status e ≡ status → status < 400 → status ≢ 207 → ⊥
no_fault e status is low apart = elim (fault_high e) [
  | inl member ↦ apart (sym is ∙ member_status e member)
  | inr high ↦ omega (arith, is, low, high)
]

abbrev pub IsOff : ℕ → Type 0
IsOff status = (status ≡ 304) ⊎ (status ≡ 412)

-- a fault that holds a request off is that of a condition
pub fault_off : (e : Fault) → IsOff (fault_status e) → e ≡ fault.PreconditionFailed
fault_off e (inl h) = absurd (no_fault e 304 h (omega arith) (λ same. omega (arith, same)))
fault_off e (inr h) = fault_failed e h

pub put_between : (b : Bool) → (200 < (if b then 204 else 201)) × ((if b then 204 else 201) < 205)
put_between true = (omega arith, omega arith)
put_between false = (omega arith, omega arith)

-- a COPY or a MOVE that is done isn't held off
pub transfer_low : (b : Bool) (status : ℕ) → status ≡ (if b then 204 else 201) → ¬ IsOff status
transfer_low b status is (inl off) = omega (arith, off, is, put_between b)
transfer_low b status is (inr off) = omega (arith, off, is, put_between b)

pub locked_by : (b : Bool) → (199 < (if b then 200 else 201)) × ((if b then 200 else 201) < 202)
locked_by true = (omega arith, omega arith)
locked_by false = (omega arith, omega arith)

-- a LOCK that is done is 200 or 201
pub locked_between : (before : Server) (request : Request (List ℕ)) (status : ℕ) (sent : Sent) (after : Server) → IsLocked before request status sent after
    → (199 < status) × (status < 202)
locked_between before request status sent after h = elim h.locks [
  | inl granted ↦
      let between = locked_by (has before.state.map (segments h.path.bytes)) in
      (omega (arith, granted.1.status_is, between), omega (arith, granted.1.status_is, between))
  | inr refreshed ↦ (omega (arith, refreshed.1.status_is), omega (arith, refreshed.1.status_is))
]

pub lock_low : (before : Server) (request : Request (List ℕ)) (status : ℕ) (sent : Sent) (after : Server) → IsLocked before request status sent after → ¬ IsOff status
lock_low before request status sent after h (inl off) = omega (arith, off, locked_between before request status sent after h)
lock_low before request status sent after h (inr off) = omega (arith, off, locked_between before request status sent after h)
