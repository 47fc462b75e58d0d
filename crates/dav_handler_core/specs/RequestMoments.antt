-- The moment at which a request comes (own).
use Rattle.std.specs.Prelude.{◌≡◌, ◌⊎◌, ℕ, ◌+◌, ◌-◌, ◌^◌, max, min, Bool, true, false, List, Option, Some, Result, Err, if◌then◌else◌}
use Rattle.http.specs.declared.request.Request.{Request}
use Rattle.http.specs.Request.{head_of}
use Rattle.dav_path_core.specs.declared.util.DavMethod.{DavMethod}
use Rattle.dav_path_core.specs.declared.util.DavMethod.TheVariants as method
use Rattle.dav_path_core.specs.PathText.{PathText}
use Rattle.dav_faults_core.specs.declared.faults.Fault.{Fault}
use Rattle.dav_fields_core.specs.RequestRefusals.{HasPart, IsLastMoment}
use Rattle.dav_session_core.specs.Callers.{Caller}
use Rattle.dav_handler_core.specs.MethodAnswers.{Begins, IsWhole, Unread, has_body}
use Rattle.dav_handler_core.specs.Server.{Server}

-- the later of the clock and the last moment; of a request that may change something, the later of the clock and one behind the last
abbrev pub moment_of : Bool → Server → ℕ
moment_of changes before = max (if changes then before.last + 1 else before.last) before.clock

-- The moment at which a request that begins comes. No change begins at the last moment.
abbrev pub IsMoment : Bool → Server → ℕ → Type 0
IsMoment changes before moment =
    (moment ≡ moment_of changes before) × (changes ≡ true → ¬ IsLastMoment before.last)

-- whether a request may change something, by its method; a LOCK without a body gives a lock another end alone
abbrev pub may_change : Option DavMethod → Request (List ℕ) → Bool
may_change (Some method.Put) request = true
may_change (Some method.Delete) request = true
may_change (Some method.Copy) request = true
may_change (Some method.Move) request = true
may_change (Some method.MkCol) request = true
may_change (Some method.Lock) request = has_body request
may_change _ request = false

-- the moment that its answer is dated by: that at which it comes where it begins, which is at most the last of all
abbrev pub answer_moment : Bool → Server → ℕ
answer_moment changes before = min (moment_of changes before) (2 ^ 64 - 1)

-- A request that begins comes at its moment. One that can't be read leaves the last moment.
pub data ComesAt (changes : Bool) (before : Server) (request : Request (List ℕ)) (result : Result ℕ Fault) (after : Server) : Type 0 where
  begun : (path : PathText) (who : Caller) → Begins before request after path who → IsMoment changes before after.last
      → ComesAt changes before request result after
  unread : (e : Fault) → result ≡ Err e → Unread before.options request before.last changes e → after.last ≡ before.last
      → ComesAt changes before request result after

-- By the method: what is sent as a part of a file, an OPTIONS, and a method that isn't served leave the last moment, too.
abbrev pub Comes : Option DavMethod → Server → Request (List ℕ) → Result ℕ Fault → Server → Type 0
Comes (Some method.Get) before request result after = ComesAt false before request result after
Comes (Some method.Head) before request result after = ComesAt false before request result after
Comes (Some method.PropFind) before request result after = ComesAt false before request result after
Comes (Some method.PropPatch) before request result after = ComesAt false before request result after
Comes (Some method.Unlock) before request result after = ComesAt false before request result after
Comes (Some method.Put) before request result after =
    (HasPart (head_of request).headers × (after.last ≡ before.last))
    ⊎ (IsWhole request × ComesAt true before request result after)
Comes (Some method.Delete) before request result after = ComesAt true before request result after
Comes (Some method.Copy) before request result after = ComesAt true before request result after
Comes (Some method.Move) before request result after = ComesAt true before request result after
Comes (Some method.MkCol) before request result after = ComesAt true before request result after
Comes (Some method.Lock) before request result after = ComesAt (has_body request) before request result after
Comes _ before request result after = after.last ≡ before.last
