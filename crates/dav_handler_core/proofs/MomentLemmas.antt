-- At which moment a request comes.
use Rattle.std.proofs.Common.{◌≡◌, ◌<◌, ◌≤◌, ◌+◌, inl, inr, ℕ, Bool, true, false, List, Option, Some, Result, Err, refl, ◌∙◌, arith}
use Rattle.std.proofs.lemmas.Bool.{false≢true}
use Rattle.std.proofs.Math.Nat.{le-max_left}
use Rattle.http.specs.declared.request.Request.{Request}
use Rattle.dav_path_core.specs.declared.util.DavMethod.{DavMethod}
use Rattle.dav_path_core.specs.declared.util.DavMethod.TheVariants as method
use Rattle.dav_path_core.specs.PathText.{PathText}
use Rattle.dav_faults_core.specs.declared.faults.Fault.{Fault}
use Rattle.dav_faults_core.specs.declared.faults.Fault.TheVariants as fault
use Rattle.dav_session_core.specs.Callers.{Caller}
use Rattle.dav_handler_core.specs.MethodAnswers.{Begins}
use Rattle.dav_handler_core.specs.MethodAnswers.Unread.{memory}
use Rattle.dav_handler_core.specs.RequestMoments.{Comes, ComesAt, IsMoment}
use Rattle.dav_handler_core.specs.RequestMoments.ComesAt.{begun, unread}
use Rattle.dav_handler_core.specs.Server.{Server}
use Rattle.dav_handler_core.proofs.AnswerLemmas.{begins_on}

-- the moment at which a request comes isn't before the last one
pub not_before : (changes : Bool) (before : Server) (moment : ℕ) → IsMoment changes before moment
    → before.last ≤ moment
not_before true before moment at =
    omega (arith, at.0, le-max_left (before.last + 1) before.clock)
not_before false before moment at = omega (arith, at.0, le-max_left before.last before.clock)

-- and that of a change is behind it
pub behind_last : (changes : Bool) (before : Server) (moment : ℕ) → IsMoment changes before moment
    → changes ≡ true → before.last < moment
behind_last true before moment at is =
    omega (arith, at.0, le-max_left (before.last + 1) before.clock)
behind_last false before moment at is = absurd (false≢true is)

-- a request that was begun comes at its moment, whatever its method makes of it
pub comes_on : (changes : Bool) (before mid after : Server) (request : Request (List ℕ)) (result : Result ℕ Fault) (path : PathText) (who : Caller) → after.last ≡ mid.last
    → Begins before request mid path who → IsMoment changes before mid.last → ComesAt changes before request result after
comes_on changes before mid after request result path who same begins at =
    begun path who (begins_on before mid after request path who same begins) (same ∙ at.0, at.1)

-- a refusal for memory is as well
untold_at : (changes : Bool) (before after : Server) (request : Request (List ℕ)) (e : Fault) → ComesAt changes before request (Err e) after
    → ComesAt changes before request (Err fault.InsufficientStorage) after
untold_at changes before after request e (begun path who begins at) = begun path who begins at
untold_at changes before after request e (unread f is h at) = unread fault.InsufficientStorage refl memory at

pub untold_comes : (m : Option DavMethod) (before after : Server) (request : Request (List ℕ)) (e : Fault) → Comes m before request (Err e) after
    → Comes m before request (Err fault.InsufficientStorage) after
untold_comes (Some method.Get) before after request e h = untold_at false before after request e h
untold_comes (Some method.Head) before after request e h = untold_at false before after request e h
untold_comes (Some method.PropFind) before after request e h = untold_at false before after request e h
untold_comes (Some method.PropPatch) before after request e h = untold_at false before after request e h
untold_comes (Some method.Unlock) before after request e h = untold_at false before after request e h
untold_comes (Some method.Put) before after request e (inl h) = inl h
untold_comes (Some method.Put) before after request e (inr h) = inr (h.0, untold_at true before after request e h.1)
untold_comes (Some method.Delete) before after request e h = untold_at true before after request e h
untold_comes (Some method.Copy) before after request e h = untold_at true before after request e h
untold_comes (Some method.Move) before after request e h = untold_at true before after request e h
untold_comes (Some method.MkCol) before after request e h = untold_at true before after request e h
untold_comes (Some method.Lock) before after request e h = untold_at _ before after request e h
untold_comes _ before after request e h = h
