-- How a PROPPATCH is answered, by what the method does.
use Rattle.std.proofs.Common.{◌≡◌, ◌⊎◌, inl, inr, ℕ, false, List, Result, Ok, Err, subst}
use Rattle.std.specs.Prelude.{IfErr, IfOk}
use Rattle.http.specs.declared.request.Request.{Request}
use Rattle.http.specs.Request.{body_of, head_of}
use Rattle.dav_path_core.specs.PathText.{PathText}
use Rattle.dav_path_core.specs.Segments.{segments}
use Rattle.dav_guarded_core.specs.Step.{State}
use Rattle.dav_faults_core.specs.declared.faults.Fault.{Fault}
use Rattle.dav_handler_core.specs.MethodAnswers.{Admits, Begins, PatchAnswers, Unread, as_found}
use Rattle.dav_handler_core.specs.Server.{Server}
use Rattle.dav_session_core.specs.Callers.{Caller, live}
use Rattle.dav_fields_core.specs.Fields.{Sent}
use Rattle.dav_methods_core.specs.ProppatchMethod.{FailsToPatch, Patches}
use Rattle.dav_handler_core.specs.Private.Begun.{IsHeld}
use Rattle.dav_handler_core.proofs.AnswerLemmas.{admits_on, begins_on, found_as, held_off, refused_by}

-- one that wasn't begun, or was held off
pub patch_unread : (before after : Server) (request : Request (List ℕ)) (e : Fault) (sent : Sent)
    → Unread before.options request before.last false e ⊎ IsHeld before request after e → PatchAnswers before request (Err e) sent after
patch_unread before after request e sent (inl h) = inl h
patch_unread before after request e sent (inr h) =
    inr (held_off before after request e (λ p who. FailsToPatch (head_of request).headers (body_of request) (as_found before after) who p e) h)

-- one that was begun
pub patch_answered : (before mid after : Server) (request : Request (List ℕ)) (path : PathText) (who : Caller) (same : after.last ≡ mid.last)
    (begins : Begins before request mid path who) (admits : Admits before request mid path) (s : State) → live mid.last s ≡ live mid.last before.state
    → (result : Result ℕ Fault) (sent : Sent) → IfOk result (λ status. Patches before.options.prefix (head_of request).headers (body_of request) (live who.now s) who path status sent after.state)
    → IfErr result (λ e. FailsToPatch (head_of request).headers (body_of request) (live who.now s) who (segments path.bytes) e) → PatchAnswers before request result sent after
patch_answered before mid after request path who same begins admits s alike (Ok status) sent done err = record {
  path = path;
  who = who;
  begins = begins_on before mid after request path who same begins;
  admits = admits_on before mid after request path same admits;
  patches = subst (λ (t : State). Patches before.options.prefix (head_of request).headers (body_of request) t who path status sent after.state) (found_as before mid after who s same begins.now alike) done;
}
patch_answered before mid after request path who same begins admits s alike (Err e) sent done err =
    inr (refused_by before mid after request path who same begins admits e (λ p who. FailsToPatch (head_of request).headers (body_of request) (as_found before after) who p e)
    (subst (λ (t : State). FailsToPatch (head_of request).headers (body_of request) t who (segments path.bytes) e) (found_as before mid after who s same begins.now alike) err))
