-- What is left by refusals, as answers of the server say it.
use Rattle.std.proofs.Common.{◌≡◌, inl, inr, ℕ, ◌<◌, List, Option, Some, Result, Ok, Err, ◌∙◌, sym, ap, subst}
use Rattle.std.specs.Prelude.{IfErr}
use Rattle.http.specs.declared.request.Request.{Request}
use Rattle.http.specs.Request.{head_of}
use Rattle.http_header.specs.FieldValue.{FieldValue}
use Rattle.http_header.specs.HeaderMap.{Entries}
use Rattle.dav_path_core.specs.declared.util.DavMethod.{DavMethod}
use Rattle.dav_path_core.specs.declared.util.DavMethod.TheVariants as method
use Rattle.dav_path_core.specs.PathText.{PathText}
use Rattle.dav_path_core.specs.Segments.{segments}
use Rattle.dav_guarded_core.specs.Step.{State}
use Rattle.dav_faults_core.specs.declared.faults.Fault.{Fault}
use Rattle.dav_faults_core.specs.declared.faults.Fault.TheVariants as fault
use Rattle.dav_handler_core.specs.MethodAnswers.{Begins, as_found}
use Rattle.dav_handler_core.specs.Answers.{Leaves}
use Rattle.dav_handler_core.specs.Server.{Server, site_for}
use Rattle.dav_session_core.specs.Callers.{Caller, SameLive, live}
use Rattle.dav_methods_core.specs.CopyMethod.{CopyLeaves, StartsToCopy}
use Rattle.dav_methods_core.specs.MoveMethod.{MoveLeaves, StartsToMove}
use Rattle.dav_handler_core.proofs.AnswerLemmas.{begins_on, found_as}

-- where nothing has changed, any refusal may have come
pub leaves_same : (m : Option DavMethod) (before after : Server) (request : Request (List ℕ)) (e : Fault) → SameLive after.last before.state after.state → Leaves m before request e after
leaves_same (Some method.Copy) before after request fault.InsufficientStorage h = inl h
leaves_same (Some method.Copy) before after request _ h = h
leaves_same (Some method.Move) before after request fault.InsufficientStorage h = inl h
leaves_same (Some method.Move) before after request _ h = h
leaves_same (Some method.Lock) before after request fault.InsufficientStorage h = inl h
leaves_same (Some method.Lock) before after request _ h = h
leaves_same _ before after request e h = h

-- a request that was begun
module _ (before mid after : Server) (request : Request (List ℕ)) (path : PathText) (who : Caller) (same : after.last ≡ mid.last) (begins : Begins before request mid path who)
    (later : before.last < mid.last) (s : State) (alike : live mid.last s ≡ live mid.last before.state) where
  now_is : who.now ≡ after.last
  now_is = begins.now ∙ sym same

  found : live who.now s ≡ as_found before after
  found = found_as before mid after who s same begins.now alike

  same_left : SameLive who.now s after.state → SameLive after.last before.state after.state
  same_left h = ap (λ n. live n after.state) (sym now_is) ∙ h ∙ found

  abbrev Headers : Entries FieldValue
  Headers = (head_of request).headers

  one_copy_left : (e : Fault) → CopyLeaves (site_for before.options request) before.options.prefix Headers s who (segments path.bytes) e after.state → Leaves (Some method.Copy) before request e after
  one_copy_left fault.InsufficientStorage (inl h) = inl (same_left h)
  one_copy_left fault.InsufficientStorage (inr h) = inr (
    subst (λ n. before.last < n) (sym same) later,
    (
      path,
      who,
      begins_on before mid after request path who same begins,
      subst (λ (t : State). StartsToCopy (site_for before.options request) before.options.prefix Headers t who (segments path.bytes) after.state) found h,
    ),
  )
  one_copy_left _ h = same_left h

  one_move_left : (e : Fault) → MoveLeaves (site_for before.options request) before.options.prefix Headers s who (segments path.bytes) e after.state → Leaves (Some method.Move) before request e after
  one_move_left fault.InsufficientStorage (inl h) = inl (same_left h)
  one_move_left fault.InsufficientStorage (inr h) = inr (
    subst (λ n. before.last < n) (sym same) later,
    (
      path,
      who,
      begins_on before mid after request path who same begins,
      subst (λ (t : State). StartsToMove (site_for before.options request) before.options.prefix Headers t who (segments path.bytes) after.state) found h,
    ),
  )
  one_move_left _ h = same_left h

  pub copy_leaves : {A : Type 0} (result : Result A Fault)
      → IfErr result (λ e. CopyLeaves (site_for before.options request) before.options.prefix (head_of request).headers s who (segments path.bytes) e after.state)
      → IfErr result (λ e. Leaves (Some method.Copy) before request e after)
  copy_leaves (Ok x) h = tt
  copy_leaves (Err e) h = one_copy_left e h

  pub move_leaves : {A : Type 0} (result : Result A Fault)
      → IfErr result (λ e. MoveLeaves (site_for before.options request) before.options.prefix (head_of request).headers s who (segments path.bytes) e after.state)
      → IfErr result (λ e. Leaves (Some method.Move) before request e after)
  move_leaves (Ok x) h = tt
  move_leaves (Err e) h = one_move_left e h
