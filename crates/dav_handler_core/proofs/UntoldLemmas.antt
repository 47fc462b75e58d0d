-- A refusal that is told by more than its status, where there is no memory for that: it is as one for
-- want of memory.
use Rattle.std.proofs.Common.{◌≡◌, inl, inr, List, ℕ, Option, Some, Result, Err, ap, sym, ◌∙◌, arith}
use Rattle.http.specs.declared.request.Request.{Request}
use Rattle.dav_path_core.specs.declared.util.DavMethod.{DavMethod}
use Rattle.dav_path_core.specs.declared.util.DavMethod.TheVariants as method
use Rattle.dav_faults_core.specs.Faults.{fault_status}
use Rattle.dav_faults_core.specs.declared.faults.Fault.{Fault}
use Rattle.dav_faults_core.specs.declared.faults.Fault.TheVariants as fault
use Rattle.dav_fields_core.specs.Fields.{Sent}
use Rattle.dav_safe_methods_core.specs.RefusalAnswers.{NeedsMore}
use Rattle.dav_handler_core.specs.Answers.{AnswersTo, Leaves, SendsOwn}
use Rattle.dav_handler_core.specs.MethodAnswers.Unread.{memory}
use Rattle.dav_handler_core.specs.Server.{Server}

-- 507 is told by its status
pub memory_is_enough : ¬ NeedsMore fault.InsufficientStorage
memory_is_enough (inl h) = omega (arith, h)
memory_is_enough (inr h) = omega (arith, h)

-- these need no more, too
abbrev refusal : Fault → Result ℕ Fault
refusal e = Err e

not_unserved : (e : Fault) → NeedsMore e → refusal e ≡ refusal fault.NotImplemented → ⊥
not_unserved e (inl h) is = let same : e ≡ fault.NotImplemented = cc in omega (arith, sym (ap fault_status same) ∙ h)
not_unserved e (inr h) is = let same : e ≡ fault.NotImplemented = cc in omega (arith, sym (ap fault_status same) ∙ h)

no_bad_request : (e : Fault) → NeedsMore e → e ≡ fault.BadRequest → ⊥
no_bad_request e (inl h) is = omega (arith, sym (ap fault_status is) ∙ h)
no_bad_request e (inr h) is = omega (arith, sym (ap fault_status is) ∙ h)

no_memory : (e : Fault) → NeedsMore e → e ≡ fault.InsufficientStorage → ⊥
no_memory e (inl h) is = omega (arith, sym (ap fault_status is) ∙ h)
no_memory e (inr h) is = omega (arith, sym (ap fault_status is) ∙ h)

pub untold : (m : Option DavMethod) (before after : Server) (request : Request (List ℕ)) (e : Fault) (sent other : Sent) → NeedsMore e
    → AnswersTo m before request (Err e) sent after → AnswersTo m before request (Err fault.InsufficientStorage) other after
untold (Some method.Get) before after request e sent other more h = (inl memory, h.1)
untold (Some method.Head) before after request e sent other more h = (inl memory, h.1)
untold (Some method.PropFind) before after request e sent other more h = (inl memory, h.1)
untold (Some method.Put) before after request e sent other more (inl part) = absurd (no_bad_request e more part.1)
untold (Some method.Put) before after request e sent other more (inr h) = inr (h.0, inl memory)
untold (Some method.Delete) before after request e sent other more h = inl memory
untold (Some method.Copy) before after request e sent other more h = inl memory
untold (Some method.Move) before after request e sent other more h = inl memory
untold (Some method.MkCol) before after request e sent other more h = inl memory
untold (Some method.Unlock) before after request e sent other more h = inl memory
untold (Some method.Lock) before after request e sent other more h = inl memory
untold (Some method.PropPatch) before after request e sent other more h = inl memory
untold (Some method.Options) before after request e sent other more h = absurd (no_memory e more h.0)
untold _ before after request e sent other more h = absurd (not_unserved e more h.0)

-- it has changed nothing
pub leaves_untold : (m : Option DavMethod) (before after : Server) (request : Request (List ℕ)) (e : Fault) → NeedsMore e → Leaves m before request e after
    → Leaves m before request fault.InsufficientStorage after
leaves_untold (Some method.Copy) before after request fault.InsufficientStorage more h = absurd (memory_is_enough more)
leaves_untold (Some method.Copy) before after request _ more h = inl h
leaves_untold (Some method.Move) before after request fault.InsufficientStorage more h = absurd (memory_is_enough more)
leaves_untold (Some method.Move) before after request _ more h = inl h
leaves_untold (Some method.Lock) before after request fault.InsufficientStorage more h = absurd (memory_is_enough more)
leaves_untold (Some method.Lock) before after request _ more h = inl h
leaves_untold _ before after request e more h = h

-- what a method sends where it is done says nothing of a refusal
pub refused_sends : (m : Option DavMethod) (before : Server) (request : Request (List ℕ)) (e : Fault) (sent : Sent) → SendsOwn m before request (Err e) sent
refused_sends (Some method.Delete) before request e sent = tt
refused_sends (Some method.MkCol) before request e sent = tt
refused_sends (Some method.Unlock) before request e sent = tt
refused_sends (Some method.Copy) before request e sent = tt
refused_sends (Some method.Move) before request e sent = tt
refused_sends (Some method.Options) before request e sent = tt
refused_sends _ before request e sent = tt
