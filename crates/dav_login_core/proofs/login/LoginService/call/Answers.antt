use Rattle.std.proofs.Common.{Option, Result, Ok, sym, ap, subst, ◌∙◌}
use Rattle.std.specs.declared.alloc.AllocError.{AllocError}
use Rattle.dav_login_core.specs.declared.admitting.Admitted.{Admitted}
use Rattle.dav_login_core.specs.declared.login.Login.{Login}
use Rattle.dav_login_core.specs.Admissions.{MayLearn}
use Rattle.dav_login_core.specs.LoginViews.{login}
use Rattle.dav_login_core.proofs.LoginLemmas.{may_learn, served}
use Rattle.dav_login_core.proofs.login.LoginService.call.Goals as goal

pub learn-requires : goal.learn-requires
learn-requires g c =
    let is = c.in_ok-admitted.was ∙ ap (λ (o : Option Admitted). (let r : Result (Option Admitted) AllocError = Ok o in r)) c.in-Some.is in
    subst (λ (l : Login g.row.S.Denot g.row.H.Denot). MayLearn (login l).door c.in-Some.admitted.lesson) (sym (c.admit.ensures.same c.in-Some.admitted is))
    (may_learn (login c.args.self.now).door (login c.args.self.now).known c.args.request.now c.in-Some.admitted.lesson (c.admit.ensures.some c.in-Some.admitted is).lesson)

pub returns-in_ok-call-in-Some-clause-ok : goal.returns-in_ok-call-in-Some-clause-ok
returns-in_ok-call-in-Some-clause-ok g c =
    let is = c.in_ok-admitted.was ∙ ap (λ (o : Option Admitted). (let r : Result (Option Admitted) AllocError = Ok o in r)) c.in-Some.is in
    served g.S.Service.answers (login c.args.self.now) (login c.admit.new.self) (login c.learn.new.self) c.args.request.now c.call.new.response
    c.in-Some.admitted c.call.new.self (c.admit.ensures.some c.in-Some.admitted is)
    (ap (λ (l : Login g.row.S.Denot g.row.H.Denot). login l) (c.admit.ensures.same c.in-Some.admitted is))
    c.in_ok-call-in-Some.ensures.ok c.learn.ensures.service c.learn.ensures.door c.learn.ensures.host c.learn.ensures.known
