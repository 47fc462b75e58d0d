use Rattle.std.proofs.Common.{◌≢◌, ℕ, List, Option, None, Some, Err, refl, sym, subst}
use Rattle.std.specs.Prelude.{IfErr}
use Rattle.http.specs.declared.request.Request.{Request}
use Rattle.dav_path_core.specs.declared.util.DavMethod.{DavMethod}
use Rattle.dav_handler_core.specs.Answers.{AnswersTo, SendsOwn}
use Rattle.dav_handler_core.specs.Server.{Server}
use Rattle.dav_faults_core.specs.declared.faults.Fault.TheVariants as fault
use Rattle.dav_fields_core.specs.Fields.{nothing_sent}
use Rattle.dav_handler_core.specs.RequestMoments.{Comes}
use Rattle.dav_handler_core.specs.ServerViews.{IsAnswered, LeftBy, server}
use Rattle.dav_handler_core.proofs.dav.Dav.answer.Goals as goal

-- a word that names no method
unnamed : (o : Option DavMethod) (before : Server) (request : Request (List ℕ)) → ((m : DavMethod) → o ≢ Some m)
    → AnswersTo o before request (Err fault.NotImplemented) nothing_sent before × SendsOwn o before request (Err fault.NotImplemented) nothing_sent
unnamed None before request no_method = ((refl, refl), tt)
unnamed (Some m) before request no_method = absurd (no_method m refl)

pub returns-in_default-clause-done : goal.returns-in_default-clause-done
returns-in_default-clause-done g c =
    let none = unnamed c.args.method (server g.R.Rng.stream c.args.self.now) c.args.request.now c.in_default.not-Some in
    (nothing_sent, tt, none.0, none.1)

pub returns-clause-done : goal.returns-clause-done
returns-clause-done g c =
    subst (λ m. IsAnswered g.R.Rng.stream m c.args.self.now c.args.request.now c.answer_to.result c.args.date.now c.answer_to.new.response c.answer_to.new.self) (sym c.in-Some.is)
    c.answer_to.ensures.done

pub returns-clause-refused : goal.returns-clause-refused
returns-clause-refused g c =
    subst (λ m. IfErr c.answer_to.result (LeftBy g.R.Rng.stream m c.args.self.now c.args.request.now c.answer_to.new.self)) (sym c.in-Some.is) c.answer_to.ensures.refused

pub returns-clause-comes : goal.returns-clause-comes
returns-clause-comes g c =
    subst (λ m. Comes m (server g.R.Rng.stream c.args.self.now) c.args.request.now c.answer_to.result (server g.R.Rng.stream c.answer_to.new.self)) (sym c.in-Some.is)
    c.answer_to.ensures.comes
