use Rattle.std.proofs.Common.{◌≡◌, ◌≢◌, ℕ, List, Some, Result, Err, refl, sym, subst}
use Rattle.dav_faults_core.specs.declared.faults.Fault.TheVariants as fault
use Rattle.dav_fields_core.specs.Fields.{nothing_sent}
use Rattle.dav_handler_core.specs.Answers.{AnswersTo, SendsOwn}
use Rattle.rand_core.specs.Stream.{Stream}
use Rattle.http.specs.declared.request.Request.{Request}
use Rattle.http_server.specs.declared.response.Response.{Response}
use Rattle.dav_path_core.specs.declared.util.DavMethod.{DavMethod}
use Rattle.dav_path_core.specs.declared.util.DavMethod.TheVariants as method
use Rattle.dav_faults_core.specs.declared.faults.Fault.{Fault}
use Rattle.dav_handler_core.specs.RequestMoments.{Comes}
use Rattle.dav_handler_core.specs.Server.{Server}
use Rattle.dav_handler_core.specs.ServerViews.{IsAnswered, server}
use Rattle.dav_handler_core.specs.declared.dav.Dav.{Dav}
use Rattle.dav_handler_core.proofs.SentAnswerLemmas.{options_answered}
use Rattle.dav_handler_core.proofs.dav.Dav.answer_to.Goals as goal

-- what holds of a method holds of the one that is asked for
of_method : (m n : DavMethod) (before : Server) (request : Request (List ℕ)) (result : Result ℕ Fault) (after : Server) → m ≡ n → Comes (Some n) before request result after
    → Comes (Some m) before request result after
of_method m n before request result after is h = subst (λ m. Comes (Some m) before request result after) (sym is) h

-- what is sent of a method is sent of the one that is asked for
answered : {R : Type 0} (stream : R → Stream) (m n : DavMethod) (old : Dav R) (request : Request (List ℕ)) (result : Result ℕ Fault) (date : List ℕ) (response : Response) (new : Dav R)
    → m ≡ n → IsAnswered stream (Some n) old request result date response new → IsAnswered stream (Some m) old request result date response new
answered stream m n old request result date response new is h = subst (λ m. IsAnswered stream (Some m) old request result date response new) (sym is) h

-- a method that isn't served
unserved : (m : DavMethod) (before : Server) (request : Request (List ℕ))
    → m ≢ method.Head → m ≢ method.Get → m ≢ method.Put → m ≢ method.Options → m ≢ method.PropFind → m ≢ method.PropPatch
    → m ≢ method.MkCol → m ≢ method.Copy → m ≢ method.Move → m ≢ method.Delete → m ≢ method.Lock → m ≢ method.Unlock
    → AnswersTo (Some m) before request (Err fault.NotImplemented) nothing_sent before × SendsOwn (Some m) before request (Err fault.NotImplemented) nothing_sent
unserved method.Head before request h1 h2 h3 h4 h5 h6 h7 h8 h9 h10 h11 h12 = absurd (h1 refl)
unserved method.Get before request h1 h2 h3 h4 h5 h6 h7 h8 h9 h10 h11 h12 = absurd (h2 refl)
unserved method.Put before request h1 h2 h3 h4 h5 h6 h7 h8 h9 h10 h11 h12 = absurd (h3 refl)
unserved method.Options before request h1 h2 h3 h4 h5 h6 h7 h8 h9 h10 h11 h12 = absurd (h4 refl)
unserved method.PropFind before request h1 h2 h3 h4 h5 h6 h7 h8 h9 h10 h11 h12 = absurd (h5 refl)
unserved method.PropPatch before request h1 h2 h3 h4 h5 h6 h7 h8 h9 h10 h11 h12 = absurd (h6 refl)
unserved method.MkCol before request h1 h2 h3 h4 h5 h6 h7 h8 h9 h10 h11 h12 = absurd (h7 refl)
unserved method.Copy before request h1 h2 h3 h4 h5 h6 h7 h8 h9 h10 h11 h12 = absurd (h8 refl)
unserved method.Move before request h1 h2 h3 h4 h5 h6 h7 h8 h9 h10 h11 h12 = absurd (h9 refl)
unserved method.Delete before request h1 h2 h3 h4 h5 h6 h7 h8 h9 h10 h11 h12 = absurd (h10 refl)
unserved method.Lock before request h1 h2 h3 h4 h5 h6 h7 h8 h9 h10 h11 h12 = absurd (h11 refl)
unserved method.Unlock before request h1 h2 h3 h4 h5 h6 h7 h8 h9 h10 h11 h12 = absurd (h12 refl)
unserved _ before request h1 h2 h3 h4 h5 h6 h7 h8 h9 h10 h11 h12 = ((refl, refl), tt)

pub returns-in_default-clause-done : goal.returns-in_default-clause-done
returns-in_default-clause-done g c =
    let not = c.in_default in
    let none = unserved c.args.method (server g.R.Rng.stream c.args.self.now) c.args.request.now not.not-Head not.not-Get not.not-Put not.not-Options not.not-PropFind not.not-PropPatch
    not.not-MkCol not.not-Copy not.not-Move not.not-Delete not.not-Lock not.not-Unlock in
    (nothing_sent, tt, none.0, none.1)

pub returns-in-Options-clause-done : goal.returns-in-Options-clause-done
returns-in-Options-clause-done g c =
    answered g.R.Rng.stream c.args.method method.Options c.args.self.now c.args.request.now c.serve_options.result c.args.date.now c.serve_options.new.response c.args.self.now c.in-Options.is
    (options_answered c.args.date.now c.serve_options.new.response (server g.R.Rng.stream c.args.self.now) c.args.request.now c.serve_options.result c.serve_options.ensures.done
    c.serve_options.ensures.err)

pub returns-in-PropFind-clause-done : goal.returns-in-PropFind-clause-done
returns-in-PropFind-clause-done g c =
    answered g.R.Rng.stream c.args.method method.PropFind c.args.self.now c.args.request.now c.serve_propfind.result c.args.date.now c.serve_propfind.new.response c.serve_propfind.new.self c.in-PropFind.is c.serve_propfind.ensures.answers

pub returns-in-Put-clause-done : goal.returns-in-Put-clause-done
returns-in-Put-clause-done g c =
    answered g.R.Rng.stream c.args.method method.Put c.args.self.now c.args.request.now c.serve_put.result c.args.date.now c.serve_put.new.response c.serve_put.new.self c.in-Put.is c.serve_put.ensures.answers

pub returns-in-Delete-clause-done : goal.returns-in-Delete-clause-done
returns-in-Delete-clause-done g c =
    answered g.R.Rng.stream c.args.method method.Delete c.args.self.now c.args.request.now c.serve_delete.result c.args.date.now c.serve_delete.new.response c.serve_delete.new.self c.in-Delete.is c.serve_delete.ensures.answers

pub returns-in-Copy-clause-done : goal.returns-in-Copy-clause-done
returns-in-Copy-clause-done g c =
    answered g.R.Rng.stream c.args.method method.Copy c.args.self.now c.args.request.now c.serve_copy.result c.args.date.now c.serve_copy.new.response c.serve_copy.new.self c.in-Copy.is c.serve_copy.ensures.answers

pub returns-in-Move-clause-done : goal.returns-in-Move-clause-done
returns-in-Move-clause-done g c =
    answered g.R.Rng.stream c.args.method method.Move c.args.self.now c.args.request.now c.serve_move.result c.args.date.now c.serve_move.new.response c.serve_move.new.self c.in-Move.is c.serve_move.ensures.answers

pub returns-in-MkCol-clause-done : goal.returns-in-MkCol-clause-done
returns-in-MkCol-clause-done g c =
    answered g.R.Rng.stream c.args.method method.MkCol c.args.self.now c.args.request.now c.serve_mkcol.result c.args.date.now c.serve_mkcol.new.response c.serve_mkcol.new.self c.in-MkCol.is c.serve_mkcol.ensures.answers

pub returns-in-PropPatch-clause-done : goal.returns-in-PropPatch-clause-done
returns-in-PropPatch-clause-done g c =
    answered g.R.Rng.stream c.args.method method.PropPatch c.args.self.now c.args.request.now c.serve_proppatch.result c.args.date.now c.serve_proppatch.new.response c.serve_proppatch.new.self c.in-PropPatch.is c.serve_proppatch.ensures.answers

pub returns-in-Lock-clause-done : goal.returns-in-Lock-clause-done
returns-in-Lock-clause-done g c =
    answered g.R.Rng.stream c.args.method method.Lock c.args.self.now c.args.request.now c.serve_lock.result c.args.date.now c.serve_lock.new.response c.serve_lock.new.self c.in-Lock.is c.serve_lock.ensures.answers

pub returns-in-Unlock-clause-done : goal.returns-in-Unlock-clause-done
returns-in-Unlock-clause-done g c =
    answered g.R.Rng.stream c.args.method method.Unlock c.args.self.now c.args.request.now c.serve_unlock.result c.args.date.now c.serve_unlock.new.response c.serve_unlock.new.self c.in-Unlock.is c.serve_unlock.ensures.answers

pub returns-in-Get-clause-done : goal.returns-in-Get-clause-done
returns-in-Get-clause-done g c =
    let told = c.serve_get.ensures.answers in
    answered g.R.Rng.stream c.args.method method.Get c.args.self.now c.args.request.now c.serve_get.result c.args.date.now c.serve_get.new.response c.serve_get.new.self c.in-Get.is
    (told.0, told.1, (told.2, c.serve_get.ensures.live), tt)

pub returns-in-Head-clause-done : goal.returns-in-Head-clause-done
returns-in-Head-clause-done g c =
    let told = c.serve_get-in-Head.ensures.answers in
    answered g.R.Rng.stream c.args.method method.Head c.args.self.now c.args.request.now c.serve_get-in-Head.result c.args.date.now c.serve_get-in-Head.new.response c.serve_get-in-Head.new.self c.in-Head.is
    (told.0, told.1, (told.2, c.serve_get-in-Head.ensures.live), tt)

pub returns-in-Get-clause-comes : goal.returns-in-Get-clause-comes
returns-in-Get-clause-comes g c =
    of_method c.args.method method.Get (server g.R.Rng.stream c.args.self.now) c.args.request.now c.serve_get.result (server g.R.Rng.stream c.serve_get.new.self)
    c.in-Get.is c.serve_get.ensures.comes

pub returns-in-Head-clause-comes : goal.returns-in-Head-clause-comes
returns-in-Head-clause-comes g c =
    of_method c.args.method method.Head (server g.R.Rng.stream c.args.self.now) c.args.request.now c.serve_get-in-Head.result (server g.R.Rng.stream c.serve_get-in-Head.new.self)
    c.in-Head.is c.serve_get-in-Head.ensures.comes

pub returns-in-PropFind-clause-comes : goal.returns-in-PropFind-clause-comes
returns-in-PropFind-clause-comes g c =
    of_method c.args.method method.PropFind (server g.R.Rng.stream c.args.self.now) c.args.request.now c.serve_propfind.result (server g.R.Rng.stream c.serve_propfind.new.self)
    c.in-PropFind.is c.serve_propfind.ensures.comes

pub returns-in-Put-clause-comes : goal.returns-in-Put-clause-comes
returns-in-Put-clause-comes g c =
    of_method c.args.method method.Put (server g.R.Rng.stream c.args.self.now) c.args.request.now c.serve_put.result (server g.R.Rng.stream c.serve_put.new.self)
    c.in-Put.is c.serve_put.ensures.comes

pub returns-in-Delete-clause-comes : goal.returns-in-Delete-clause-comes
returns-in-Delete-clause-comes g c =
    of_method c.args.method method.Delete (server g.R.Rng.stream c.args.self.now) c.args.request.now c.serve_delete.result (server g.R.Rng.stream c.serve_delete.new.self)
    c.in-Delete.is c.serve_delete.ensures.comes

pub returns-in-Copy-clause-comes : goal.returns-in-Copy-clause-comes
returns-in-Copy-clause-comes g c =
    of_method c.args.method method.Copy (server g.R.Rng.stream c.args.self.now) c.args.request.now c.serve_copy.result (server g.R.Rng.stream c.serve_copy.new.self)
    c.in-Copy.is c.serve_copy.ensures.comes

pub returns-in-Move-clause-comes : goal.returns-in-Move-clause-comes
returns-in-Move-clause-comes g c =
    of_method c.args.method method.Move (server g.R.Rng.stream c.args.self.now) c.args.request.now c.serve_move.result (server g.R.Rng.stream c.serve_move.new.self)
    c.in-Move.is c.serve_move.ensures.comes

pub returns-in-MkCol-clause-comes : goal.returns-in-MkCol-clause-comes
returns-in-MkCol-clause-comes g c =
    of_method c.args.method method.MkCol (server g.R.Rng.stream c.args.self.now) c.args.request.now c.serve_mkcol.result (server g.R.Rng.stream c.serve_mkcol.new.self)
    c.in-MkCol.is c.serve_mkcol.ensures.comes

pub returns-in-PropPatch-clause-comes : goal.returns-in-PropPatch-clause-comes
returns-in-PropPatch-clause-comes g c =
    of_method c.args.method method.PropPatch (server g.R.Rng.stream c.args.self.now) c.args.request.now c.serve_proppatch.result (server g.R.Rng.stream c.serve_proppatch.new.self)
    c.in-PropPatch.is c.serve_proppatch.ensures.comes

pub returns-in-Lock-clause-comes : goal.returns-in-Lock-clause-comes
returns-in-Lock-clause-comes g c =
    of_method c.args.method method.Lock (server g.R.Rng.stream c.args.self.now) c.args.request.now c.serve_lock.result (server g.R.Rng.stream c.serve_lock.new.self)
    c.in-Lock.is c.serve_lock.ensures.comes

pub returns-in-Unlock-clause-comes : goal.returns-in-Unlock-clause-comes
returns-in-Unlock-clause-comes g c =
    of_method c.args.method method.Unlock (server g.R.Rng.stream c.args.self.now) c.args.request.now c.serve_unlock.result (server g.R.Rng.stream c.serve_unlock.new.self)
    c.in-Unlock.is c.serve_unlock.ensures.comes
