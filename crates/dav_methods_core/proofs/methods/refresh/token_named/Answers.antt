use Rattle.std.proofs.Common.{List, ℕ, [], ◌∷◌, ◌≡◌, ap, ◌∙◌, string_bytes, subst}
use Rattle.std.specs.Prelude.{IfErr, IfOk}
use Rattle.dav_path_core.specs.Segments.{segments}
use Rattle.dav_locks_core.specs.Locks.{discovered_locks}
use Rattle.dav_session_core.specs.Callers.{Caller, live}
use Rattle.dav_methods_core.specs.RefreshMethod.{NotOne}
use Rattle.dav_session_core.specs.Sessions as spec
use Rattle.dav_methods_core.proofs.RefreshMethodLemmas.{named_is}
use Rattle.dav_methods_core.proofs.methods.refresh.token_named.Goals as goal

pub returns-clause-ok : goal.returns-clause-ok
returns-clause-ok g c =
    let who = spec.caller c.args.session.now in
    let s = live who.now (spec.state g.R.Rng.stream c.args.session.now) in
    subst (λ (named : List (List ℕ)). IfOk c.one_of.result (λ token. named ≡ string_bytes token ∷ []))
    (named_is s who (segments c.args.path.now.bytes) _ _
    (c.deref.ensures.value ∙ c.in_ok-locks.ensures.ok ∙ ap (λ path. discovered_locks s.locks (segments path.bytes)) c.in_ok-copy_of.ensures)
    (c.tokens.ensures ∙ ap (λ (w : Caller). w.tokens) c.locks_at.ensures.looks.who))
    c.one_of.ensures.ok

pub returns-clause-err : goal.returns-clause-err
returns-clause-err g c =
    let who = spec.caller c.args.session.now in
    let s = live who.now (spec.state g.R.Rng.stream c.args.session.now) in
    subst (λ (named : List (List ℕ)). IfErr c.one_of.result (λ e. NotOne named e))
    (named_is s who (segments c.args.path.now.bytes) _ _
    (c.deref.ensures.value ∙ c.in_ok-locks.ensures.ok ∙ ap (λ path. discovered_locks s.locks (segments path.bytes)) c.in_ok-copy_of.ensures)
    (c.tokens.ensures ∙ ap (λ (w : Caller). w.tokens) c.locks_at.ensures.looks.who))
    c.one_of.ensures.err
