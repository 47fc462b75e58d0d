use Rattle.std.proofs.Common.{inr, refl, sym, ap, ◌∙◌, ◌&&◌, not, bytes_eq}
use Rattle.std.specs.List.{list_any}
use Rattle.dav_path_core.specs.Segments.{segments}
use Rattle.dav_path_core.specs.PathText.{PathText}
use Rattle.dav_locks_core.specs.Lock.{Lock}
use Rattle.dav_locks_core.specs.Locks.{covers, same_text}
use Rattle.dav_session_core.specs.Callers.{Caller, live}
use Rattle.dav_session_core.specs.Private.Owning.{is_anothers}
use Rattle.dav_session_core.specs.Sessions as spec
use Rattle.dav_locks_core.proofs.answers.CoveringTokens.{any_discovered}
use Rattle.dav_session_core.proofs.session.Session.check_own_at.Goals as goal

pub returns-then-any_anothers-clause-err : goal.returns-then-any_anothers-clause-err
returns-then-any_anothers-clause-err g c =
    let who = spec.caller c.args.self.now in
    let s = live who.now (spec.state g.R.Rng.stream c.args.self.now) in
    let seen = c.any_anothers.ensures
    ∙ ap (λ principal. list_any (λ (l : Lock). bytes_eq l.token c.args.token.now && not (same_text l.principal principal)) c.deref.result.now) c.principal.ensures
    ∙ ap (λ (w : Caller). list_any (is_anothers w c.args.token.now) c.deref.result.now) c.in_ok-locks.ensures.looks.who
    ∙ ap (list_any (is_anothers who c.args.token.now)) (c.deref.ensures.value ∙ c.in_ok-locks.ensures.ok)
    ∙ any_discovered (is_anothers who c.args.token.now) s.locks (segments c.in_ok-copy_of.field-0.bytes)
    ∙ ap (λ (path : PathText). list_any (λ (l : Lock). is_anothers who c.args.token.now l && covers l (segments path.bytes)) s.locks) c.in_ok-copy_of.ensures in
    inr (refl, sym seen ∙ c.if-any_anothers.true)

pub returns-clause-ok : goal.returns-clause-ok
returns-clause-ok g c =
    let who = spec.caller c.args.self.now in
    let s = live who.now (spec.state g.R.Rng.stream c.args.self.now) in
    let seen = c.any_anothers.ensures
    ∙ ap (λ principal. list_any (λ (l : Lock). bytes_eq l.token c.args.token.now && not (same_text l.principal principal)) c.deref.result.now) c.principal.ensures
    ∙ ap (λ (w : Caller). list_any (is_anothers w c.args.token.now) c.deref.result.now) c.in_ok-locks.ensures.looks.who
    ∙ ap (list_any (is_anothers who c.args.token.now)) (c.deref.ensures.value ∙ c.in_ok-locks.ensures.ok)
    ∙ any_discovered (is_anothers who c.args.token.now) s.locks (segments c.in_ok-copy_of.field-0.bytes)
    ∙ ap (λ (path : PathText). list_any (λ (l : Lock). is_anothers who c.args.token.now l && covers l (segments path.bytes)) s.locks) c.in_ok-copy_of.ensures in
    sym seen ∙ c.if-any_anothers.false
