use Rattle.std.proofs.Common.{[], ◌∷◌, map, sym, ◌∙◌}
use Rattle.std.proofs.lemmas.Result.{err_from_is_err_and}
use Rattle.dav_path_core.specs.Segments.{segments}
use Rattle.dav_session_core.specs.Callers.{live}
use Rattle.dav_session_core.specs.Clearing.{refusing_clearing}
use Rattle.dav_session_core.specs.Removing.{refusing_removal}
use Rattle.dav_session_core.specs.Sessions as spec
use Rattle.dav_methods_core.proofs.MoveCheckLemmas.{none_goes, place_bare, place_cleared, place_fails, place_passes, some_goes, source_fails}
use Rattle.dav_session_core.proofs.Looking.{looks_on}
use Rattle.dav_methods_core.proofs.methods.moving.check_move.Goals as goal

pub returns-in_err-check_one-clause-err : goal.returns-in_err-check_one-clause-err
returns-in_err-check_one-clause-err g c =
    let q = err_from_is_err_and c.from_residual.result c.from_residual.ensures.1 in
    let who = spec.caller c.args.session.now in
    let s = spec.state g.R.Rng.stream c.args.session.now in
    rw (q.1, q.2) (source_fails (live who.now s) who (segments c.args.from.now.bytes) (segments c.args.to.now.bytes) (map (λ p. segments p.bytes) c.args.gone.now)
    c.in_err-check_one.field-0.0 c.in_err-check_one.ensures.err)

pub returns-then-is_empty-clause-err : goal.returns-then-is_empty-clause-err
returns-then-is_empty-clause-err g c =
    let who = spec.caller c.args.session.now in
    let s = spec.state g.R.Rng.stream c.args.session.now in
    let to = segments c.args.to.now.bytes in
    let gone = map (λ p. segments p.bytes) c.args.gone.now in
    place_fails who (spec.caller c.check_one.new.self) s (spec.state g.R.Rng.stream c.check_one.new.self) (segments c.args.from.now.bytes) to gone
    (λ t w. refusing_removal t w (to ∷ [])) c.check_one.ensures.looks.who c.check_one.ensures.looks.live
    (place_bare (live who.now s) who to gone (none_goes (λ p. segments p.bytes) c.args.gone.now (sym c.is_empty.ensures ∙ c.if-is_empty.true)))
    c.check_one-then-is_empty.result c.check_one-then-is_empty.ensures.err

pub returns-clause-err : goal.returns-clause-err
returns-clause-err g c =
    let who = spec.caller c.args.session.now in
    let s = spec.state g.R.Rng.stream c.args.session.now in
    let to = segments c.args.to.now.bytes in
    let gone = map (λ p. segments p.bytes) c.args.gone.now in
    place_fails who (spec.caller c.check_one.new.self) s (spec.state g.R.Rng.stream c.check_one.new.self) (segments c.args.from.now.bytes) to gone
    (λ t w. refusing_clearing t w to gone) c.check_one.ensures.looks.who c.check_one.ensures.looks.live
    (place_cleared (live who.now s) who to gone (some_goes (λ p. segments p.bytes) c.args.gone.now (sym c.is_empty.ensures ∙ c.if-is_empty.false)))
    c.check_clearing.result c.check_clearing.ensures.err

pub returns-then-is_empty-clause-looks : goal.returns-then-is_empty-clause-looks
returns-then-is_empty-clause-looks g c = looks_on c.check_one.ensures.looks c.check_one-then-is_empty.ensures.looks

pub returns-clause-looks : goal.returns-clause-looks
returns-clause-looks g c = looks_on c.check_one.ensures.looks c.check_clearing.ensures.looks

pub returns-then-is_empty-clause-ok : goal.returns-then-is_empty-clause-ok
returns-then-is_empty-clause-ok g c =
    let who = spec.caller c.args.session.now in
    let s = spec.state g.R.Rng.stream c.args.session.now in
    let to = segments c.args.to.now.bytes in
    let gone = map (λ p. segments p.bytes) c.args.gone.now in
    place_passes who (spec.caller c.check_one.new.self) s (spec.state g.R.Rng.stream c.check_one.new.self) (segments c.args.from.now.bytes) to gone
    (λ t w. refusing_removal t w (to ∷ [])) c.check_one.ensures.looks.who c.check_one.ensures.looks.live
    (place_bare (live who.now s) who to gone (none_goes (λ p. segments p.bytes) c.args.gone.now (sym c.is_empty.ensures ∙ c.if-is_empty.true)))
    c.check_one-then-is_empty.result c.in_ok-check_one.ensures.ok c.check_one-then-is_empty.ensures.ok

pub returns-clause-ok : goal.returns-clause-ok
returns-clause-ok g c =
    let who = spec.caller c.args.session.now in
    let s = spec.state g.R.Rng.stream c.args.session.now in
    let to = segments c.args.to.now.bytes in
    let gone = map (λ p. segments p.bytes) c.args.gone.now in
    place_passes who (spec.caller c.check_one.new.self) s (spec.state g.R.Rng.stream c.check_one.new.self) (segments c.args.from.now.bytes) to gone
    (λ t w. refusing_clearing t w to gone) c.check_one.ensures.looks.who c.check_one.ensures.looks.live
    (place_cleared (live who.now s) who to gone (some_goes (λ p. segments p.bytes) c.args.gone.now (sym c.is_empty.ensures ∙ c.if-is_empty.false)))
    c.check_clearing.result c.in_ok-check_one.ensures.ok c.check_clearing.ensures.ok
