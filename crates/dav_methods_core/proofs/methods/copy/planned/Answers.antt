use Rattle.std.proofs.Common.{◌≡◌, [], ◌++◌, map, sym, ap, ◌∙◌, subst}
use Rattle.std.specs.Prelude.{option_map}
use Rattle.std.proofs.lemmas.Result.{err_from_is_err_and}
use Rattle.dav_path_core.specs.Segments.{segments}
use Rattle.dav_path_core.specs.Fronts.{Path}
use Rattle.dav_files_core.specs.Meta.{meta_at, meta_of}
use Rattle.dav_files_core.specs.Resources.{IsResourceMap, Resource, at_path}
use Rattle.dav_guarded_core.specs.Checks.{has, shallow}
use Rattle.dav_guarded_core.specs.Step.{State}
use Rattle.dav_session_core.specs.declared.session.copying.Transfer.{Transfer}
use Rattle.dav_session_core.specs.Callers.{live}
use Rattle.dav_methods_core.specs.CopyMethod.{CantCopy}
use Rattle.dav_session_core.specs.LocksInTheWay.{IsRefusedBy}
use Rattle.dav_methods_core.specs.Placing.{target_by}
use Rattle.dav_methods_core.specs.TransferEnds.{ArePlaces, LacksPlaces, copies_of}
use Rattle.dav_methods_core.specs.CopyMethod.{IsPlanned}
use Rattle.dav_session_core.specs.Sessions as spec
use Rattle.dav_methods_core.proofs.CopyMethodLemmas.{asked_are, asked_of, checks_are, copy_locked, copy_planned, copy_unfit, copy_unwalked, plan_lost}
use Rattle.dav_session_core.proofs.Looking.{looks_on, same_asked}
use Rattle.dav_methods_core.proofs.CopyPlanLemmas.{pairs_are, rests_of}
use Rattle.dav_session_core.proofs.PutLemmas.{known_there}
use Rattle.dav_methods_core.proofs.methods.copy.planned.Goals as goal

abbrev ends : Transfer → Path × Path
ends t = (segments t.from.bytes, segments t.to.bytes)

pub returns-in_err-target-clause-err : goal.returns-in_err-target-clause-err
returns-in_err-target-clause-err g c =
    let q = err_from_is_err_and c.from_residual.result c.from_residual.ensures.1 in
    let who = spec.caller c.args.session.now in
    let start = spec.state g.R.Rng.stream c.args.session.now in
    let from = segments c.args.path.now.bytes in
    rw (q.1, q.2) (copy_unfit c.args.site.now c.args.prefix.now c.args.headers.now who start from c.args.deep c.requires c.in_err-target.field-0.0 c.in_err-target.ensures.err)

pub returns-in_err-places-clause-err : goal.returns-in_err-places-clause-err
returns-in_err-places-clause-err g c =
    let q = err_from_is_err_and c.from_residual-in_err-places.result c.from_residual-in_err-places.ensures.1 in
    let who = spec.caller c.args.session.now in
    let start = spec.state g.R.Rng.stream c.args.session.now in
    let from = segments c.args.path.now.bytes in
    let deep = c.args.deep in
    let to = c.in_ok-target.field-0.target in
    let known = option_map meta_of c.in_ok-target.field-0.known in
    let gone = map (λ q. segments q.bytes) c.in_ok-target.field-0.gone.items in
    let are = c.in_ok-target.ensures.ok in
    rw (q.1, q.2) (copy_unwalked c.args.site.now c.args.prefix.now c.args.headers.now who start from deep c.requires to known gone are c.in_err-places.field-0.0
    (subst (λ (t : State). LacksPlaces t.map deep from c.in_err-places.field-0.0) c.ends_of.ensures.looks.live c.in_err-places.ensures.err))

pub returns-in_err-transfers-clause-err : goal.returns-in_err-transfers-clause-err
returns-in_err-transfers-clause-err g c =
    let q = err_from_is_err_and c.from_residual-in_err-transfers.result c.from_residual-in_err-transfers.ensures.1 in
    let who = spec.caller c.args.session.now in
    let start = spec.state g.R.Rng.stream c.args.session.now in
    let from = segments c.args.path.now.bytes in
    rw (q.1, q.2) (plan_lost c.args.site.now c.args.prefix.now c.args.headers.now who start from c.in_err-transfers.field-0.0 c.in_err-transfers.ensures.err)

pub returns-in-Ok-clause-ok : goal.returns-in-Ok-clause-ok
returns-in-Ok-clause-ok g c =
    let who = spec.caller c.args.session.now in
    let start = spec.state g.R.Rng.stream c.args.session.now in
    let from = segments c.args.path.now.bytes in
    let walker = spec.caller c.places_of.new.session in
    let b = spec.state g.R.Rng.stream c.places_of.new.session in
    let deep = c.args.deep in
    let to = segments c.in_ok-target.field-0.target.bytes in
    let known = c.in_ok-target.field-0.known in
    let gone = map (λ q. segments q.bytes) c.in_ok-target.field-0.gone.items in
    let are = c.in_ok-target.ensures.ok in
    let places = map (λ q. segments q.bytes) c.in_ok-places.places.items in
    let found = subst (λ (t : State). ArePlaces t.map deep from places) c.ends_of.ensures.looks.live c.in_ok-places.ensures.ok in
    let transfers = c.in_ok-transfers.transfers.items in
    let pairs : map ends transfers ≡ copies_of from to places =
    c.in_ok-transfers.ensures.ok ∙ ap (λ xs. copies_of from to (map (λ q. segments q.bytes) xs)) c.deref.ensures.value in
    let there : c.is_some.result ≡ has start.map to = c.is_some.ensures ∙ known_there meta_of (λ (r : Resource). meta_at r.node) known (at_path start.map to) are.known_is in
    let ks = map (λ t. shallow (segments t.to.bytes)) transfers in
    let rests = rests_of from to places in
    let checks = checks_are ends from to transfers rests (pairs ∙ pairs_are from to places) in
    let looks = looks_on c.ends_of.ensures.looks c.places_of.ensures.looks in
    let asked = same_asked (λ w t. asked_of to gone (target_by c.is_some.result to ++ ks) t w) looks
    ∙ asked_are who (live who.now start) to gone rests c.is_some.result ks there checks in
    let free = subst (λ xs. asked_of to xs (target_by c.is_some.result to ++ map (λ t. shallow (segments t.to.bytes)) c.deref-3.result.now) (live walker.now b) walker ≡ [])
    (ap (map (λ q. segments q.bytes)) c.deref-2.ensures.value) c.in-Ok.ensures.ok in
    let all_free = subst (λ ts. asked_of to gone (target_by c.is_some.result to ++ map (λ t. shallow (segments t.to.bytes)) ts) (live walker.now b) walker ≡ []) c.deref-3.ensures.value free in
    let still = looks_on looks c.check_copy.ensures.looks in
    subst (IsPlanned c.args.site.now c.args.prefix.now c.args.headers.now (live who.now start) who from (option_map meta_of known) gone) (sym pairs)
    (copy_planned c.args.site.now c.args.prefix.now c.args.headers.now who start from deep c.requires c.in_ok-target.field-0.target (option_map meta_of known) gone are places found
    (subst (λ (t : State). IsResourceMap t.map) still.live c.in-Ok.ensures.shape) (sym asked ∙ all_free))

pub returns-in-Err-clause-err : goal.returns-in-Err-clause-err
returns-in-Err-clause-err g c =
    let who = spec.caller c.args.session.now in
    let start = spec.state g.R.Rng.stream c.args.session.now in
    let from = segments c.args.path.now.bytes in
    let walker = spec.caller c.places_of.new.session in
    let b = spec.state g.R.Rng.stream c.places_of.new.session in
    let deep = c.args.deep in
    let to = segments c.in_ok-target.field-0.target.bytes in
    let known = c.in_ok-target.field-0.known in
    let gone = map (λ q. segments q.bytes) c.in_ok-target.field-0.gone.items in
    let are = c.in_ok-target.ensures.ok in
    let places = map (λ q. segments q.bytes) c.in_ok-places.places.items in
    let found = subst (λ (t : State). ArePlaces t.map deep from places) c.ends_of.ensures.looks.live c.in_ok-places.ensures.ok in
    let transfers = c.in_ok-transfers.transfers.items in
    let pairs : map ends transfers ≡ copies_of from to places =
    c.in_ok-transfers.ensures.ok ∙ ap (λ xs. copies_of from to (map (λ q. segments q.bytes) xs)) c.deref.ensures.value in
    let there : c.is_some.result ≡ has start.map to = c.is_some.ensures ∙ known_there meta_of (λ (r : Resource). meta_at r.node) known (at_path start.map to) are.known_is in
    let ks = map (λ t. shallow (segments t.to.bytes)) transfers in
    let rests = rests_of from to places in
    let checks = checks_are ends from to transfers rests (pairs ∙ pairs_are from to places) in
    let looks = looks_on c.ends_of.ensures.looks c.places_of.ensures.looks in
    let asked = same_asked (λ w t. asked_of to gone (target_by c.is_some.result to ++ ks) t w) looks
    ∙ asked_are who (live who.now start) to gone rests c.is_some.result ks there checks in
    let e = c.in-Err.fault in
    let here = subst (λ xs. IsRefusedBy (asked_of to xs (target_by c.is_some.result to ++ map (λ t. shallow (segments t.to.bytes)) c.deref-3.result.now) (live walker.now b) walker) e)
    (ap (map (λ q. segments q.bytes)) c.deref-2.ensures.value) c.in-Err.ensures.err in
    let all_here = subst (λ ts. IsRefusedBy (asked_of to gone (target_by c.is_some.result to ++ map (λ t. shallow (segments t.to.bytes)) ts) (live walker.now b) walker) e)
    c.deref-3.ensures.value here in
    subst (CantCopy c.args.site.now c.args.prefix.now c.args.headers.now (live who.now start) who from) (sym c.by_place.ensures)
    (copy_locked c.args.site.now c.args.prefix.now c.args.headers.now who start from deep c.requires c.in_ok-target.field-0.target (option_map meta_of known) gone are places found e
    (subst (λ ls. IsRefusedBy ls e) asked all_here))

pub returns-in_err-places-clause-looks : goal.returns-in_err-places-clause-looks
returns-in_err-places-clause-looks g c = looks_on c.ends_of.ensures.looks c.places_of.ensures.looks

pub returns-in_err-transfers-clause-looks : goal.returns-in_err-transfers-clause-looks
returns-in_err-transfers-clause-looks g c = looks_on c.ends_of.ensures.looks c.places_of.ensures.looks

pub returns-in-Ok-clause-looks : goal.returns-in-Ok-clause-looks
returns-in-Ok-clause-looks g c = looks_on (looks_on c.ends_of.ensures.looks c.places_of.ensures.looks) c.check_copy.ensures.looks

pub returns-in-Err-clause-looks : goal.returns-in-Err-clause-looks
returns-in-Err-clause-looks g c = looks_on (looks_on c.ends_of.ensures.looks c.places_of.ensures.looks) c.check_copy.ensures.looks
