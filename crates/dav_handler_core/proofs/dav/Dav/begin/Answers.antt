use Rattle.dav_fields_core.specs.AnswerFields.{date_field}
use Rattle.std.proofs.Common.{◌≡◌, ◌<◌, ◌≤◌, ◌⊎◌, [], ◌∷◌, ◌++◌, ◌∙◌, sym, ap, subst, option_map, map, string_bytes}
use Rattle.std.proofs.lemmas.Result.{err_from_is_err_and}
use Rattle.http.specs.Request.{head_of}
use Rattle.http_header.specs.FieldValue.{FieldValue}
use Rattle.http_header.specs.HeaderMap.{Entries}
use Rattle.dav_faults_core.specs.declared.faults.Fault.TheVariants as fault
use Rattle.dav_session_core.specs.Callers.{Caller, IsSender}
use Rattle.dav_fields_core.specs.Bases.{Site, site_of}
use Rattle.dav_fields_core.specs.RequestRefusals.{RefusesTarget, RefusesPrincipal, HasBadIf}
use Rattle.dav_fields_core.specs.Senders.{NamesPrincipal, Submits}
use Rattle.dav_handler_core.specs.Server.{site_for}
use Rattle.dav_handler_core.specs.ServerViews.{options_of, server}
use Rattle.dav_fields_core.specs.Targets.{IsTargetOf}
use Rattle.dav_handler_core.proofs.AnswerLemmas.{by_memory, by_target, by_principal, by_tokens, by_moment}
use Rattle.dav_handler_core.proofs.MomentLemmas.{behind_last, not_before}
use Rattle.dav_handler_core.proofs.dav.Dav.begin.Goals as goal

-- what holds of a site and of headers holds of the request whose these are
at_request : (Says : Site → Entries FieldValue → Type 0) (site there : Site) (headers these : Entries FieldValue)
    → site ≡ there → headers ≡ these → Says site headers → Says there these
at_request Says site there headers these same is h =
    subst (λ s. Says s these) same (subst (Says site) is h)

pub returns-clause-ok : goal.returns-clause-ok
returns-clause-ok g c = (
  subst (λ prefix. IsTargetOf prefix (head_of c.args.request.now).uri c.in_ok-path.path) c.deref.ensures
      (subst (λ uri. IsTargetOf c.deref.result.now uri c.in_ok-path.path) c.uri.ensures c.in_ok-path.ensures.ok),
  subst (IsSender c.args.self.now.settings.user_header (site_for (options_of c.args.self.now.settings) c.args.request.now) (head_of c.args.request.now).headers) (sym c.begin.ensures.caller) (record {
    principal = subst (λ headers. NamesPrincipal c.args.self.now.settings.user_header headers (option_map string_bytes c.in_ok-principal.principal)) c.headers.ensures c.in_ok-principal.ensures.ok;
    tokens = at_request (λ site headers. Submits site headers (map string_bytes c.in_ok-tokens.tokens.items))
        c.of-site.result (site_for (options_of c.args.self.now.settings) c.args.request.now)
        c.headers-2.result.now (head_of c.args.request.now).headers
        (c.of-site.ensures ∙ ap (site_of c.args.self.now.settings.scheme) c.uri-2.ensures) c.headers-2.ensures c.in_ok-tokens.ensures.ok;
  }),
  λ changes. subst (λ n. c.args.self.now.session.stores.who.now < n) (sym (ap (λ (w : Caller). w.now) c.begin.ensures.caller))
      (behind_last c.args.changes (server g.R.Rng.stream c.args.self.now) c.in_ok-now.now.0 c.in_ok-now.ensures.ok changes),
)

pub returns-in_err-path-clause-err : goal.returns-in_err-path-clause-err
returns-in_err-path-clause-err g c =
    let p = err_from_is_err_and c.from_residual.result c.from_residual.ensures.1 in
    let e = c.in_err-path.field-0.0 in
    rw (p.1, p.2) (by_target (options_of c.args.self.now.settings) c.args.request.now c.args.self.now.session.stores.who.now c.args.changes e
    (subst (λ prefix. (e ≡ fault.InsufficientStorage) ⊎ RefusesTarget prefix (head_of c.args.request.now).uri e) c.deref.ensures
    (subst (λ uri. (e ≡ fault.InsufficientStorage) ⊎ RefusesTarget c.deref.result.now uri e) c.uri.ensures c.in_err-path.ensures.err)))

pub returns-in_err-principal-clause-err : goal.returns-in_err-principal-clause-err
returns-in_err-principal-clause-err g c =
    let p = err_from_is_err_and c.from_residual-in_err-principal.result c.from_residual-in_err-principal.ensures.1 in
    let e = c.in_err-principal.field-0.0 in
    rw (p.1, p.2) (by_principal (options_of c.args.self.now.settings) c.args.request.now c.args.self.now.session.stores.who.now c.args.changes e
    c.in_ok-path.path
    (subst (λ prefix. IsTargetOf prefix (head_of c.args.request.now).uri c.in_ok-path.path) c.deref.ensures
    (subst (λ uri. IsTargetOf c.deref.result.now uri c.in_ok-path.path) c.uri.ensures c.in_ok-path.ensures.ok))
    (subst (λ headers. (e ≡ fault.InsufficientStorage) ⊎ RefusesPrincipal c.args.self.now.settings.user_header headers e) c.headers.ensures c.in_err-principal.ensures.err))

pub returns-in_err-tokens-clause-err : goal.returns-in_err-tokens-clause-err
returns-in_err-tokens-clause-err g c =
    let p = err_from_is_err_and c.from_residual-in_err-tokens.result c.from_residual-in_err-tokens.ensures.1 in
    let e = c.in_err-tokens.field-0.0 in
    rw (p.1, p.2) (by_tokens (options_of c.args.self.now.settings) c.args.request.now c.args.self.now.session.stores.who.now c.args.changes e
    c.in_ok-path.path (option_map string_bytes c.in_ok-principal.principal)
    (subst (λ prefix. IsTargetOf prefix (head_of c.args.request.now).uri c.in_ok-path.path) c.deref.ensures
    (subst (λ uri. IsTargetOf c.deref.result.now uri c.in_ok-path.path) c.uri.ensures c.in_ok-path.ensures.ok))
    (subst (λ headers. NamesPrincipal c.args.self.now.settings.user_header headers (option_map string_bytes c.in_ok-principal.principal)) c.headers.ensures
    c.in_ok-principal.ensures.ok)
    (at_request (λ site headers. (e ≡ fault.InsufficientStorage) ⊎ ((e ≡ fault.BadRequest) × HasBadIf site headers))
    c.of-site.result (site_for (options_of c.args.self.now.settings) c.args.request.now)
    c.headers-2.result.now (head_of c.args.request.now).headers
    (c.of-site.ensures ∙ ap (site_of c.args.self.now.settings.scheme) c.uri-2.ensures) c.headers-2.ensures c.in_err-tokens.ensures.err))

pub returns-in_err-now-clause-err : goal.returns-in_err-now-clause-err
returns-in_err-now-clause-err g c =
    let p = err_from_is_err_and c.from_residual-in_err-now.result c.from_residual-in_err-now.ensures.1 in
    let e = c.in_err-now.field-0.0 in
    rw (p.1, p.2) (by_moment (options_of c.args.self.now.settings) c.args.request.now c.args.self.now.session.stores.who.now c.args.changes e
    c.in_ok-path.path
    (record { principal = option_map string_bytes c.in_ok-principal.principal; tokens = map string_bytes c.in_ok-tokens.tokens.items; now = 0 })
    (subst (λ prefix. IsTargetOf prefix (head_of c.args.request.now).uri c.in_ok-path.path) c.deref.ensures
    (subst (λ uri. IsTargetOf c.deref.result.now uri c.in_ok-path.path) c.uri.ensures c.in_ok-path.ensures.ok))
    (record {
      principal = subst (λ headers. NamesPrincipal c.args.self.now.settings.user_header headers (option_map string_bytes c.in_ok-principal.principal)) c.headers.ensures
          c.in_ok-principal.ensures.ok;
      tokens = at_request (λ site headers. Submits site headers (map string_bytes c.in_ok-tokens.tokens.items))
          c.of-site.result (site_for (options_of c.args.self.now.settings) c.args.request.now)
          c.headers-2.result.now (head_of c.args.request.now).headers
          (c.of-site.ensures ∙ ap (site_of c.args.self.now.settings.scheme) c.uri-2.ensures) c.headers-2.ensures c.in_ok-tokens.ensures.ok;
    })
    c.in_err-now.ensures.err)

pub returns-in_err-add_date-clause-err : goal.returns-in_err-add_date-clause-err
returns-in_err-add_date-clause-err g c =
    let p = err_from_is_err_and c.from_residual-in_err-add_date.result c.from_residual-in_err-add_date.ensures.1 in
    rw (p.1, p.2) (by_memory (options_of c.args.self.now.settings) c.args.request.now c.args.self.now.session.stores.who.now c.args.changes c.in_err-add_date.field-0.0 c.in_err-add_date.ensures.err)

pub returns-clause-dated : goal.returns-clause-dated
returns-clause-dated g c = (
  c.in_ok-add_date.ensures.fields ∙ ap (λ fields. fields ++ date_field c.args.date.now ∷ []) c.requires.blank.headers,
  ap (λ b. b.items) c.add_date.ensures.body ∙ c.requires.blank.body,
)

pub returns-clause-moment : goal.returns-clause-moment
returns-clause-moment g c = (
  ap (λ (w : Caller). w.now) c.begin.ensures.caller
      ∙ c.in_ok-now.ensures.ok.0,
  c.in_ok-now.ensures.ok.1,
)

pub returns-clause-moments : goal.returns-clause-moments
returns-clause-moments g c =
    subst (λ n. c.args.self.now.session.stores.who.now ≤ n) (sym (ap (λ (w : Caller). w.now) c.begin.ensures.caller))
    (not_before c.args.changes (server g.R.Rng.stream c.args.self.now) c.in_ok-now.now.0 c.in_ok-now.ensures.ok)

pub begin-requires : goal.begin-requires
begin-requires g c = record {
  later = λ keeps. not_before c.args.changes (server g.R.Rng.stream c.args.self.now) c.in_ok-now.now.0 c.in_ok-now.ensures.ok;
}
