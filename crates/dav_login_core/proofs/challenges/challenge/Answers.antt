use Rattle.std.proofs.Common.{◌≡◌, true, string_bytes, Err, sym, ap, subst, ◌∙◌}
use Rattle.http_header.specs.declared.value.HeaderValueError.{HeaderValueError}
use Rattle.http_header.specs.FieldValue.{IsFieldValue}
use Rattle.dav_login_core.specs.Challenges.{challenge, is_realm}
use Rattle.dav_login_core.proofs.RealmLemmas.{challenge_fits}
use Rattle.dav_login_core.proofs.challenges.challenge.Goals as goal

pub unreachable-requires : goal.unreachable-requires
unreachable-requires c =
    let can : is_realm c.args.realm.now ≡ true = ap is_realm (sym c.as_bytes.ensures.value) ∙ sym c.is_realm.ensures ∙ c.if-not-is_realm.false in
    let said : string_bytes c.in_ok-text.text ≡ challenge c.args.realm.now = c.in_ok-text.ensures.ok in
    c.in-Err-Invalid.ensures.invalid.0 (ap (λ (e : HeaderValueError). Err e) c.in-Err-Invalid.field-0-is)
    (subst IsFieldValue (sym said) (challenge_fits c.args.realm.now can))
