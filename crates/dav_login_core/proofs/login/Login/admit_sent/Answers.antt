use Rattle.http_server.specs.Response.{IsResponse}
use Rattle.http_frames.specs.Closing.{close_field}
use Rattle.std.proofs.Common.{◌≡◌, ℕ, List, [], ◌∷◌, codes, Err, refl, sym, ap, subst, inl, inr, ◌∙◌}
use Rattle.http_header.specs.declared.value.HeaderValueError.{HeaderValueError}
use Rattle.http_header.specs.FieldValue.{FieldValue, IsFieldValue}
use Rattle.dav_users_core.specs.Basic.{name_and_password_of}
use Rattle.dav_users_core.specs.Users.{users_in}
use Rattle.dav_login_core.specs.Admissions.{IsFoundToBe}
use Rattle.dav_login_core.specs.Digests.{WasRefused, digest, is_known}
use Rattle.dav_login_core.specs.declared.login.Login.{Login}
use Rattle.dav_login_core.specs.LoginViews.{login}
use Rattle.dav_login_core.specs.Passing.{AsUser}
use Rattle.dav_login_core.proofs.DigestLemmas.{digest_of_bytes, digest_of_right, digest_of_wrong, known_accepted}
use Rattle.dav_login_core.proofs.LoginLemmas.{given_in_vain, held_back, let_in, same_state, turned_away, users_request}
use Rattle.dav_login_core.proofs.login.Login.admit_sent.Goals as goal

pub returns-in-Err-Invalid-clause-none : goal.returns-in-Err-Invalid-clause-none
returns-in-Err-Invalid-clause-none g c = λ _.
    let unfit = c.in-Err-Invalid.ensures.invalid.0 (ap (λ (e : HeaderValueError). Err e) c.in-Err-Invalid.field-0-is) in
    turned_away (login c.args.self.now) (login c.args.self.now) c.args.request.now c.refuse.new.response
    (given_in_vain (login c.args.self.now).door c.args.request.now (name_and_password_of c.args.given) c.requires.is_sent
    (inr (λ fits. unfit (subst IsFieldValue (sym c.as_str.ensures.value) fits))))
    c.in_ok-refuse-in-Err-Invalid.ensures refl

pub returns-in_ok-inner-in-Accepted-clause-some : goal.returns-in_ok-inner-in-Accepted-clause-some
returns-in_ok-inner-in-Accepted-clause-some g c = λ admitted e.
    let door = (login c.args.self.now).door in
    let given = name_and_password_of c.args.given in
    let is_digest : c.digest-digest.result ≡ digest door.key given.name given.password =
    digest_of_bytes door.key given.name c.as_str-2.result.now given.password c.as_str-3.result.now c.digest-digest.result c.digest-digest.ensures
    c.as_str-2.ensures.value c.as_str-3.ensures.value in
    let_in (IsFoundToBe door (login c.args.self.now).known c.args.request.now) _ admitted e (record {
      passed = inr (users_request door c.args.request.now c.in_ok-inner-in-Accepted.inner given c.requires.is_sent
          (inr (known_accepted door.users door.key (digest door.key given.name given.password) c.args.self.now.accepted.known.items
          c.args.self.now.accepted.are_accepted c.in-Accepted.ensures.weighs))
          (subst (λ (h : List ℕ). AsUser h given.name c.args.request.now c.in_ok-inner-in-Accepted.inner) (ap (λ (l : Login g.row.S.Denot g.row.H.Denot). l.header) c.weigh.ensures.same)
          (subst (λ (n : List ℕ). AsUser c.weigh.new.self.header n c.args.request.now c.in_ok-inner-in-Accepted.inner)
          (ap (λ (v : FieldValue). v.bytes) c.in-Ok.ensures.ok ∙ c.as_str.ensures.value) c.in_ok-inner-in-Accepted.ensures)));
      lesson = (given, c.requires.is_sent, is_digest, ap (is_known (login c.args.self.now).known) is_digest ∙ c.in-Accepted.ensures.weighs);
    })

pub returns-in_ok-inner-in-Right-clause-some : goal.returns-in_ok-inner-in-Right-clause-some
returns-in_ok-inner-in-Right-clause-some g c = λ admitted e.
    let door = (login c.args.self.now).door in
    let given = name_and_password_of c.args.given in
    let is_digest : c.digest-digest.result ≡ digest door.key given.name given.password =
    digest_of_bytes door.key given.name c.as_str-2.result.now given.password c.as_str-3.result.now c.digest-digest.result c.digest-digest.ensures
    c.as_str-2.ensures.value c.as_str-3.ensures.value in
    let_in (IsFoundToBe door (login c.args.self.now).known c.args.request.now) _ admitted e (record {
      passed = inr (users_request door c.args.request.now c.in_ok-inner-in-Right.inner given c.requires.is_sent (inl c.in-Right.ensures.weighs.1)
          (subst (λ (h : List ℕ). AsUser h given.name c.args.request.now c.in_ok-inner-in-Right.inner) (ap (λ (l : Login g.row.S.Denot g.row.H.Denot). l.header) c.weigh.ensures.same)
          (subst (λ (n : List ℕ). AsUser c.weigh.new.self.header n c.args.request.now c.in_ok-inner-in-Right.inner)
          (ap (λ (v : FieldValue). v.bytes) c.in-Ok.ensures.ok ∙ c.as_str.ensures.value) c.in_ok-inner-in-Right.ensures)));
      lesson = (
        digest_of_right door.users door.key given.name given.password c.digest-digest.result is_digest c.in-Right.ensures.weighs.1,
        (given, c.requires.is_sent, is_digest, ap (is_known (login c.args.self.now).known) is_digest ∙ c.in-Right.ensures.weighs.0.unknown),
      );
    })

pub note_refused-requires : goal.note_refused-requires
note_refused-requires g c =
    let door = (login c.args.self.now).door in
    let given = name_and_password_of c.args.given in
    subst (λ (l : Login g.row.S.Denot g.row.H.Denot). WasRefused (users_in l.accepted.users) l.accepted.key c.digest-digest.result) (sym c.weigh.ensures.same)
    (digest_of_wrong door.users door.key given.name given.password c.digest-digest.result
    (digest_of_bytes door.key given.name c.as_str-2.result.now given.password c.as_str-3.result.now c.digest-digest.result c.digest-digest.ensures
    c.as_str-2.ensures.value c.as_str-3.ensures.value)
    c.in-Wrong.ensures.weighs.1)

pub returns-in_ok-refuse-in-Wrong-clause-none : goal.returns-in_ok-refuse-in-Wrong-clause-none
returns-in_ok-refuse-in-Wrong-clause-none g c = λ _.
    let door = (login c.args.self.now).door in
    turned_away (login c.args.self.now) _ c.args.request.now c.refuse-in-Wrong.new.response
    (given_in_vain door c.args.request.now (name_and_password_of c.args.given) c.requires.is_sent (inl (inl c.in-Wrong.ensures.weighs.1)))
    (subst (λ (l : Login g.row.S.Denot g.row.H.Denot). IsResponse 401 ((codes "www-authenticate", l.challenge.bytes) ∷ close_field c.args.request.now) [] c.refuse-in-Wrong.new.response)
    c.weigh.ensures.same c.in_ok-refuse-in-Wrong.ensures)
    (same_state (users_in c.weigh.new.self.accepted.users) (users_in c.note_refused.new.self.users) c.weigh.new.self.challenge.bytes c.weigh.new.self.header c.weigh.new.self.watch.addresses.field
    c.weigh.new.self.accepted.key c.note_refused.new.self.key c.weigh.new.self.accepted.known.items c.note_refused.new.self.known.items
    c.weigh.new.self.service c.weigh.new.self.watch.host (ap users_in c.note_refused.ensures.users) c.note_refused.ensures.key c.note_refused.ensures.known
    ∙ ap (λ (l : Login g.row.S.Denot g.row.H.Denot). login l) c.weigh.ensures.same)

pub returns-in_ok-refuse-in-Again-clause-none : goal.returns-in_ok-refuse-in-Again-clause-none
returns-in_ok-refuse-in-Again-clause-none g c = λ _.
    turned_away (login c.args.self.now) (login c.weigh.new.self) c.args.request.now c.refuse-in-Again.new.response
    (given_in_vain (login c.args.self.now).door c.args.request.now (name_and_password_of c.args.given) c.requires.is_sent
    (inl (inr c.in-Again.ensures.weighs.1)))
    (subst (λ (l : Login g.row.S.Denot g.row.H.Denot). IsResponse 401 ((codes "www-authenticate", l.challenge.bytes) ∷ close_field c.args.request.now) [] c.refuse-in-Again.new.response)
    c.weigh.ensures.same c.in_ok-refuse-in-Again.ensures)
    (ap (λ (l : Login g.row.S.Denot g.row.H.Denot). login l) c.weigh.ensures.same)

pub returns-in_ok-hold_back-in-TooMany-clause-none : goal.returns-in_ok-hold_back-in-TooMany-clause-none
returns-in_ok-hold_back-in-TooMany-clause-none g c = λ _.
    held_back (login c.args.self.now) (login c.weigh.new.self) c.args.request.now c.hold_back.new.response (name_and_password_of c.args.given)
    c.requires.is_sent c.in-TooMany.ensures.weighs.unknown c.in_ok-hold_back-in-TooMany.ensures
    (ap (λ (l : Login g.row.S.Denot g.row.H.Denot). login l) c.weigh.ensures.same)
