-- What contracts see of a login.
use Rattle.dav_users_core.specs.Users.{users_in}
use Rattle.dav_login_core.specs.declared.login.Login.{Login}
use Rattle.dav_login_core.specs.LoggedIn.{LoginState}

abbrev pub login : {S H : Type 0} → Login S H → LoginState S H
login l = record {
  door = record { users = users_in l.accepted.users; challenge = l.challenge.bytes; header = l.header; address_field = l.watch.addresses.field; key = l.accepted.key };
  known = l.accepted.known.items;
  service = l.service;
  host = l.watch.host;
}
