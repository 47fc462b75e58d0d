-- The lock that is wanted, with a token.
use Rattle.std.specs.Prelude.{ℕ, List, option_map}
use Rattle.dav_locks_core.specs.Lock.{Lock}
use Rattle.dav_locks_core.specs.Calls.{lent_text}
use Rattle.dav_locks_core.specs.declared.memls.granting.LockRequest.{LockRequest}

abbrev pub lock_for : LockRequest → List ℕ → Lock
lock_for w token = record {
  token = token;
  path = w.path.now;
  principal = lent_text w.principal;
  owner = lent_text w.owner;
  timeout_at = option_map (λ m. m.0) w.timeout_at;
  timeout = w.timeout;
  shared = w.shared;
  deep = w.deep;
}
