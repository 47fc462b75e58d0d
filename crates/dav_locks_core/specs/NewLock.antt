-- The lock that is granted at a moment.
use Rattle.std.specs.Prelude.{ℕ, List, Bool, Option}
use Rattle.dav_path_core.specs.PathText.{PathText}
use Rattle.dav_locks_core.specs.Lock.{Lock}
use Rattle.dav_locks_core.specs.Locks.{end_of}

abbrev pub new_lock : List ℕ → PathText → Option (List ℕ) → Option (List ℕ) → Option ℕ → Bool → Bool → ℕ → Lock
new_lock token path principal owner timeout shared deep now = record {
  token = token;
  path = path;
  principal = principal;
  owner = owner;
  timeout_at = end_of now timeout;
  timeout = timeout;
  shared = shared;
  deep = deep;
}
