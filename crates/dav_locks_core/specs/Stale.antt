-- Locks that expire (RFC 4918 section 6.6).
use Rattle.std.specs.Prelude.{ℕ, List, Bool, false, not, filter, nat_le, Option, Some, None}
use Rattle.dav_locks_core.specs.Lock.{Lock}

-- whether an end has come at a moment; a lock without an end never expires
abbrev pub has_come : ℕ → Option ℕ → Bool
has_come now None = false
has_come now (Some end) = nat_le end now

-- the moment at which the lock's timeout ends has come
abbrev pub is_stale : ℕ → Lock → Bool
is_stale now l = has_come now l.timeout_at

-- the locks that don't end by a moment, in their order
abbrev pub without_stale : ℕ → List Lock → List Lock
without_stale now locks = filter (λ l. not (is_stale now l)) locks
