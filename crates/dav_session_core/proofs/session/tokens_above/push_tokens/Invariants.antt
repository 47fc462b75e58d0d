use Rattle.std.proofs.Common.{◌≡◌, ◌++◌, take, map, string_bytes}
use Rattle.dav_locks_core.specs.Lock.{Lock}
use Rattle.dav_session_core.proofs.session.tokens_above.push_tokens.Given as goal

abbrev pub invariant-loop-lock : goal.invariant-loop-lock
invariant-loop-lock l = map string_bytes l.tokens.items ≡ map string_bytes l.initial.tokens.items ++ map (λ (k : Lock). k.token) (take l.lock-index l.locks)
