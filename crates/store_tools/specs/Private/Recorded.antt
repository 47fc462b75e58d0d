-- The calls of an export as the system's own record has them.
use Rattle.std.specs.Prelude.{ℕ, Bool, List, [], map, string_bytes}
use Rattle.store_tools.specs.Exports.{SystemCall}
use Rattle.store_tools.specs.declared.calls.Host.{Host}

abbrev pub plain_call : List ℕ → ℕ → SystemCall
plain_call place call = record { place = place; call = call; bytes = []; time = 0 }

abbrev pub host_history : Host → List (SystemCall × Bool)
host_history h = map (λ n. (record { place = string_bytes n.0; call = n.1.call; bytes = n.1.bytes.now; time = n.1.time.0 }, n.1.is_done)) h.log.items
