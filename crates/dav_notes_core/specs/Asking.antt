-- Who asks: the same for all requests that one HTTP request leads to (RFC 4918 sections 6.4 and 10.4).
use Rattle.std.specs.Prelude.{ℕ, List, [], ◌∷◌, ◌++◌, Option, None, map, option_map, string_bytes}
use Rattle.dav_guarded_core.specs.Requests.{Command, Request}
use Rattle.dav_notes_core.specs.declared.senders.Sender.{Sender}

-- the principal, the tokens that are submitted, and the moment
pub record Caller : Type 0 where
  pub principal : Option (List ℕ)
  pub tokens : List (List ℕ)
  pub now : ℕ

abbrev pub sender_of : Sender → Caller
sender_of who = record { principal = option_map string_bytes who.principal; tokens = map string_bytes who.tokens.items; now = who.now.0 }

-- the request by which the caller asks for a command
abbrev pub asking : Caller → Command → Request
asking who command = record { principal = who.principal; tokens = who.tokens; now = who.now; command = command }

-- the caller who asks by a request
abbrev pub asker_of : Request → Caller
asker_of request = record { principal = request.principal; tokens = request.tokens; now = request.now }

-- no principal, no tokens, and the moment 0
abbrev pub nobody : Caller
nobody = record { principal = None; tokens = []; now = 0 }

-- the caller with one token more
abbrev pub also_naming : Caller → List ℕ → Caller
also_naming who token =
    record { principal = who.principal; tokens = who.tokens ++ token ∷ []; now = who.now }
