-- What is sent beside a status: header fields, in order, and a body (RFC 9110 sections 5 and 6.4).
use Rattle.std.specs.Prelude.{◌≡◌, ℕ, List, [], ◌++◌, map, filter, bytes_eq, codes}
use Rattle.http_server.specs.Response.{fields_of}
use Rattle.http_server.specs.declared.response.Response.{Response}

-- a name and a value
abbrev pub Field : Type 0
Field = List ℕ × List ℕ

pub record Sent : Type 0 where
  pub fields : List Field
  pub body : List ℕ

abbrev pub sent_of : Response → Sent
sent_of response = record { fields = fields_of response; body = response.body.items }

-- neither a field nor a body
abbrev pub nothing_sent : Sent
nothing_sent = record { fields = []; body = [] }

-- these fields, and behind them what is sent
abbrev pub sent_behind : List Field → Sent → Sent
sent_behind first sent = record { fields = first ++ sent.fields; body = sent.body }

-- a response gets these fields, behind its own
abbrev pub AddsFields : List Field → Response → Response → Type 0
AddsFields more old new = fields_of new ≡ fields_of old ++ more

-- A response without a body gets these fields, behind its own, and this body; and of them this holds.
abbrev pub SendsMore : Response → Response → (Sent → Type 0) → Type 0
SendsMore old new Says = (sent : Sent) × (sent_of new ≡ sent_behind (fields_of old) sent) × Says sent

-- ---- the values that clients go by

-- the values of the fields with a name, in order
abbrev pub values_in : List Field → List ℕ → List (List ℕ)
values_in fields name = map (λ h. h.1) (filter (λ h. bytes_eq h.0 name) fields)

-- the entity tags (RFC 9110 section 8.8.3)
abbrev pub sent_tags : List Field → List (List ℕ)
sent_tags fields = values_in fields (codes "etag")

-- which part of a file the body is (RFC 9110 section 14.4)
abbrev pub sent_parts : List Field → List (List ℕ)
sent_parts fields = values_in fields (codes "content-range")

-- the types of the body (RFC 9110 section 8.3)
abbrev pub sent_types : List Field → List (List ℕ)
sent_types fields = values_in fields (codes "content-type")

-- a token as `Lock-Token` has it
abbrev pub in_brackets : List ℕ → List ℕ
in_brackets token = codes "<" ++ (token ++ codes ">")
