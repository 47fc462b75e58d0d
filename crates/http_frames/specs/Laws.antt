-- What follows from what the calls promise (own).
use Rattle.std.specs.Prelude.{◌≡◌, ◌<◌, ◌≤◌, ℕ, List, [], ◌∷◌, ◌++◌, length, drop, slice_index, IfSome}
use Rattle.http_frames.specs.declared.clients.Clients.{Clients}
use Rattle.http_frames.specs.Clients.{Alone, Has, IsAtRest, count_begun, config_of, held_at, history_of, queue_of, window_of}
use Rattle.http_frames.specs.ConnectionEvents.{Event, Gone, account}
use Rattle.http_frames.specs.TurnRuns.{InOrder}

-- A connection has its turn after exactly as many turns as stood before it: until then as many fewer stand before it as turns were given, and then the turn is its own.
abbrev pub TurnComes : Type 0
TurnComes =
    (queue queue' turns before behind : List ℕ) (number : ℕ) → InOrder turns queue queue' → queue ≡ before ++ number ∷ behind
    → (length turns ≤ length before → (after : List ℕ) × (queue' ≡ drop (length turns) before ++ number ∷ after))
    × (length before < length turns → slice_index turns (length before) ≡ number)

-- where nobody waits for a turn, each connection that goes on has answered each whole request that came, or an answer of it waits, or it is closed
abbrev pub NobodyWaits : Type 0
NobodyWaits =
    (c : Clients) (events : List Event) → Has c events → queue_of c ≡ [] → (number : ℕ) → 0 < number → number ≤ count_begun c
    → IfSome (held_at c number) (λ k. IsAtRest (config_of c) (history_of k))

-- once a client is gone, no call is made for its connection, and nothing is handed out to it
abbrev pub GoneIsGone : Type 0
GoneIsGone =
    (number : ℕ) (events later : List Event)
    → ((account number (events ++ Gone number ∷ later)).made ≡ (account number events).made)
    × ((account number (events ++ Gone number ∷ later)).went ≡ (account number events).went)

-- whatever the number, a connection is as if it were alone
abbrev pub EachIsAlone : Type 0
EachIsAlone = (c : Clients) (events : List Event) → Has c events → (number : ℕ) → Alone (config_of c) (window_of c) (account number events)
