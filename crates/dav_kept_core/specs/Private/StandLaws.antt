-- What the laws of the trait `Recording` say of a kept server: word of the moment or of the users changes nothing that is kept, and each turn changes `turn`.
use Rattle.std.proofs.Common.{◌≡◌, ◌≤◌, ℕ, Option, Some, None, not, List, [], ◌∷◌, length, ◌∙◌, refl, sym, ap, subst, arith}
use Rattle.http_server.specs.Exchange.{Call, Chain}
use Rattle.http_frames.specs.Gate.{IsTold}
use Rattle.dav_handler_core.specs.Server.{Server}
use Rattle.dav_handler_core.specs.Serving.{with_clock}
use Rattle.dav_kept_core.specs.KeptServers.{BeginsKept, ClockedKept, KeptServer, ListedKept, RepliesKept, StandsForServer, with_room}

-- all but the clock is the same
pub record SameButClock (v v' : Server) : Type 0 where
  pub state : v'.state ≡ v.state
  pub last : v'.last ≡ v.last
  pub noting : v'.noting ≡ v.noting

pub same_but_clock : (moment : Option ℕ) (v v' : Server) → v' ≡ with_clock moment v → SameButClock v v'
same_but_clock None v v' is = record { state = ap (λ (s : Server). s.state) is; last = ap (λ (s : Server). s.last) is; noting = ap (λ (s : Server). s.noting) is }
same_but_clock (Some m) v v' is = record { state = ap (λ (s : Server). s.state) is; last = ap (λ (s : Server). s.last) is; noting = ap (λ (s : Server). s.noting) is }

module _ {C : Type 0} where
  pub stands_alike : (records : List (List ℕ)) (s s' : KeptServer C) → SameButClock s.timing.server s'.timing.server → s'.header ≡ s.header → StandsForServer records s → StandsForServer records s'
  stands_alike records s s' same header h = record {
    old = h.old;
    start = h.start;
    from = h.from;
    stand = rw header h.stand;
    calls = h.calls;
    made = h.made;
    are = h.are;
    all = h.all;
    leads = rw (same.last, same.state) h.leads;
    fresh = rw (same.noting, same.last, same.state) h.fresh;
  }

  -- the notes are begun anew
  pub stands_roomed : (given : ℕ) (records : List (List ℕ)) (s : KeptServer C) → StandsForServer records s
      → StandsForServer records (record s { timing = record { server = with_room given s.timing.server; clock = s.timing.clock } })
  stands_roomed given records s h = record {
    old = h.old;
    start = h.start;
    from = h.from;
    stand = h.stand;
    calls = h.calls;
    made = h.made;
    are = h.are;
    all = h.all;
    leads = h.leads;
    fresh = (h.fresh.0, refl);
  }

  -- word of the moment
  pub clocked_stands : (records : List (List ℕ)) (s s' : KeptServer C) (moment : ℕ) → StandsForServer records s → ClockedKept s moment s' → StandsForServer records s'
  clocked_stands records s s' moment h x = stands_alike records s s' (same_but_clock (Some moment) s.timing.server s'.timing.server x.clocked.0) x.header h

  -- word of the users
  pub listed_stands : (records : List (List ℕ)) (s s' : KeptServer C) (file : List ℕ) → StandsForServer records s → ListedKept s file s' → StandsForServer records s'
  listed_stands records s s' file h x = subst (StandsForServer records) (sym x) h

  -- whatever the service is of which that is seen
  module _ {S : Type 0} (see : S → KeptServer C) where
    turn_chain : (s s' : S) (calls : List Call) → length calls ≤ 1 → Chain (λ old request response new. RepliesKept (see old) request response (see new)) s calls s' → (see s').turn ≡ (see s).turn
    turn_chain s s' [] short x = ap (λ (k : S). (see k).turn) x
    turn_chain s s' (c ∷ []) short x = ap (λ (k : S). (see k).turn) x.2 ∙ x.1.turn
    turn_chain s s' (c ∷ (d ∷ calls)) short x = absurd (omega (arith, short))

    -- a turn that the service was told of
    pub turn_told : (tells : C → Option ℕ → C → Type 0) (s : S) (number : ℕ) (calls : List Call) (s' : S)
        → IsTold (λ old number new. BeginsKept tells (see old) number (see new)) (λ old request response new. RepliesKept (see old) request response (see new)) s number calls s' → (see s').turn ≡ not (see s).turn
    turn_told tells s number calls s' x = turn_chain x.0 s' calls x.2.one x.2.chain ∙ x.1.turn
