-- Events that lead a login lead the service behind it by the calls that were passed on.
use Rattle.std.proofs.Common.{◌≡◌, ℕ, List, [], ◌∷◌, refl, sym, ap, subst, inl, inr}
use Rattle.http.specs.declared.request.Request.{Request}
use Rattle.http_server.specs.declared.response.Response.{Response}
use Rattle.http_server.specs.Exchange.{Call}
use Rattle.http_frames.specs.ConnectionEvents.{Event, Came, Rejected, Took, Gone, Answered, Told, Granted, Awaited, Known, Ended, Clock, Free, From, Users, Late, Turned, Asked, Nothing, Touched, Closed}
use Rattle.http_frames.specs.Gate.{TakesTurn}
use Rattle.http_frames.specs.TurnRuns.{EventDoes, EventsLead}
use Rattle.dav_users_core.specs.declared.error.UsersError.{UsersError}
use Rattle.dav_login_core.specs.declared.login.Login.{Login}
use Rattle.dav_login_core.specs.CallsBehind.{AreBehind}
use Rattle.dav_login_core.specs.LoggedIn.{Door, HandsOn, ListsUsers, LoginState}
use Rattle.dav_login_core.specs.LoginViews.{login}
use Rattle.dav_login_core.specs.Private.Turns.{LoginAnswers, LoginBegins, turns_behind}
use Rattle.dav_login_core.specs.RunsBehind.{AreRunBehind, RunsBehind}

-- a run behind a login goes on from another state with the same users and the same host
goes_on : {S H : Type 0} (begins : S → ℕ → S → Type 0) (answers : S → Request (List ℕ) → Response → S → Type 0) (clocked : S → ℕ → S → Type 0) (listed : S → List ℕ → S → Type 0)
    (told : H → UsersError → H → Type 0) (old next : LoginState S H) (events : List Event) (new : LoginState S H) (run : RunsBehind begins answers clocked listed told next events new)
    → next.door ≡ old.door → next.host ≡ old.host → AreRunBehind told old.door old.host events run.inner new.door new.host
goes_on {S} {H} begins answers clocked listed told old next events new run same_door same_host =
    subst (λ (d : Door). AreRunBehind told d old.host events run.inner new.door new.host) same_door
    (subst (λ (h : H). AreRunBehind told next.door h events run.inner new.door new.host) same_host run.behind)

module _ {S H : Type 0} (begins : S → ℕ → S → Type 0) (answers : S → Request (List ℕ) → Response → S → Type 0) (clocked : S → ℕ → S → Type 0) (listed : S → List ℕ → S → Type 0) (told : H → UsersError → H → Type 0) where
  abbrev pub LoginClocks : Login S H → ℕ → Login S H → Type 0
  LoginClocks old moment new = HandsOn clocked (login old) moment (login new)

  abbrev pub LoginLists : Login S H → List ℕ → Login S H → Type 0
  LoginLists old file new = ListsUsers listed told (login old) file (login new)

  -- a turn, and the calls of it that were passed on
  turn_front : (number : ℕ) (calls : List Call) (events : List Event) (old next new : Login S H)
      → TakesTurn (LoginBegins begins answers) (LoginAnswers begins answers) old number calls next → RunsBehind begins answers clocked listed told (login next) events (login new) → RunsBehind begins answers clocked listed told (login old) (Answered number calls ∷ events) (login new)
  turn_front number calls events old next new (inl none) run = record {
    inner = Answered number [] ∷ run.inner;
    behind = (
      [],
      run.inner,
      refl,
      subst (λ (cs : List Call). AreBehind (login old).door cs []) (sym none.0) refl,
      goes_on begins answers clocked listed told (login old) (login next) events (login new) run (ap (λ (l : Login S H). (login l).door) none.1) (ap (λ (l : Login S H). (login l).host) none.1),
    );
    leads = ((login next).service, inl (refl, ap (λ (l : Login S H). (login l).service) none.1), run.leads);
  }
  turn_front number calls events old next new (inr begun) run =
      let turn = turns_behind begins answers old next number calls begun in
      record {
        inner = Answered number turn.inner ∷ run.inner;
        behind = (turn.inner, run.inner, refl, turn.behind, goes_on begins answers clocked listed told (login old) (login next) events (login new) run turn.door turn.host);
        leads = ((login next).service, inr turn.told, run.leads);
      }

  clock_front : (moment : ℕ) (events : List Event) (old next new : Login S H) → LoginClocks old moment next → RunsBehind begins answers clocked listed told (login next) events (login new)
      → RunsBehind begins answers clocked listed told (login old) (Clock moment ∷ events) (login new)
  clock_front moment events old next new does run = record {
    inner = Clock moment ∷ run.inner;
    behind = (run.inner, refl, goes_on begins answers clocked listed told (login old) (login next) events (login new) run does.door does.host);
    leads = ((login next).service, does.service, run.leads);
  }

  users_front : (file : List ℕ) (events : List Event) (old next new : Login S H) → LoginLists old file next → RunsBehind begins answers clocked listed told (login next) events (login new)
      → RunsBehind begins answers clocked listed told (login old) (Users file ∷ events) (login new)
  users_front file events old next new does run = record {
    inner = Users file ∷ run.inner;
    behind = (
      (login next).door,
      (login next).host,
      run.inner,
      refl,
      record { users = does.lists.users; challenge = does.lists.challenge; header = does.lists.header; address_field = does.lists.address_field; key = does.lists.key },
      run.behind,
    );
    leads = ((login next).service, does.service, run.leads);
  }

  -- of any other event the login takes no word
  abbrev door_of : Login S H → Door
  door_of l = (login l).door

  abbrev host_of : Login S H → H
  host_of l = (login l).host

  abbrev service_of : Login S H → S
  service_of l = (login l).service

  front : (e : Event) (events : List Event) (old next new : Login S H) → EventDoes (LoginBegins begins answers) (LoginAnswers begins answers) LoginClocks LoginLists e old next
      → RunsBehind begins answers clocked listed told (login next) events (login new) → RunsBehind begins answers clocked listed told (login old) (e ∷ events) (login new)
  front (Answered number calls) events old next new does run = turn_front number calls events old next new does run
  front (Clock moment) events old next new does run = clock_front moment events old next new does run
  front (Users file) events old next new does run = users_front file events old next new does run
  front (Free count) events old next new does run = record {
    inner = Free count ∷ run.inner;
    behind = (run.inner, refl, goes_on begins answers clocked listed told (login old) (login next) events (login new) run (ap door_of does) (ap host_of does));
    leads = (service_of next, ap service_of does, run.leads);
  }
  front (Late number) events old next new does run = record {
    inner = Late number ∷ run.inner;
    behind = (run.inner, refl, goes_on begins answers clocked listed told (login old) (login next) events (login new) run (ap door_of does) (ap host_of does));
    leads = (service_of next, ap service_of does, run.leads);
  }
  front (Turned address count) events old next new does run = record {
    inner = Turned address count ∷ run.inner;
    behind = (run.inner, refl, goes_on begins answers clocked listed told (login old) (login next) events (login new) run (ap door_of does) (ap host_of does));
    leads = (service_of next, ap service_of does, run.leads);
  }
  front (Known number) events old next new does run = record {
    inner = Known number ∷ run.inner;
    behind = (run.inner, refl, goes_on begins answers clocked listed told (login old) (login next) events (login new) run (ap door_of does) (ap host_of does));
    leads = (service_of next, ap service_of does, run.leads);
  }
  front (From number address) events old next new does run = record {
    inner = From number address ∷ run.inner;
    behind = (run.inner, refl, goes_on begins answers clocked listed told (login old) (login next) events (login new) run (ap door_of does) (ap host_of does));
    leads = (service_of next, ap service_of does, run.leads);
  }
  front (Came number bytes) events old next new does run = record {
    inner = Came number bytes ∷ run.inner;
    behind = (run.inner, refl, goes_on begins answers clocked listed told (login old) (login next) events (login new) run (ap door_of does) (ap host_of does));
    leads = (service_of next, ap service_of does, run.leads);
  }
  front (Rejected number bytes) events old next new does run = record {
    inner = Rejected number bytes ∷ run.inner;
    behind = (run.inner, refl, goes_on begins answers clocked listed told (login old) (login next) events (login new) run (ap door_of does) (ap host_of does));
    leads = (service_of next, ap service_of does, run.leads);
  }
  front (Took number count) events old next new does run = record {
    inner = Took number count ∷ run.inner;
    behind = (run.inner, refl, goes_on begins answers clocked listed told (login old) (login next) events (login new) run (ap door_of does) (ap host_of does));
    leads = (service_of next, ap service_of does, run.leads);
  }
  front (Gone number) events old next new does run = record {
    inner = Gone number ∷ run.inner;
    behind = (run.inner, refl, goes_on begins answers clocked listed told (login old) (login next) events (login new) run (ap door_of does) (ap host_of does));
    leads = (service_of next, ap service_of does, run.leads);
  }
  front (Told number bytes) events old next new does run = record {
    inner = Told number bytes ∷ run.inner;
    behind = (run.inner, refl, goes_on begins answers clocked listed told (login old) (login next) events (login new) run (ap door_of does) (ap host_of does));
    leads = (service_of next, ap service_of does, run.leads);
  }
  front (Granted number count) events old next new does run = record {
    inner = Granted number count ∷ run.inner;
    behind = (run.inner, refl, goes_on begins answers clocked listed told (login old) (login next) events (login new) run (ap door_of does) (ap host_of does));
    leads = (service_of next, ap service_of does, run.leads);
  }
  front (Awaited number part count) events old next new does run = record {
    inner = Awaited number part count ∷ run.inner;
    behind = (run.inner, refl, goes_on begins answers clocked listed told (login old) (login next) events (login new) run (ap door_of does) (ap host_of does));
    leads = (service_of next, ap service_of does, run.leads);
  }
  front (Ended number) events old next new does run = record {
    inner = Ended number ∷ run.inner;
    behind = (run.inner, refl, goes_on begins answers clocked listed told (login old) (login next) events (login new) run (ap door_of does) (ap host_of does));
    leads = (service_of next, ap service_of does, run.leads);
  }
  front Asked events old next new does run = record {
    inner = Asked ∷ run.inner;
    behind = (run.inner, refl, goes_on begins answers clocked listed told (login old) (login next) events (login new) run (ap door_of does) (ap host_of does));
    leads = (service_of next, ap service_of does, run.leads);
  }
  front Nothing events old next new does run = record {
    inner = Nothing ∷ run.inner;
    behind = (run.inner, refl, goes_on begins answers clocked listed told (login old) (login next) events (login new) run (ap door_of does) (ap host_of does));
    leads = (service_of next, ap service_of does, run.leads);
  }
  front Touched events old next new does run = record {
    inner = Touched ∷ run.inner;
    behind = (run.inner, refl, goes_on begins answers clocked listed told (login old) (login next) events (login new) run (ap door_of does) (ap host_of does));
    leads = (service_of next, ap service_of does, run.leads);
  }
  front Closed events old next new does run = record {
    inner = Closed ∷ run.inner;
    behind = (run.inner, refl, goes_on begins answers clocked listed told (login old) (login next) events (login new) run (ap door_of does) (ap host_of does));
    leads = (service_of next, ap service_of does, run.leads);
  }

  pub run_behind : (events : List Event) (old new : Login S H) → EventsLead (LoginBegins begins answers) (LoginAnswers begins answers) LoginClocks LoginLists old events new
      → RunsBehind begins answers clocked listed told (login old) events (login new)
  run_behind [] old new leads = record { inner = []; behind = (refl, ap door_of leads, ap host_of leads); leads = ap service_of leads }
  run_behind (e ∷ events) old new leads = front e events old leads.0 new leads.1 (run_behind events leads.0 new leads.2)
