-- How records stand for a server behind each step.
use Rattle.std.proofs.Common.{◌≡◌, ◌≤◌, ℕ, Option, List, [], ◌∷◌, ◌++◌, length, true, Bool, sym, ◌∙◌, ap, append_assoc, append-nil, subst, arith, Result, Ok, Err, OnOk}
use Rattle.std.proofs.lemmas.Grind.{flat_map-append}
use Rattle.std.specs.List.{flat_map}
use Rattle.http.specs.declared.request.Request.{Request}
use Rattle.http_server.specs.declared.response.Response.{Response}
use Rattle.http_server.specs.Exchange.{Call, Chain}
use Rattle.http_frames.specs.Gate.{IsTold}
use Rattle.dav_guarded_core.specs.Stores.{Stores}
use Rattle.dav_notes_core.specs.Costs.{notes_cost}
use Rattle.dav_notes_core.specs.Noting.{AreChanges, Noted}
use Rattle.dav_notes_core.specs.PlayedNotes.{NotesLead}
use Rattle.dav_notes_core.specs.Seen.{KeptNotes}
use Rattle.dav_notes_core.specs.Stepping.{SameLiveStores}
use Rattle.dav_notes_core.proofs.LeadLemmas.{leads_join}
use Rattle.dav_effects_core.specs.Records.{IsRecord}
use Rattle.dav_store_core.specs.StandingFor.{AreRecords, StandFor}
use Rattle.dav_store_core.proofs.KeepLemmas.{records_more, stand_back, stand_one}
use Rattle.dav_handler_core.specs.Server.{Server}
use Rattle.dav_session_core.specs.Sessions.{Noting}
use Rattle.dav_kept_core.specs.KeptServers.{BeginsKept, IsFresh, KeptServer, RepliesKept, StandsForServer, TakesNotes, stores_in, with_room}
use Rattle.dav_kept_core.specs.Private.StandLaws.{same_but_clock, stands_alike, stands_roomed}

-- notes that are kept lead from where they begin
led_from : (noting : Noting) (begun : Stores) (last : ℕ) (notes : List Noted) (now : ℕ) (stores : Stores) → noting.keeps ≡ true → noting.base ≡ (begun, last) ∷ [] → KeptNotes noting.keeps noting.base notes now stores
    → NotesLead last begun notes now stores
led_from noting begun last notes now stores keeps is k =
    let x = subst (λ (l : List (Stores × ℕ)). KeptNotes true l notes now stores) is (subst (λ (b : Bool). KeptNotes b noting.base notes now stores) keeps k) in
    let same : x.begun ≡ (begun, last) = ap (λ (l : List (Stores × ℕ)). head_or (begun, last) l) (sym x.base_is) in
    subst (λ (b : Stores × ℕ). NotesLead b.1 b.0 notes now stores) same x.leads
  where
    head_or : Stores × ℕ → List (Stores × ℕ) → Stores × ℕ
    head_or d [] = d
    head_or d (b ∷ l) = b

pub on_ok_map : {A E P Q : Type 0} (r : Result A E) → (P → Q) → OnOk r P → OnOk r Q
on_ok_map (Ok a) f p = f p
on_ok_map (Err e) f p = tt

-- the notes are begun anew, as the code says it: by the stores and the moment afterwards
abbrev pub begun_from : Server → Server → ℕ → Server
begun_from old new given = record old { noting = record { keeps = old.noting.keeps; base = (stores_in new, new.last) ∷ []; given = given } }

pub begun_anew : (old new : Server) (given : ℕ) → new ≡ begun_from old new given → new ≡ with_room given old
begun_anew old new given is =
    let last : new.last ≡ old.last = ap (λ (v : Server). v.last) is in
    let stores : stores_in new ≡ stores_in old = ap stores_in is in
    is ∙ ap (λ (s : Stores). record old { noting = record { keeps = old.noting.keeps; base = (s, new.last) ∷ []; given = given } }) stores
    ∙ ap (λ (n : ℕ). record old { noting = record { keeps = old.noting.keeps; base = (stores_in old, n) ∷ []; given = given } }) last

-- notes that were taken behind an answer
pub takes_notes : (old new : Server) (notes : List Noted) → KeptNotes old.noting.keeps old.noting.base notes new.last (stores_in new) → AreChanges notes → notes_cost notes ≤ old.noting.given
    → new ≡ begun_from old new old.noting.given → TakesNotes old notes new
takes_notes old new notes k changes cost is =
    let last : new.last ≡ old.last = ap (λ (v : Server). v.last) is in
    let stores : stores_in new ≡ stores_in old = ap stores_in is in
    record {
      kept = subst (λ (n : ℕ). KeptNotes old.noting.keeps old.noting.base notes n (stores_in old)) last (subst (λ (s : Stores). KeptNotes old.noting.keeps old.noting.base notes new.last s) stores k);
      changes = changes;
      cost = cost;
      server = begun_anew old new old.noting.given is;
    }

module _ {C : Type 0} where
  -- a turn begins
  begun_stands : (tells : C → Option ℕ → C → Type 0) (records : List (List ℕ)) (s s' : KeptServer C) (number : ℕ) → StandsForServer records s → BeginsKept tells s number s' → StandsForServer records s'
  begun_stands tells records s s' number h x =
      let roomed = record s { timing = record { server = with_room x.given s.timing.server; clock = s.timing.clock } } in
      stands_alike records roomed s' (same_but_clock x.begins.0 roomed.timing.server s'.timing.server x.begins.2) x.header (stands_roomed x.given records s h)

  -- ---- a call

  -- the notes of the last call behind those before it
  pub record Leads (records : List (List ℕ)) (s : KeptServer C) : Type 0 where
    pub old : List (List ℕ)
    pub start : Stores
    pub from : ℕ
    pub stand : StandFor s.header old start from
    pub calls : List (List Noted)
    pub made : List (List ℕ)
    pub are : AreRecords calls made
    pub all : records ≡ old ++ made
    pub leads : NotesLead from start (flat_map (λ notes. notes) calls ++ s.notes) s.timing.server.last (stores_in s.timing.server)
    pub fresh : IsFresh s.timing.server

  -- no call was made, and so no note
  led_still : (records : List (List ℕ)) (s : KeptServer C) → s.notes ≡ [] → StandsForServer records s → Leads records s
  led_still records s none h = record {
    old = h.old;
    start = h.start;
    from = h.from;
    stand = h.stand;
    calls = h.calls;
    made = h.made;
    are = h.are;
    all = h.all;
    leads = rw (none, append-nil (flat_map (λ (notes : List Noted). notes) h.calls)) h.leads;
    fresh = h.fresh;
  }

  led_call : (records : List (List ℕ)) (s s' : KeptServer C) (request : Request (List ℕ)) (response : Response) → StandsForServer records s → RepliesKept s request response s' → Leads records s'
  led_call records s s' request response h x =
      let mid = x.answered.server in
      let keeps : mid.noting.keeps ≡ true = ap (λ (n : Noting). n.keeps) x.replies.1.moves.noting ∙ h.fresh.0 in
      let base : mid.noting.base ≡ (stores_in s.timing.server, s.timing.server.last) ∷ [] = ap (λ (n : Noting). n.base) x.replies.1.moves.noting ∙ h.fresh.1 in
      let more = led_from mid.noting (stores_in s.timing.server) s.timing.server.last s'.notes mid.last (stores_in mid) keeps base x.takes.kept in
      let state_is : s'.timing.server.state ≡ mid.state = ap (λ (v : Server). v.state) x.takes.server in
      let last_is : s'.timing.server.last ≡ mid.last = ap (λ (v : Server). v.last) x.takes.server in
      let noting_is : s'.timing.server.noting ≡ (with_room mid.noting.given mid).noting = ap (λ (v : Server). v.noting) x.takes.server in
      record {
        old = h.old;
        start = h.start;
        from = h.from;
        stand = rw x.header h.stand;
        calls = h.calls;
        made = h.made;
        are = h.are;
        all = h.all;
        leads = rw (state_is, last_is) (leads_join h.from s.timing.server.last mid.last h.start (stores_in s.timing.server) (stores_in mid) (flat_map (λ (notes : List Noted). notes) h.calls) s'.notes h.leads more);
        fresh = (ap (λ (n : Noting). n.keeps) noting_is ∙ keeps, rw (state_is, last_is) (ap (λ (n : Noting). n.base) noting_is));
      }

  -- whatever the service is of which that is seen
  module _ {S : Type 0} (see : S → KeptServer C) where
    led_chain : (records : List (List ℕ)) (s s' : S) (calls : List Call) → length calls ≤ 1 → (see s).notes ≡ [] → StandsForServer records (see s)
        → Chain (λ old request response new. RepliesKept (see old) request response (see new)) s calls s' → Leads records (see s')
    led_chain records s s' [] short none h x = subst (λ (t : S). Leads records (see t)) (sym x) (led_still records (see s) none h)
    led_chain records s s' (c ∷ []) short none h x = subst (λ (t : S). Leads records (see t)) (sym x.2) (led_call records (see s) (see x.0) c.0 c.1 h x.1)
    led_chain records s s' (c ∷ (d ∷ calls)) short none h x = absurd (omega (arith, short))

    -- a turn was given
    pub led_turn : (tells : C → Option ℕ → C → Type 0) (records : List (List ℕ)) (s s' : S) (number : ℕ) (calls : List Call) → StandsForServer records (see s)
        → IsTold (λ old number new. BeginsKept tells (see old) number (see new)) (λ old request response new. RepliesKept (see old) request response (see new)) s number calls s' → Leads records (see s')
    led_turn tells records s s' number calls h x = led_chain records x.0 s' calls x.2.one x.1.notes (begun_stands tells records (see s) (see x.0) number h x.1) x.2.chain

  -- ---- the record of the turn

  -- nothing was changed
  pub stands_still : (records : List (List ℕ)) (s : KeptServer C) → s.notes ≡ [] → Leads records s → StandsForServer records s
  stands_still records s none h = record {
    old = h.old;
    start = h.start;
    from = h.from;
    stand = h.stand;
    calls = h.calls;
    made = h.made;
    are = h.are;
    all = h.all;
    leads = subst (λ (ns : List Noted). NotesLead h.from h.start ns s.timing.server.last (stores_in s.timing.server))
        (ap (λ (ns : List Noted). flat_map (λ (notes : List Noted). notes) h.calls ++ ns) none ∙ append-nil (flat_map (λ (notes : List Noted). notes) h.calls)) h.leads;
    fresh = h.fresh;
  }

  -- one record more
  pub stands_more : (records : List (List ℕ)) (s : KeptServer C) (bytes : List ℕ) → IsRecord s.notes bytes → Leads records s → StandsForServer (records ++ bytes ∷ []) s
  stands_more records s bytes w h = record {
    old = h.old;
    start = h.start;
    from = h.from;
    stand = h.stand;
    calls = h.calls ++ s.notes ∷ [];
    made = h.made ++ bytes ∷ [];
    are = records_more h.calls h.made s.notes bytes h.are w;
    all = ap (λ (l : List (List ℕ)). l ++ bytes ∷ []) h.all ∙ append_assoc h.old h.made (bytes ∷ []);
    leads = subst (λ (ns : List Noted). NotesLead h.from h.start ns s.timing.server.last (stores_in s.timing.server))
        (ap (λ (ns : List Noted). flat_map (λ (notes : List Noted). notes) h.calls ++ ns) (sym (append-nil s.notes)) ∙ sym (flat_map-append (λ (notes : List Noted). notes) h.calls (s.notes ∷ []))) h.leads;
    fresh = h.fresh;
  }

  -- ---- what opens again

  pub opens_again : (records : List (List ℕ)) (s : KeptServer C) → StandsForServer records s
      → (t : Stores) × (last : ℕ) × StandFor s.header records t last × SameLiveStores s.timing.server.last (stores_in s.timing.server) t × (last ≤ s.timing.server.last)
  opens_again records s h =
      let v = stand_back s.header h.old h.start (stores_in s.timing.server) h.from s.timing.server.last h.calls h.made h.stand h.are h.leads in (
        v.0,
        v.1,
        rw h.all v.2,
        v.3,
        v.4,
      )

  pub opens_one : (records : List (List ℕ)) (s : KeptServer C) (t : Stores) (last : ℕ) → StandsForServer records s → StandFor s.header records t last
      → SameLiveStores s.timing.server.last (stores_in s.timing.server) t × (last ≤ s.timing.server.last)
  opens_one records s t last h x =
      let v = opens_again records s h in
      let one = stand_one s.header.generation s.header.began v.0 t v.1 last records v.2 x in (
        subst (λ (u : Stores). SameLiveStores s.timing.server.last (stores_in s.timing.server) u) one.0 v.3,
        subst (λ (m : ℕ). m ≤ s.timing.server.last) one.1 v.4,
      )
