-- How notes go on, and what they lead to when they are played.
use Rattle.std.proofs.Common.{◌≡◌, ℕ, ◌≤◌, arith, List, [], ◌∷◌, ◌++◌, Ok, refl, sym, subst, ap, ◌∙◌}
use Rattle.dav_guarded_core.specs.Stores.{Stores}
use Rattle.dav_notes_core.specs.Noting.{Noted}
use Rattle.dav_notes_core.specs.PlayedNotes.{NotesLead, NotesPlayed, NotePlayed, StopsAt}
use Rattle.dav_notes_core.specs.Stepping.{SameLiveStores, live_stores}
use Rattle.dav_notes_core.proofs.AlikeLemmas.{steps_alike}
use Rattle.dav_notes_core.proofs.LiveLemmas.{same_later, step_from}

pub one_from : (s t s' : Stores) (n : Noted) → SameLiveStores n.request.now s t → NotePlayed t n s' → NotePlayed s n s'
one_from s t s' n same h = (h.0, step_from n.drawn s t s' n.request (Ok h.0) same h.1)

pub ones_alike : (s t s' t' : Stores) (n : Noted) → SameLiveStores n.request.now s t → NotePlayed s n s' → NotePlayed t n t' → s' ≡ t'
ones_alike s t s' t' n same h k = steps_alike n.drawn s t s' t' n.request h.0 k.0 same h.1 k.1

-- ---- how notes go on

pub leads_on : (from now : ℕ) (s t t' : Stores) (ns : List Noted) (n : Noted) → NotesLead from s ns now t → now ≤ n.request.now → NotePlayed t n t'
    → NotesLead from s (ns ++ n ∷ []) n.request.now t'
leads_on from now s t t' [] n h le one =
    let before : from ≤ n.request.now = omega (arith, h.0) in
    let after : n.request.now ≤ n.request.now = omega arith in
    (before, (t', one_from s t t' n (same_later now n.request.now s t le h.1) one, (after, refl)))
leads_on from now s t t' (m ∷ ns) n h le one = (h.0, (h.1.0, h.1.1, leads_on m.request.now now h.1.0 t t' ns n h.1.2 le one))

pub leads_look : (from now later : ℕ) (s t t' : Stores) (ns : List Noted) → NotesLead from s ns now t → now ≤ later → SameLiveStores later t t' → NotesLead from s ns later t'
leads_look from now later s t t' [] h le same =
    let before : from ≤ later = omega (arith, h.0) in
    (before, same ∙ same_later now later s t le h.1)
leads_look from now later s t t' (m ∷ ns) h le same = (h.0, (h.1.0, h.1.1, leads_look m.request.now now later h.1.0 t t' ns h.1.2 le same))

-- ---- how notes follow one another

leads_from : (from now : ℕ) (s t u : Stores) (ns : List Noted) → SameLiveStores from s u → NotesLead from u ns now t → NotesLead from s ns now t
leads_from from now s t u [] same h = (h.0, h.1 ∙ same_later from now s u h.0 same)
leads_from from now s t u (m ∷ ns) same h = (h.0, (h.1.0, one_from s u h.1.0 m (same_later from m.request.now s u h.0 same) h.1.1, h.1.2))

leads_earlier : (from mid now : ℕ) (s t : Stores) (ns : List Noted) → from ≤ mid → NotesLead mid s ns now t → NotesLead from s ns now t
leads_earlier from mid now s t [] le h = let before : from ≤ now = omega (arith, h.0) in (before, h.1)
leads_earlier from mid now s t (m ∷ ns) le h = let before : from ≤ m.request.now = omega (arith, h.0) in (before, h.1)

pub leads_join : (from mid now : ℕ) (s t u : Stores) (ns ms : List Noted) → NotesLead from s ns mid t → NotesLead mid t ms now u → NotesLead from s (ns ++ ms) now u
leads_join from mid now s t u [] ms h k = leads_earlier from mid now s u ms h.0 (leads_from mid now s u t ms h.1 k)
leads_join from mid now s t u (n ∷ ns) ms h k = (h.0, (h.1.0, h.1.1, leads_join n.request.now mid now h.1.0 t u ns ms h.1.2 k))

-- ---- what they lead to

pub leads_played : (from now : ℕ) (s t u v : Stores) (ns : List Noted) → SameLiveStores from s u → NotesLead from s ns now t → NotesPlayed u ns v → SameLiveStores now t v
leads_played from now s t u v [] same h k =
    subst (λ (w : Stores). SameLiveStores now t w) (sym k) (same_later from now s u h.0 same ∙ sym h.1)
leads_played from now s t u v (n ∷ ns) same h k =
    let mids : h.1.0 ≡ k.0 = ones_alike s u h.1.0 k.0 n (same_later from n.request.now s u h.0 same) h.1.1 k.1 in
    leads_played n.request.now now h.1.0 t k.0 v ns (ap (live_stores n.request.now) (sym mids)) h.1.2 k.2

pub leads_playable : (from now : ℕ) (s t u : Stores) (ns : List Noted) → SameLiveStores from s u → NotesLead from s ns now t → (v : Stores) × NotesPlayed u ns v × SameLiveStores now t v
leads_playable from now s t u [] same h = (u, refl, same_later from now s u h.0 same ∙ sym h.1)
leads_playable from now s t u (n ∷ ns) same h =
    let rest = leads_playable n.request.now now h.1.0 t h.1.0 ns refl h.1.2 in
    (rest.0, (h.1.0, one_from u s h.1.0 n (sym (same_later from n.request.now s u h.0 same)) h.1.1, rest.1), rest.2)

-- ---- notes that are played end in one way

pub played_alike : (s a b : Stores) (ns : List Noted) → NotesPlayed s ns a → NotesPlayed s ns b → a ≡ b
played_alike s a b [] h k = h ∙ sym k
played_alike s a b (n ∷ ns) h k =
    let mids : h.0 ≡ k.0 = ones_alike s s h.0 k.0 n refl h.1 k.1 in
    played_alike k.0 a b ns (subst (λ (m : Stores). NotesPlayed m ns a) mids h.2) k.2

-- the notes in front lead to where one cannot be played
stops_at : (s mid s' : Stores) (front : List Noted) (n : Noted) (rest : List Noted) → NotesPlayed s front mid → ((t : Stores) → ¬ NotePlayed mid n t)
    → NotesPlayed s (front ++ n ∷ rest) s' → ⊥
stops_at s mid s' [] n rest h none k = none k.0 (subst (λ (m : Stores). NotePlayed m n k.0) (sym h) k.1)
stops_at s mid s' (m ∷ front) n rest h none k =
    let mids : h.0 ≡ k.0 = ones_alike s s h.0 k.0 m refl h.1 k.1 in
    stops_at k.0 mid s' front n rest (subst (λ (w : Stores). NotesPlayed w front mid) mids h.2) none k.2

pub damaged_stops : (s s' t : Stores) (ns : List Noted) (number : ℕ) → StopsAt s ns number s' → NotesPlayed s ns t → ⊥
damaged_stops s s' t ns number h played =
    stops_at s h.mid t h.reached.front h.note h.reached.rest h.reached.played h.damaged.0 (subst (λ (ms : List Noted). NotesPlayed s ms t) h.reached.parts played)

-- one more
pub played_on : (s mid s' : Stores) (ns : List Noted) (n : Noted) → NotesPlayed s ns mid → NotePlayed mid n s' → NotesPlayed s (ns ++ n ∷ []) s'
played_on s mid s' [] n h one = (s', subst (λ (m : Stores). NotePlayed m n s') h one, refl)
played_on s mid s' (m ∷ ns) n h one = (h.0, h.1, played_on h.0 mid s' ns n h.2 one)
