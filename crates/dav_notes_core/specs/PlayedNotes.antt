-- Notes that are played, and what they lead to.
use Rattle.std.specs.Prelude.{◌≡◌, ◌≤◌, ℕ, List, [], ◌∷◌, ◌++◌, length, true, Ok, Err}
use Rattle.dav_guarded_core.specs.Requests.{Reply, Refusal}
use Rattle.dav_guarded_core.specs.Stores.{Stores}
use Rattle.dav_notes_core.specs.Changes.{lacks_memory}
use Rattle.dav_notes_core.specs.Noting.{Noted}
use Rattle.dav_notes_core.specs.Stepping.{AnsweredBy, SameLiveStores}
use Rattle.dav_notes_core.specs.declared.playing.PlayError.{PlayError}
use Rattle.dav_notes_core.specs.declared.playing.PlayError.TheVariants.{OutOfMemory, Damaged}

-- the note's request is answered Ok
abbrev pub NotePlayed : Stores → Noted → Stores → Type 0
NotePlayed s n s' = (reply : Reply) × AnsweredBy n.drawn s n.request (Ok reply) s'

-- each is answered Ok, in order
abbrev pub NotesPlayed : Stores → List Noted → Stores → Type 0
NotesPlayed s [] s' = s' ≡ s
NotesPlayed s (n ∷ ns) s' = (mid : Stores) × NotePlayed s n mid × NotesPlayed mid ns s'

-- the notes in front of one are answered Ok
pub record Reaches (s : Stores) (ns : List Noted) (number : ℕ) (note : Noted) (mid : Stores) : Type 0 where
  pub front : List Noted
  pub rest : List Noted
  pub parts : ns ≡ front ++ note ∷ rest
  pub place : length front ≡ number
  pub played : NotesPlayed s front mid

-- it is refused for want of memory
abbrev pub IsShort : Stores → Noted → Stores → Type 0
IsShort s n s' = (e : Refusal) × (lacks_memory e ≡ true) × AnsweredBy n.drawn s n.request (Err e) s'

-- it cannot be answered Ok, and what was tried changed nothing but that locks have expired
abbrev pub IsDamaged : Stores → Noted → Stores → Type 0
IsDamaged s n s' = ((t : Stores) → ¬ NotePlayed s n t) × SameLiveStores n.request.now s s'

-- the notes before that one are answered Ok, and it is damaged
pub record StopsAt (s : Stores) (ns : List Noted) (number : ℕ) (s' : Stores) : Type 0 where
  pub note : Noted
  pub mid : Stores
  pub reached : Reaches s ns number note mid
  pub damaged : IsDamaged mid note s'

-- the notes before some one are answered Ok, and there is no memory for it
pub record ShortAt (s : Stores) (ns : List Noted) (s' : Stores) : Type 0 where
  pub number : ℕ
  pub note : Noted
  pub mid : Stores
  pub reached : Reaches s ns number note mid
  pub short : IsShort mid note s'

-- what an error says
abbrev pub StopsBy : Stores → List Noted → Stores → PlayError → Type 0
StopsBy s ns s' OutOfMemory = ShortAt s ns s'
StopsBy s ns s' (Damaged number) = StopsAt s ns number s'

-- The notes lead from stores at a moment to stores at a later one, but for locks that have expired then. Their moments lie between, and none goes back.
abbrev pub NotesLead : ℕ → Stores → List Noted → ℕ → Stores → Type 0
NotesLead from s [] now s' = (from ≤ now) × SameLiveStores now s s'
NotesLead from s (n ∷ ns) now s' = (from ≤ n.request.now) × ((mid : Stores) × NotePlayed s n mid × NotesLead n.request.now mid ns now s')
