-- What a contract sees of noted stores, and what is true of each of them.
use Rattle.std.specs.Prelude.{◌≡◌, ◌≤◌, ◌<◌, ◌+◌, ◌-◌, ◌^◌, ℕ, List, Option, Bool, true, false, [], ◌∷◌, length, map, not, ◌&&◌, is_ok, if◌then◌else◌, refl}
use Rattle.std.specs.Coded.{Coded, code_by, coded×, coded_bool, coded_list, coded_option, coded_ℕ}
use Rattle.std.specs.List.{AllByRecursion}
use Rattle.dav_guarded_core.specs.Stores.{Stores, coded_stores}
use Rattle.dav_notes_core.specs.declared.notes.Note.{Note}
use Rattle.dav_notes_core.specs.declared.senders.Sender.{Sender}
use Rattle.dav_guarded_core.specs.Requests.{Answer, Command}
use Rattle.dav_notes_core.specs.Asking.{Caller, sender_of}
use Rattle.dav_notes_core.specs.Changes.{is_look}
use Rattle.dav_notes_core.specs.Costs.{cost_for, notes_cost}
use Rattle.dav_notes_core.specs.Noting.{AreChanges, Noted, note_of}
use Rattle.dav_notes_core.specs.PlayedNotes.{NotesLead}

-- the stores, the bytes of the next token, who asks, whether notes are kept, for how many more of the
-- caller's there is room, and how many bytes are set aside for them; how many bytes the notes may have
-- in a record, and how many of them are left; and the stores and the moment where they begin
pub record Seen : Type 0 where
  pub stores : Stores
  pub next : List ℕ
  pub who : Caller
  pub keeps : Bool
  pub room : ℕ
  pub held : ℕ
  pub given : ℕ
  pub left : ℕ
  pub base : List (Stores × ℕ)

abbrev pub coded_caller : Coded Caller
coded_caller = code_by (Option (List ℕ) × (List (List ℕ) × ℕ)) (coded× (coded_option (coded_list coded_ℕ)) (coded× (coded_list (coded_list coded_ℕ)) coded_ℕ))
    (λ w. (w.principal, (w.tokens, w.now))) (λ t. record { principal = t.0; tokens = t.1.0; now = t.1.1 }) (λ _. refl)

abbrev pub coded_seen : Coded Seen
coded_seen = code_by ((Stores × List ℕ) × ((Caller × (Bool × ℕ)) × ((ℕ × (ℕ × ℕ)) × List (Stores × ℕ))))
    (coded× (coded× coded_stores (coded_list coded_ℕ)) (coded× (coded× coded_caller (coded× coded_bool coded_ℕ)) (coded× (coded× coded_ℕ (coded× coded_ℕ coded_ℕ)) (coded_list (coded× coded_stores coded_ℕ)))))
    (λ s. ((s.stores, s.next), ((s.who, (s.keeps, s.room)), ((s.held, (s.given, s.left)), s.base))))
    (λ t. record { stores = t.0.0; next = t.0.1; who = t.1.0.0; keeps = t.1.0.1.0; room = t.1.0.1.1; held = t.1.1.0.0; given = t.1.1.0.1.0; left = t.1.1.0.1.1; base = t.1.1.1 }) (λ _. refl)

-- so many changes of the caller's, whose notes cost so many bytes together, lack no room for them; who keeps none needs none
abbrev pub HasNoteRoom : ℕ → ℕ → Seen → Type 0
HasNoteRoom count bytes s = s.keeps ≡ true → (count ≤ s.room) × (bytes ≤ s.held)

-- what is noted of a command that was answered so costs so much
abbrev pub spent_on : Bool → Caller → Command → Answer → ℕ
spent_on keeps who command answer = if (keeps && not (is_look command)) && is_ok answer then cost_for who command else 0

-- the notes lead from the base to these stores
pub record LeadsFrom (base : List (Stores × ℕ)) (notes : List Noted) (now : ℕ) (stores : Stores) : Type 0 where
  pub begun : Stores × ℕ
  pub base_is : base ≡ begun ∷ []
  pub leads : NotesLead begun.1 begun.0 notes now stores

-- where notes are kept, they lead from the base to these stores; else there are none
abbrev pub KeptNotes : Bool → List (Stores × ℕ) → List Noted → ℕ → Stores → Type 0
KeptNotes true base notes now stores = LeadsFrom base notes now stores
KeptNotes false base notes now stores = notes ≡ []

-- each is the caller once more
abbrev pub AreCopies : Sender → List Sender → Type 0
AreCopies who spares = AllByRecursion (λ spare. sender_of spare ≡ sender_of who) spares

-- the notes are kept or there are none, each is of a change, and there is room for a note of each spare caller
pub record NotesHold (keeps : Bool) (base : List (Stores × ℕ)) (notes : List Note) (used all : ℕ) (who : Sender) (spares : List Sender) (stores : Stores) : Type 0 where
  pub kept : KeptNotes keeps base (map note_of notes) who.now.0 stores
  pub changes : AreChanges (map note_of notes)
  pub copies : AreCopies who spares
  pub room : length spares + used ≤ all

-- what the notes cost and what is left come to what was given, at most; what is set aside is left
pub record StaysWithin (notes : List Note) (aside rest all : ℕ) : Type 0 where
  pub cost : notes_cost (map note_of notes) + rest ≤ all
  pub held : aside ≤ rest
  pub most : all < 2 ^ 64 - 1
