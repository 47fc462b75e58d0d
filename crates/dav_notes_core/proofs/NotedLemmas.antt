-- How notes go on from the stores where they begin.
use Rattle.std.proofs.Common.{◌≡◌, ℕ, ◌+◌, ◌≤◌, length, arith, Bool, true, false, not, ◌&&◌, List, [], ◌∷◌, ◌++◌, ◌⊎◌, inl, inr, length-append, map, Option, Result, Ok, Err, refl, sym, subst, ap, ◌∙◌}
use Rattle.std.specs.Prelude.{OnOk, OnErr}
use Rattle.std.proofs.lemmas.Bool.{and_parts, false≢true}
use Rattle.dav_guarded_core.specs.declared.guarded.requests.Reply as served
use Rattle.dav_guarded_core.specs.declared.guarded.requests.Refusal as served_refusal
use Rattle.dav_guarded_core.specs.Requests.{Answer, Command, Request}
use Rattle.dav_guarded_core.specs.Served.{answer_of, refusal_of, reply_of}
use Rattle.rand_core.specs.Stream.{Stream}
use Rattle.dav_guarded_core.specs.Step.{Step}
use Rattle.dav_guarded_core.specs.Stores.{Stores, state_of}
use Rattle.dav_notes_core.specs.declared.notes.Note.{Note}
use Rattle.dav_notes_core.specs.Changes.{is_look}
use Rattle.dav_notes_core.specs.Noting.{AreChanges, Noted, drawn_for, note_for, note_of}
use Rattle.dav_notes_core.specs.PlayedNotes.{NotePlayed}
use Rattle.dav_notes_core.specs.Stepping.{AnsweredBy, Draws, SameLiveStores}
use Rattle.dav_notes_core.specs.Drawing.{stream_giving}
use Rattle.dav_notes_core.proofs.DrawLemmas.{draws_as}
use Rattle.dav_notes_core.proofs.LeadLemmas.{leads_look, leads_on}
use Rattle.dav_notes_core.proofs.LiveLemmas.{looks_live, refused_live}
use Rattle.dav_notes_core.specs.declared.senders.Sender.{Sender}
use Rattle.dav_notes_core.specs.Seen.{AreCopies, KeptNotes, NotesHold, LeadsFrom}
use Rattle.dav_notes_core.specs.Asking.{Caller, also_naming, asking, sender_of}

-- notes that begin here
pub none_from : (none base : List (Stores × ℕ)) (ns : List Note) (s : Stores) (now : ℕ) → none ≡ [] → base ≡ none ++ (s, now) ∷ [] → ns ≡ [] → LeadsFrom base (map note_of ns) now s
none_from none base ns s now empty is no_notes =
    let le : now ≤ now = omega arith in
    subst (λ (ms : List Note). LeadsFrom base (map note_of ms) now s) (sym no_notes) (record {
      begun = (s, now);
      base_is = is ∙ ap (λ (xs : List (Stores × ℕ)). xs ++ (s, now) ∷ []) empty;
      leads = (le, refl);
    })

-- what changes nothing but that locks have expired
pub look_from : (base : List (Stores × ℕ)) (ns : List Noted) (now later : ℕ) (s s' : Stores) → LeadsFrom base ns now s → now ≤ later → SameLiveStores later s s' → LeadsFrom base ns later s'
look_from base ns now later s s' h le same = record {
  begun = h.begun;
  base_is = h.base_is;
  leads = leads_look h.begun.1 now later h.begun.0 s s' ns h.leads le same;
}

-- one more note
pub on_from : (base : List (Stores × ℕ)) (ns : List Noted) (n : Noted) (now : ℕ) (s s' : Stores) → LeadsFrom base ns now s → now ≤ n.request.now → NotePlayed s n s'
    → LeadsFrom base (ns ++ n ∷ []) n.request.now s'
on_from base ns n now s s' h le one = record {
  begun = h.begun;
  base_is = h.base_is;
  leads = leads_on h.begun.1 now h.begun.0 s s' ns n h.leads le one;
}

-- a request that is no change
pub looked_from : (base : List (Stores × ℕ)) (ns : List Noted) (now : ℕ) (s s' : Stores) (who : Caller) (c : Command) (next : List ℕ) (a : Answer) → LeadsFrom base ns now s → now ≤ who.now
    → is_look c ≡ true → AnsweredBy (drawn_for c next) s (asking who c) a s' → LeadsFrom base ns who.now s'
looked_from base ns now s s' who c next a h le look step = look_from base ns now who.now s s' h le (looks_live (drawn_for c next) s s' (asking who c) a look step)

-- a request that is noted where it is done
pub changed_from : (base : List (Stores × ℕ)) (ns ms : List Note) (now : ℕ) (s s' : Stores) (who : Caller) (c : Command) (next : List ℕ) (result : Result served.Reply served_refusal.Refusal)
    → LeadsFrom base (map note_of ns) now s → now ≤ who.now → AnsweredBy (drawn_for c next) s (asking who c) (answer_of result) s'
    → OnOk result (map note_of ms ≡ map note_of ns ++ note_for who c next ∷ []) → OnErr result (ms ≡ ns) → LeadsFrom base (map note_of ms) who.now s'
changed_from base ns ms now s s' who c next (Ok reply) h le step ok err =
    subst (λ (xs : List Noted). LeadsFrom base xs who.now s') (sym ok) (on_from base (map note_of ns) (note_for who c next) now s s' h le (reply_of reply, step))
changed_from base ns ms now s s' who c next (Err e) h le step ok err =
    subst (λ (xs : List Note). LeadsFrom base (map note_of xs) who.now s') (sym err)
    (look_from base (map note_of ns) now who.now s s' h le (refused_live (drawn_for c next) s s' (asking who c) (refusal_of e) step))

-- a request, with the bytes that are noted of it
pub as_asked : (r q : Request) (a : Answer) (s s' : Stores) (next : List ℕ) → r ≡ q → ((drawn : Option (List ℕ)) → Draws r.command drawn (stream_giving next) → AnsweredBy drawn s r a s')
    → AnsweredBy (drawn_for q.command next) s q a s'
as_asked r q a s s' next same h =
    let asked = subst (λ (p : Request). (drawn : Option (List ℕ)) → Draws p.command drawn (stream_giving next) → AnsweredBy drawn s p a s') same h in
    asked (drawn_for q.command next) (draws_as q.command next)

-- the same of a request that is lent
pub answered_alone : (who : Caller) (c : Command) (r : Request) (a : Answer) (s s' : Stores) (next : List ℕ) (after : Stream) → r ≡ asking who c
    → Step (state_of s (stream_giving next)) r a (state_of s' after) → AnsweredBy (drawn_for c next) s (asking who c) a s'
answered_alone who c r a s s' next after same step = record {
  before = stream_giving next;
  after = after;
  draws = draws_as c next;
  step = subst (λ (q : Request). Step (state_of s (stream_giving next)) q a (state_of s' after)) same step;
}

-- ---- what is true of noted stores

-- copies of who is the same
copies_as : (who after : Sender) (spares : List Sender) → sender_of after ≡ sender_of who → AreCopies who spares → AreCopies after spares
copies_as who after [] same h = tt
copies_as who after (spare ∷ spares) same h = (h.0 ∙ sym same, copies_as who after spares same h.1)

-- where notes begin
kept_none : (keeps : Bool) (none base : List (Stores × ℕ)) (ns : List Note) (now : ℕ) (s : Stores) → none ≡ [] → base ≡ none ++ (s, now) ∷ [] → ns ≡ []
    → KeptNotes keeps base (map note_of ns) now s
kept_none true none base ns now s empty is no_notes = none_from none base ns s now empty is no_notes
kept_none false none base ns now s empty is no_notes = ap (map note_of) no_notes

-- of a later caller
kept_later : (keeps : Bool) (base : List (Stores × ℕ)) (ns : List Noted) (now later : ℕ) (s : Stores) → (keeps ≡ true → now ≤ later) → KeptNotes keeps base ns now s
    → KeptNotes keeps base ns later s
kept_later true base ns now later s le h = look_from base ns now later s s h (le refl) refl
kept_later false base ns now later s le h = h

-- a question is never noted
pub look_alone : (keeps look : Bool) → look ≡ true → (keeps && not look) ≡ false
look_alone true look h = ap not h
look_alone false look h = refl

looked_at : (look : Bool) → not look ≡ false → look ≡ true
looked_at true h = refl
looked_at false h = sym h

-- behind a request that is not noted
kept_alone : (keeps : Bool) (base : List (Stores × ℕ)) (ns : List Noted) (s s' : Stores) (who : Caller) (c : Command) (next : List ℕ) (a : Answer)
    → (keeps && not (is_look c)) ≡ false → AnsweredBy (drawn_for c next) s (asking who c) a s' → KeptNotes keeps base ns who.now s → KeptNotes keeps base ns who.now s'
kept_alone true base ns s s' who c next a alone step h =
    let le : who.now ≤ who.now = omega arith in
    looked_from base ns who.now s s' who c next a h le (looked_at (is_look c) alone) step
kept_alone false base ns s s' who c next a alone step h = h

-- behind one that is noted where it is done
kept_change : (keeps : Bool) (base : List (Stores × ℕ)) (ns ms : List Note) (now : ℕ) (s s' : Stores) (who : Caller) (c : Command) (next : List ℕ)
    (result : Result served.Reply served_refusal.Refusal) → keeps ≡ true → KeptNotes keeps base (map note_of ns) now s → now ≤ who.now
    → AnsweredBy (drawn_for c next) s (asking who c) (answer_of result) s' → OnOk result (map note_of ms ≡ map note_of ns ++ note_for who c next ∷ [])
    → OnErr result (ms ≡ ns) → KeptNotes keeps base (map note_of ms) who.now s'
kept_change true base ns ms now s s' who c next result keeps h le step ok err = changed_from base ns ms now s s' who c next result h le step ok err
kept_change false base ns ms now s s' who c next result keeps h le step ok err = absurd (false≢true keeps)

-- one more of a command that changes something
changes_on : (ns : List Noted) (n : Noted) → AreChanges ns → is_look n.request.command ≡ false → AreChanges (ns ++ n ∷ [])
changes_on [] n h one = (one, tt)
changes_on (m ∷ ns) n h one = (h.0, changes_on ns n h.1 one)

-- behind a request that is noted where it is done
changes_behind : (ns ms : List Note) (who : Caller) (c : Command) (next : List ℕ) (result : Result served.Reply served_refusal.Refusal) → AreChanges (map note_of ns) → is_look c ≡ false
    → OnOk result (map note_of ms ≡ map note_of ns ++ note_for who c next ∷ []) → OnErr result (ms ≡ ns) → AreChanges (map note_of ms)
changes_behind ns ms who c next (Ok reply) h one ok err = subst AreChanges (sym ok) (changes_on (map note_of ns) (note_for who c next) h one)
changes_behind ns ms who c next (Err e) h one ok err = subst (λ (xs : List Note). AreChanges (map note_of xs)) (sym err) h

changed_at : (look : Bool) → not look ≡ true → look ≡ false
changed_at true h = sym h
changed_at false h = refl

-- without notes and room
pub holds_none : (keeps : Bool) (none base : List (Stores × ℕ)) (ns : List Note) (used all : ℕ) (who : Sender) (spares : List Sender) (s : Stores) → none ≡ []
    → base ≡ none ++ (s, who.now.0) ∷ [] → ns ≡ [] → used ≡ 0 → spares ≡ [] → NotesHold keeps base ns used all who spares s
holds_none keeps none base ns used all who spares s empty is no_notes unused no_spares =
    let few : length spares ≡ 0 = ap length no_spares in
    record {
      kept = kept_none keeps none base ns who.now.0 s empty is no_notes;
      changes = subst (λ (xs : List Note). AreChanges (map note_of xs)) (sym no_notes) tt;
      copies = subst (AreCopies who) (sym no_spares) tt;
      room = omega (arith, few, unused);
    }

-- of a later caller
pub holds_later : (keeps : Bool) (base : List (Stores × ℕ)) (ns : List Note) (used all : ℕ) (who after : Sender) (old spares : List Sender) (s : Stores)
    → NotesHold keeps base ns used all who old s → (keeps ≡ true → who.now.0 ≤ after.now.0) → spares ≡ [] → NotesHold keeps base ns used all after spares s
holds_later keeps base ns used all who after old spares s h le none =
    let room : used ≤ all = omega (arith, h.room) in
    subst (λ (xs : List Sender). NotesHold keeps base ns used all after xs s) (sym none) (record {
      kept = kept_later keeps base (map note_of ns) who.now.0 after.now.0 s le h.kept;
      changes = h.changes;
      copies = tt;
      room = omega (arith, room);
    })

-- behind a request that is not noted, of a caller who names one token more
pub holds_named : (keeps : Bool) (base : List (Stores × ℕ)) (ns : List Note) (used all : ℕ) (who after : Sender) (token : List ℕ) (spares : List Sender) (s s' : Stores) (c : Command)
    (next : List ℕ) (a : Answer) → NotesHold keeps base ns used all who spares s → (keeps && not (is_look c)) ≡ false
    → AnsweredBy (drawn_for c next) s (asking (also_naming (sender_of who) token) c) a s' → sender_of after ≡ sender_of who → NotesHold keeps base ns used all after spares s'
holds_named keeps base ns used all who after token spares s s' c next a h alone step same = record {
  kept = subst (λ (w : Caller). KeptNotes keeps base (map note_of ns) w.now s') (sym same)
      (kept_alone keeps base (map note_of ns) s s' (also_naming (sender_of who) token) c next a alone step h.kept);
  changes = h.changes;
  copies = copies_as who after spares same h.copies;
  room = h.room;
}

-- behind a request that is not noted
pub holds_alone : (keeps : Bool) (base : List (Stores × ℕ)) (ns : List Note) (used all : ℕ) (who after : Sender) (spares : List Sender) (s s' : Stores) (c : Command) (next : List ℕ)
    (a : Answer) → NotesHold keeps base ns used all who spares s → (keeps && not (is_look c)) ≡ false → AnsweredBy (drawn_for c next) s (asking (sender_of who) c) a s'
    → sender_of after ≡ sender_of who → NotesHold keeps base ns used all after spares s'
holds_alone keeps base ns used all who after spares s s' c next a h alone step same = record {
  kept = subst (λ (w : Caller). KeptNotes keeps base (map note_of ns) w.now s') (sym same)
      (kept_alone keeps base (map note_of ns) s s' (sender_of who) c next a alone step h.kept);
  changes = h.changes;
  copies = copies_as who after spares same h.copies;
  room = h.room;
}

-- behind what is noted where it is done; the caller goes into the note, and a copy takes the place
pub holds_changed : (keeps : Bool) (base : List (Stores × ℕ)) (ns ns' ms : List Note) (used all : ℕ) (who asker after spare : Sender) (spares : List Sender) (s s' : Stores) (c : Command)
    (next : List ℕ) (result : Result served.Reply served_refusal.Refusal) → (keeps && not (is_look c)) ≡ true → KeptNotes keeps base (map note_of ns) who.now.0 s
    → AreChanges (map note_of ns) → ns' ≡ ns → asker ≡ who
    → after ≡ spare → sender_of spare ≡ sender_of who → AnsweredBy (drawn_for c next) s (asking (sender_of asker) c) (answer_of result) s'
    → OnOk result (map note_of ms ≡ map note_of ns' ++ note_for (sender_of asker) c next ∷ []) → OnErr result (ms ≡ ns') → AreCopies who spares → length spares + used ≤ all
    → NotesHold keeps base ms used all after spares s'
holds_changed keeps base ns ns' ms used all who asker after spare spares s s' c next result is_kept kept changes items asked put copy step ok err copies room =
    let same : sender_of after ≡ sender_of who = ap sender_of put ∙ copy in
    let now : who.now.0 ≤ who.now.0 = omega arith in
    let le : who.now.0 ≤ asker.now.0 = subst (λ (w : Sender). who.now.0 ≤ w.now.0) (sym asked) now in
    record {
      kept = subst (λ (w : Caller). KeptNotes keeps base (map note_of ms) w.now s') (ap sender_of asked ∙ sym same)
          (kept_change keeps base ns' ms who.now.0 s s' (sender_of asker) c next result ((and_parts keeps _ is_kept).0)
          (subst (λ (xs : List Note). KeptNotes keeps base (map note_of xs) who.now.0 s) (sym items) kept) le step ok err);
      changes = changes_behind ns' ms (sender_of asker) c next result (subst (λ (xs : List Note). AreChanges (map note_of xs)) (sym items) changes)
          (changed_at (is_look c) ((and_parts keeps _ is_kept).1)) ok err;
      copies = copies_as who after spares same copies;
      room = room;
    }

-- behind what is noted where it is done, of a caller who names one token more; who asks stays
pub holds_naming : (keeps : Bool) (base : List (Stores × ℕ)) (ns ns' ms : List Note) (used all : ℕ) (who asker : Sender) (token : List ℕ) (spares : List Sender) (s s' : Stores)
    (c : Command) (next : List ℕ) (result : Result served.Reply served_refusal.Refusal) → (keeps && not (is_look c)) ≡ true → KeptNotes keeps base (map note_of ns) who.now.0 s
    → AreChanges (map note_of ns) → ns' ≡ ns → sender_of asker ≡ also_naming (sender_of who) token → AnsweredBy (drawn_for c next) s (asking (sender_of asker) c) (answer_of result) s'
    → OnOk result (map note_of ms ≡ map note_of ns' ++ note_for (sender_of asker) c next ∷ []) → OnErr result (ms ≡ ns') → AreCopies who spares → length spares + used ≤ all
    → NotesHold keeps base ms used all who spares s'
holds_naming keeps base ns ns' ms used all who asker token spares s s' c next result is_kept kept changes items asked step ok err copies room =
    let now : who.now.0 ≤ who.now.0 = omega arith in
    let same : asker.now.0 ≡ who.now.0 = ap (λ (w : Caller). w.now) asked in
    let le : who.now.0 ≤ asker.now.0 = subst (λ n. who.now.0 ≤ n) (sym same) now in
    record {
      kept = subst (λ n. KeptNotes keeps base (map note_of ms) n s') same
          (kept_change keeps base ns' ms who.now.0 s s' (sender_of asker) c next result ((and_parts keeps _ is_kept).0)
          (subst (λ (xs : List Note). KeptNotes keeps base (map note_of xs) who.now.0 s) (sym items) kept) le step ok err);
      changes = changes_behind ns' ms (sender_of asker) c next result (subst (λ (xs : List Note). AreChanges (map note_of xs)) (sym items) changes)
          (changed_at (is_look c) ((and_parts keeps _ is_kept).1)) ok err;
      copies = copies;
      room = room;
    }

-- one more copy
pub copies_more : (who : Sender) (spares : List Sender) (spare : Sender) → AreCopies who spares → sender_of spare ≡ sender_of who → AreCopies who (spares ++ spare ∷ [])
copies_more who [] spare h same = (same, tt)
copies_more who (x ∷ spares) spare h same = (h.0, copies_more who spares spare h.1 same)

pub grown : (spares : List Sender) (spare : Sender) (n : ℕ) → length spares ≡ n → length (spares ++ spare ∷ []) ≡ n + 1
grown spares spare n same = omega (arith, length-append spares (spare ∷ []), same)

pub no_more : (len counter old count : ℕ) → len ≡ counter → (counter ≡ old) ⊎ (counter ≤ count) → (len ≡ old) ⊎ (len ≤ count)
no_more len counter old count same (inl is) = inl (same ∙ is)
no_more len counter old count same (inr le) = inr (rw same le)
