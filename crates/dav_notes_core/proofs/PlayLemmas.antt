-- What the loop over notes has played.
use Rattle.std.proofs.Common.{◌≡◌, ℕ, suc, ◌+◌, ◌<◌, ◌≤◌, arith, Bool, true, false, List, [], ◌∷◌, ◌++◌, length, get_or, take, drop, map, Result, Ok, Err, refl, sym, subst, ap, ◌∙◌}
use Rattle.std.specs.Prelude.{MatchResult, IfErr, OnOk}
use Rattle.std.proofs.lemmas.List.{take_more, map_push, map-append, length-map, length-take-le, take-append-drop}
use Rattle.std.proofs.Math.Seq.{drop-cons}
use Rattle.dav_guarded_core.specs.Requests.{Refusal}
use Rattle.dav_guarded_core.specs.Stores.{Stores}
use Rattle.dav_notes_core.specs.declared.notes.Note.{Note}
use Rattle.dav_notes_core.specs.declared.playing.PlayError.{PlayError}
use Rattle.dav_notes_core.specs.declared.playing.PlayError.TheVariants.{OutOfMemory, Damaged}
use Rattle.dav_notes_core.specs.Changes.{lacks_memory}
use Rattle.dav_notes_core.specs.Noting.{Noted, note_of}
use Rattle.dav_notes_core.specs.PlayedNotes.{NotesLead, NotesPlayed, NotePlayed, Reaches, StopsBy}
use Rattle.dav_notes_core.specs.Private.Setbacks.{HoldsUp, setback_by}
use Rattle.dav_notes_core.specs.Stepping.{AnsweredBy, SameLiveStores}
use Rattle.dav_notes_core.proofs.AlikeLemmas.{done_or_refused}
use Rattle.dav_notes_core.proofs.LeadLemmas.{damaged_stops, leads_playable, played_alike, played_on}
use Rattle.dav_notes_core.proofs.LiveLemmas.{refused_live}

-- one more note of a list
pub played_more : (s mid s' : Stores) (notes : List Note) (i : ℕ) (n : Note) → i < length notes → n ≡ get_or notes i n
    → NotesPlayed s (map note_of (take i notes)) mid → NotePlayed mid (note_of n) s' → NotesPlayed s (map note_of (take (i + 1) notes)) s'
played_more s mid s' notes i n lt item h one =
    let longer : map note_of (take (i + 1) notes) ≡ map note_of (take i notes) ++ note_of n ∷ [] =
    ap (map note_of) (take_more notes i n lt) ∙ map_push note_of (take i notes) (get_or notes i n) ∙ ap (λ (q : Note). map note_of (take i notes) ++ note_of q ∷ []) (sym item) in
    subst (λ (ns : List Noted). NotesPlayed s ns s') (sym longer) (played_on s mid s' (map note_of (take i notes)) (note_of n) h one)

-- the list in front of a note, the note, and the rest
in_parts : (notes : List Note) (i : ℕ) (n : Note) → i < length notes → n ≡ get_or notes i n
    → map note_of notes ≡ map note_of (take i notes) ++ note_of n ∷ map note_of (drop (suc i) notes)
in_parts notes i n lt item =
    ap (map note_of) (sym (take-append-drop i notes) ∙ ap (λ (rest : List Note). take i notes ++ rest) (drop-cons notes i n lt ∙ ap (λ (q : Note). q ∷ drop (suc i) notes) (sym item)))
    ∙ map-append note_of (take i notes) (n ∷ drop (suc i) notes)

pub reached_here : (s mid : Stores) (notes : List Note) (i : ℕ) (n : Note) → i < length notes → n ≡ get_or notes i n → NotesPlayed s (map note_of (take i notes)) mid
    → Reaches s (map note_of notes) i (note_of n) mid
reached_here s mid notes i n lt item h =
    let le : i ≤ length notes = omega arith in
    record {
      front = map note_of (take i notes);
      rest = map note_of (drop (suc i) notes);
      parts = in_parts notes i n lt item;
      place = length-map (take i notes) note_of ∙ length-take-le i notes le;
      played = h;
    }

-- what holds up one note, by whether it is refused for want of memory
pub held_up : (s s' : Stores) (n : Noted) (e : Refusal) → AnsweredBy n.drawn s n.request (Err e) s' → HoldsUp s n s' (setback_by (lacks_memory e))
held_up s s' n e h = by (lacks_memory e) refl
  where
    by : (b : Bool) → lacks_memory e ≡ b → HoldsUp s n s' (setback_by b)
    by true is = (e, is, h)
    by false is = ((λ t one. done_or_refused n.drawn n.drawn s t s' n.request one.0 e one.1 h is), refused_live n.drawn s s' n.request e h)

-- where all can be played, they are, or there is no memory
pub surely : (s s' t : Stores) (ns : List Noted) (result : Result (Unit {0}) PlayError) → OnOk result (NotesPlayed s ns t) → IfErr result (StopsBy s ns t) → NotesPlayed s ns s'
    → MatchResult result (λ _. t ≡ s') (λ e. e ≡ OutOfMemory)
surely s s' t ns (Ok x) ok err h = played_alike s t s' ns ok h
surely s s' t ns (Err OutOfMemory) ok err h = refl
surely s s' t ns (Err (Damaged k)) ok err h = absurd (damaged_stops s t s' ns k err h)

pub surely_again : (from now : ℕ) (s u t v : Stores) (ns : List Noted) (result : Result (Unit {0}) PlayError) → OnOk result (NotesPlayed u ns v) → IfErr result (StopsBy u ns v)
    → SameLiveStores from s u → NotesLead from s ns now t → MatchResult result (λ _. SameLiveStores now t v) (λ e. e ≡ OutOfMemory)
surely_again from now s u t v ns (Ok x) ok err same h =
    let end = leads_playable from now s t u ns same h in
    subst (λ (w : Stores). SameLiveStores now t w) (played_alike u end.0 v ns end.1 ok) end.2
surely_again from now s u t v ns (Err OutOfMemory) ok err same h = refl
surely_again from now s u t v ns (Err (Damaged k)) ok err same h =
    let end = leads_playable from now s t u ns same h in
    absurd (damaged_stops u v end.0 ns k err end.1)
