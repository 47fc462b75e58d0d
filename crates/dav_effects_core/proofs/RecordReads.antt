-- What follows from the reading of a record.
use Rattle.std.proofs.Common.{◌≡◌, ℕ, false, List as Sequence, [], ◌∷◌, map, Result, Ok, Err, refl, sym, ◌∙◌}
use Rattle.std.specs.List.{AllByRecursion}
use Rattle.dav_guarded_core.specs.Requests.{Command}
use Rattle.dav_notes_core.specs.Changes.{is_look}
use Rattle.std.specs.Prelude.{IfOk, IfErr, MatchResult}
use Rattle.std.specs.Global.{Vec}
use Rattle.dav_notes_core.specs.declared.notes.Note.{Note}
use Rattle.dav_notes_core.specs.Noting.{AreChanges, Noted, note_of}
use Rattle.dav_effects_core.specs.declared.error.RecordError.{RecordError}
use Rattle.dav_effects_core.specs.declared.error.RecordError.TheVariants.{OutOfMemory, Damaged}
use Rattle.dav_effects_core.specs.RecordFaults.{IsFault, ReadsRecord}
use Rattle.dav_effects_core.specs.RecordReading.{record_at}
use Rattle.dav_effects_core.specs.Records.{IsChange, IsNoted, IsRecord}
use Rattle.dav_effects_core.proofs.Exact.{IsBytes, ok_is}
use Rattle.dav_effects_core.proofs.NoteForms.{record_takes, record_again}

pub is_found : (bytes : Sequence ℕ) (r : Result (Vec Note) RecordError) → IsBytes bytes → ReadsRecord r (record_at bytes) → IfOk r (λ v. IsRecord (map note_of v.items) bytes)
is_found bytes (Ok v) fits given = record_takes bytes (map note_of v.items) fits given
is_found bytes (Err e) fits given = tt

no_look : (x : Command) → IsChange x → is_look x ≡ false
no_look (Command.Put path bytes) h = refl
no_look (Command.Write path at bytes) h = refl
no_look (Command.MkCol path) h = refl
no_look (Command.Remove path) h = refl
no_look (Command.Move from to) h = refl
no_look (Command.Copy from to) h = refl
no_look (Command.PatchProps path patch) h = refl
no_look (Command.Lock path owner timeout shared deep) h = refl
no_look (Command.Unlock path token) h = refl
no_look (Command.Refresh path token timeout) h = refl
no_look _ h = absurd h

are_changes : (ns : Sequence Noted) → AllByRecursion IsNoted ns → AreChanges ns
are_changes [] h = tt
are_changes (n ∷ ns) h = (no_look n.request.command h.0.command, are_changes ns h.1)

pub is_changes : (bytes : Sequence ℕ) (r : Result (Vec Note) RecordError) → IsBytes bytes → ReadsRecord r (record_at bytes) → IfOk r (λ v. AreChanges (map note_of v.items))
is_changes bytes (Ok v) fits given = are_changes (map note_of v.items) (record_takes bytes (map note_of v.items) fits given).notes
is_changes bytes (Err e) fits given = tt

pub is_only : (bytes : Sequence ℕ) (r : Result (Vec Note) RecordError) (ns : Sequence Noted) → ReadsRecord r (record_at bytes) → IsRecord ns bytes
    → MatchResult r (λ v. map note_of v.items ≡ ns) (λ e. e ≡ OutOfMemory)
is_only bytes (Ok v) ns given is = ok_is (map note_of v.items) ns (sym given ∙ record_again ns bytes is)
is_only bytes (Err OutOfMemory) ns given is = refl
is_only bytes (Err (Damaged at)) ns given is = absurd (apart at ns (sym given ∙ record_again ns bytes is))
  where
    apart : (left : ℕ) (ms : Sequence Noted) → Err left ≡ Ok ms → ⊥
    apart left ms e = cc

pub is_fault : (r : Result (Vec Note) RecordError) (read : Result (Sequence Noted) ℕ) → ReadsRecord r read → IfErr r (λ e. IsFault e read)
is_fault (Ok v) read given = tt
is_fault (Err e) read given = given
