-- Room for the note of taking a lock back.
use Rattle.std.proofs.Common.{◌≡◌, ℕ, ◌+◌, Bool, List, ◌++◌, length, Option, sym, ap, subst, ◌∙◌, arith}
use Rattle.std.proofs.lemmas.List.{length-append}
use Rattle.rand_core.specs.Stream.{Stream, fill_bytes}
use Rattle.uuid.specs.Parts.{v4_of_fill}
use Rattle.uuid.specs.Text.{hyphenated_text, lower, urn_prefix, urn_text}
use Rattle.uuid.proofs.TextLemmas.{by_index_length}
use Rattle.dav_path_core.specs.PathText.{PathText}
use Rattle.dav_locks_core.specs.Lock.{Lock}
use Rattle.dav_locks_core.specs.Tokens.{token_from}
use Rattle.dav_notes_core.specs.Costs.{cost_for}
use Rattle.dav_guarded_core.specs.Requests.{Command}
use Rattle.dav_guarded_core.specs.Step.{State}
use Rattle.dav_session_core.specs.declared.session.Session.{Session}
use Rattle.dav_session_core.specs.Callers.{Caller}
use Rattle.dav_session_core.specs.Granting.{granted_lock}
use Rattle.dav_session_core.specs.Sessions.{HasRoomFor, HasRoomForNotes, KeepsRoom, caller}

hyphenated_len : (bytes : List ℕ) → length (hyphenated_text lower bytes) ≡ 36
hyphenated_len bytes = by_index_length 36 _

text_len : (bytes : List ℕ) → length (urn_text lower bytes) ≡ 45
text_len bytes = omega (arith, length-append urn_prefix (hyphenated_text lower bytes), hyphenated_len bytes)

token_len : (stream : Stream) → length (token_from stream).0 ≡ 45
unfolding token_from
token_len stream = text_len (v4_of_fill (fill_bytes 16 stream)).0

-- the token of a granted lock
pub granted_token_len : (s : State) (who : Caller) (path : PathText) (owner : Option (List ℕ)) (timeout : Option ℕ) (shared deep : Bool) (lock : Lock)
    → lock ≡ granted_lock s who path owner timeout shared deep → length lock.token ≡ 45
granted_token_len s who path owner timeout shared deep lock is = ap (λ (l : Lock). length l.token) is ∙ token_len s.rng

-- the same caller keeps the room of one change
pub room_kept : {R : Type 0} (old new : Session R) → KeepsRoom old new → caller new ≡ caller old → (command : Command) → HasRoomFor command old → HasRoomFor command new
room_kept old new keeps who command h = subst (λ (w : Caller). HasRoomForNotes 1 (cost_for w command) new) (sym who) (keeps 1 (cost_for (caller old) command) h)
