-- How many bytes the record of a turn has.
use Rattle.std.proofs.Common.{◌≡◌, ◌≤◌, ◌<◌, ◌+◌, ◌-◌, ◌^◌, ◌++◌, ◌∷◌, [], ℕ, List, Option, length, min, refl, ap, sym, subst, ◌∙◌, append-nil, length-append, arith}
use Rattle.std.proofs.lemmas.Bool.Decides.{nat_tests}
use Rattle.std.proofs.lemmas.List.Sums.{sum_by-cons}
use Rattle.http.specs.declared.request.Request.{Request}
use Rattle.http_server.specs.declared.response.Response.{Response}
use Rattle.http_server.specs.Exchange.{Call, Chain}
use Rattle.http_frames.specs.Gate.{CallsOnce}
use Rattle.journal_core.specs.Format.{records_text, word_of}
use Rattle.journal_core.proofs.Numbers.{word_len}
use Rattle.dav_notes_core.specs.Asking.{asker_of}
use Rattle.dav_notes_core.specs.Costs.{budget_of, caller_cost, command_cost, note_cost, notes_cost}
use Rattle.dav_notes_core.specs.Noting.{Noted}
use Rattle.dav_session_core.specs.Sessions.{Noting}
use Rattle.dav_kept_core.specs.KeptServers.{BeginsKept, KeptServer, RepliesKept, record_room, room_of, with_room}
use Rattle.dav_kept_core.specs.Private.StandLaws.{same_but_clock}

-- the room that is given of so many bytes, but for what a record and its round have beside the notes
pub room_given : (bytes : ℕ) → room_of (budget_of (bytes - 24)) ≤ bytes
room_given bytes = grind (arith, nat_tests)

-- a record in a round
pub one_text : (bytes : List ℕ) → length (records_text (bytes ∷ [])) ≡ length bytes + 8
one_text bytes =
    ap (λ (l : List ℕ). length l) (append-nil (word_of (length bytes) ++ bytes)) ∙ length-append (word_of (length bytes)) bytes ∙ ap (λ (n : ℕ). n + length bytes) (word_len (length bytes)) ∙ omega arith

-- each note costs something
costs : (notes : List Noted) → (notes ≡ [] → ⊥) → 0 < notes_cost notes
costs [] some = absurd (some refl)
costs (n ∷ notes) some =
    let all : notes_cost (n ∷ notes) ≡ ((caller_cost (asker_of n.request) + command_cost n.request.command) + 104) + notes_cost notes = sum_by-cons note_cost n notes in
    omega (arith, all)

pub record_fits : (notes : List Noted) (bytes : List ℕ) (given : ℕ) → (notes ≡ [] → ⊥) → length bytes ≤ notes_cost notes + 16 → notes_cost notes ≤ given → length (records_text (bytes ∷ [])) ≤ room_of given
record_fits notes bytes given some within cost = grind (arith, nat_tests, one_text bytes, costs notes some)

-- a turn has the room that was given when it began
pub begun_room : {C : Type 0} (tells : C → Option ℕ → C → Type 0) (s s' : KeptServer C) (number : ℕ) (x : BeginsKept tells s number s') → record_room s' ≡ room_of x.given
begun_room tells s s' number x = ap (λ (n : Noting). room_of n.given) (same_but_clock x.begins.0 (with_room x.given s.timing.server) s'.timing.server x.begins.2).noting

module _ {C S : Type 0} (see : S → KeptServer C) where
  -- the notes of a turn cost no more than was given when it was told
  pub turn_cost : (tells : C → Option ℕ → C → Type 0) (before told now : S) (number : ℕ) (calls : List Call) → BeginsKept tells (see before) number (see told)
      → CallsOnce (λ old request response new. RepliesKept (see old) request response (see new)) told calls now → notes_cost (see now).notes ≤ (see told).timing.server.noting.given
  turn_cost tells before told now number calls begins once = one calls once.one once.chain
    where
      one : (calls : List Call) → length calls ≤ 1 → Chain (λ old request response new. RepliesKept (see old) request response (see new)) told calls now → notes_cost (see now).notes ≤ (see told).timing.server.noting.given
      one [] short x = subst (λ (ns : List Noted). notes_cost ns ≤ (see told).timing.server.noting.given) (sym (ap (λ (t : S). (see t).notes) x ∙ begins.notes)) (omega arith)
      one (c ∷ []) short x =
          let replies = x.1 in
          let given : replies.answered.server.noting.given ≡ (see told).timing.server.noting.given = ap (λ (n : Noting). n.given) replies.replies.1.moves.noting in
          subst (λ (t : S). notes_cost (see t).notes ≤ (see told).timing.server.noting.given) (sym x.2) (subst (λ (n : ℕ). notes_cost (see x.0).notes ≤ n) given replies.takes.cost)
      one (c ∷ (d ∷ calls)) short x = absurd (omega (arith, short))
