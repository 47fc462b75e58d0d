-- A MOVE is answered in one way.
use Rattle.std.proofs.Common.{◌≡◌, inl, inr, ℕ, true, false, List, Some, refl, sym, ap, ◌∙◌, subst}
use Rattle.std.proofs.lemmas.Bool.{cases_Bool}
use Rattle.http_header.specs.FieldValue.{FieldValue}
use Rattle.http_header.specs.HeaderMap.{Entries}
use Rattle.dav_path_core.specs.declared.util.DavMethod.TheVariants as method
use Rattle.dav_path_core.specs.Fronts.{Path, is_front}
use Rattle.dav_path_core.specs.PathText.{PathText}
use Rattle.dav_path_core.specs.Segments.{segments}
use Rattle.dav_path_core.proofs.paths.SubtreePaths.{rest_of}
use Rattle.dav_files_core.specs.Resources.{IsResourceMap, at_path}
use Rattle.dav_guarded_core.specs.Step.{State}
use Rattle.dav_faults_core.specs.declared.faults.Fault.{Fault}
use Rattle.dav_faults_core.specs.declared.faults.Fault.TheVariants as fault
use Rattle.dav_fields_core.specs.Bases.{Site}
use Rattle.dav_session_core.specs.Callers.{Caller}
use Rattle.dav_session_core.specs.Clearing.{IsCleared}
use Rattle.dav_session_core.specs.Ends.{GoesFrom}
use Rattle.dav_session_core.specs.LocksInTheWay.{IsPathOfOne, by_place}
use Rattle.dav_session_core.specs.Moving.{IsMoved, refusing_move}
use Rattle.dav_session_core.specs.Subtrees.{HasOddName}
use Rattle.dav_methods_core.specs.ChangeConditions.{change_course}
use Rattle.dav_methods_core.specs.MoveMethod.{CantMove, FailsToMove, IsMovable, Moves}
use Rattle.dav_methods_core.specs.PutMethod.{put_status}
use Rattle.dav_methods_core.specs.Reaching.{ReachesDown}
use Rattle.dav_methods_core.specs.SameFaults.{AreAlike, IsDetermined, shows_refusing_lock}
use Rattle.dav_answers_core.proofs.DeleteAlikeLaws.{one_state}
use Rattle.dav_answers_core.proofs.EndsAlikeLaws.{Why, at_depth, at_ends, behind_ends, locks_alike, one_clearing, one_goes, one_target, told_by_place, why_alike, why_past}
use Rattle.dav_answers_core.proofs.OddNameLemmas.{goes_plain}
use Rattle.dav_answers_core.proofs.SameFaultLemmas.{IsShort, never_stopped, no_lock, stopped_alike}

-- ---- one state is left

module _ (now : ℕ) (from to : Path) (s s' s'' : State) (h : IsMoved now from to s s')
    (k : IsMoved now from to s s'') where
  one_place : (q : Path) → at_path s'.map q ≡ at_path s''.map q
  one_place q = elim (cases_Bool (is_front from q)) [
    | inl inside ↦ h.gone q inside ∙ sym (k.gone q inside)
    | inr out ↦ elim (cases_Bool (is_front to q)) [
      | inl there ↦
          let rest = rest_of to q there in
          ap (at_path s'.map) rest.1 ∙ h.there rest.0 ∙ sym (k.there rest.0)
          ∙ ap (at_path s''.map) (sym rest.1)
      | inr other ↦ h.others q out other ∙ sym (k.others q out other)
    ]
  ]

  one_move : s' ≡ s''
  one_move =
      one_state s' s'' one_place (h.next ∙ sym k.next) (h.locks ∙ sym k.locks) (h.rng ∙ sym k.rng)

module _ (site : Site) (prefix : List ℕ) (headers : Entries FieldValue) (s : State) (who : Caller)
    (from : Path) (is_map : IsResourceMap s.map) where
  -- ---- refusals

  abbrev Reaches : Type 0
  Reaches = ReachesDown s.map from headers

  abbrev Odd : PathText → Type 0
  Odd to = HasOddName s.map (segments to.bytes)

  record IsKept (to : PathText) (e : Fault) : Type 0 where
    shows : shows_refusing_lock e ≡ Some true
    gone : List Path
    goes : GoesFrom s.map (segments to.bytes) gone
    path : PathText
    refused : IsPathOfOne (refusing_move s who from (segments to.bytes) gone) path

  abbrev WhyNot : Fault → Type 0
  WhyNot e = Why site prefix headers from false s.map Reaches Odd IsKept e

  why : (e : Fault) → CantMove site prefix headers s who from e → WhyNot e
  why _ CantMove.memory = inl refl
  why _ (CantMove.depth short) =
      at_depth site prefix headers from false s.map Reaches Odd IsKept short
  why _ (CantMove.ends e reaches h) =
      at_ends site prefix headers from false s.map Reaches Odd IsKept reaches (λ to odd. odd) e h
  why _ (CantMove.locked to replaces gone path reaches leads fit goes refused) =
      behind_ends site prefix headers from false s.map Reaches Odd IsKept reaches to replaces leads
      fit (by_place from (by_place (segments to.bytes) (fault.Locked path)))
      (inr (
        goes_plain s.map (segments to.bytes) is_map gone goes,
        record {
          shows = told_by_place from (by_place (segments to.bytes) (fault.Locked path))
              (told_by_place (segments to.bytes) (fault.Locked path) refl);
          gone = gone;
          goes = goes;
          path = path;
          refused = refused;
        },
      ))

  alike : (e f : Fault) → CantMove site prefix headers s who from e
      → CantMove site prefix headers s who from f → AreAlike e f
  alike e f h k =
      why_alike site prefix headers from false s.map Reaches Odd IsKept
      (λ to e f h k. locks_alike e f h.shows k.shows) e f (why e h) (why f k)

  -- what can be moved isn't refused
  unlocked : (can : IsMovable site prefix headers s who from) (e : Fault) → IsKept can.to e
      → IsShort e
  unlocked can e h =
      let to = segments can.to.bytes in
      no_lock (refusing_move s who from to h.gone) h.path h.refused
      (ap (refusing_move s who from to) (one_goes s.map to h.gone can.gone h.goes can.goes)
      ∙ can.free)

  never : (e : Fault) → CantMove site prefix headers s who from e
      → IsMovable site prefix headers s who from → IsShort e
  never e h can =
      why_past site prefix headers from false s.map Reaches Odd IsKept can.reaches can.to
      can.replaces can.leads can.fit
      (goes_plain s.map (segments can.to.bytes) is_map can.gone can.goes) (unlocked can) e (why e h)

  -- ---- what is done

  abbrev Does : ℕ → State → Type 0
  Does status s' = Moves site prefix headers s who from status s'

  once : (status other : ℕ) (s' s'' : State) → Does status s' → Does other s''
      → (status ≡ other) × (s' ≡ s'')
  once status other s' s'' h k =
      let same = (one_target site prefix headers from false h.to k.to h.replaces k.replaces h.leads
      k.leads).0 in
      let cleared = subst (λ (to : PathText). IsCleared who.now (segments to.bytes) s h.mid) same
      h.cleared in
      let mid = one_clearing who.now (segments k.to.bytes) s h.mid k.mid cleared k.cleared in
      let moved = subst (λ mid. IsMoved who.now from (segments k.to.bytes) mid s') mid
      (subst (λ (to : PathText). IsMoved who.now from (segments to.bytes) h.mid s') same
      h.moved) in (
        h.status_is ∙ ap (λ (to : PathText). put_status s.map (segments to.bytes)) same
            ∙ sym k.status_is,
        one_move who.now from (segments k.to.bytes) k.mid s' s'' moved k.moved,
      )

  can : (status : ℕ) (s' : State) → Does status s' → IsMovable site prefix headers s who from
  can status s' h = record {
    reaches = h.reaches;
    to = h.to;
    replaces = h.replaces;
    leads = h.leads;
    fit = h.fit;
    gone = h.gone;
    goes = h.goes;
    free = h.free;
  }

  pub moves_once : IsDetermined (Moves site prefix headers s who from)
      (FailsToMove site prefix headers s who from)
  moves_once = record {
    done = once;
    either = λ status s' e h k.
        never_stopped (CantMove site prefix headers s who from)
        (IsMovable site prefix headers s who from) (change_course method.Move s.map from headers)
        never (can status s' h) h.course e k;
    refused = λ e f h k.
        stopped_alike (CantMove site prefix headers s who from)
        (IsMovable site prefix headers s who from) (change_course method.Move s.map from headers)
        alike never e f h k;
  }
