-- A COPY is answered in one way.
use Rattle.std.proofs.Common.{◌≡◌, ◌⊎◌, inl, inr, ℕ, Bool, true, List, map, Option, Some, Ok, is_some, refl, sym, ap, ◌∙◌, subst}
use Rattle.std.specs.Prelude.{IsSome}
use Rattle.std.proofs.lemmas.Bool.{false≢true}
use Rattle.http_header.specs.FieldValue.{FieldValue}
use Rattle.http_header.specs.HeaderMap.{Entries}
use Rattle.dav_path_core.specs.declared.util.DavMethod.TheVariants as method
use Rattle.dav_path_core.specs.Fronts.{Path}
use Rattle.dav_path_core.specs.PathText.{PathText}
use Rattle.dav_path_core.specs.Segments.{segments}
use Rattle.dav_path_core.proofs.lists.FinMaps.{one_some}
use Rattle.dav_files_core.specs.Meta.{Meta}
use Rattle.dav_files_core.specs.Resources.{IsResourceMap, ResourceMap}
use Rattle.dav_guarded_core.specs.Step.{State}
use Rattle.dav_faults_core.specs.declared.faults.Fault.{Fault}
use Rattle.dav_faults_core.specs.declared.faults.Fault.TheVariants as fault
use Rattle.dav_fields_core.specs.Bases.{Site}
use Rattle.dav_session_core.specs.Callers.{Caller, live}
use Rattle.dav_session_core.specs.Clearing.{IsCleared}
use Rattle.dav_session_core.specs.Copying.{AreCopied, copies_made, source_and_target}
use Rattle.dav_session_core.specs.Ends.{GoesFrom, known_at}
use Rattle.dav_session_core.specs.LocksInTheWay.{IsPathOfOne, by_place}
use Rattle.dav_session_core.specs.Subtrees.{HasOddName}
use Rattle.dav_session_core.proofs.WalkOrderLemmas.{one_walk}
use Rattle.dav_methods_core.specs.ChangeConditions.{change_course}
use Rattle.dav_methods_core.specs.CopyMethod.{CanCopy, CantCopy, Copies, FailsToCopy, IsPlanned, refusing_copy}
use Rattle.dav_methods_core.specs.PutMethod.{put_status}
use Rattle.dav_methods_core.specs.Reaching.{reach_from}
use Rattle.dav_methods_core.specs.SameFaults.{AreAlike, IsDetermined, LeavesLive, shows_refusing_lock}
use Rattle.dav_answers_core.proofs.EndsAlikeLaws.{Why, at_depth, at_ends, behind_ends, locks_alike, one_clearing, one_goes, one_target, told_by_place, why_alike, why_past}
use Rattle.dav_answers_core.proofs.OddNameLemmas.{goes_plain}
use Rattle.dav_answers_core.proofs.SameFaultLemmas.{IsShort, never_stopped, no_lock, one_map_left, stopped_alike}

one_copied : (deep : Bool) (from to : Path) (m : ResourceMap) (rests others : List Path)
    → AreCopied deep from to m rests → AreCopied deep from to m others → rests ≡ others
one_copied deep from to m rests others h k =
    one_walk rests others h.sorted k.sorted (λ q i. (k.members q).1 ((h.members q).0 i))
    (λ q i. (h.members q).1 ((k.members q).0 i))

-- what copies leave of a state is one, but for locks that have expired
one_left : (now : ℕ) (pairs : List (Path × Path)) (mid s' s'' : State)
    → copies_made now pairs mid.map ≡ Ok (tt, s'.map)
    → copies_made now pairs mid.map ≡ Ok (tt, s''.map)
    → live now s' ≡ record mid { map = s'.map } → live now s'' ≡ record mid { map = s''.map }
    → live now s' ≡ live now s''
one_left now pairs mid s' s'' made also h k =
    h ∙ ap (λ (m : ResourceMap). record mid { map = m })
    (one_map_left (copies_made now pairs mid.map) s'.map s''.map made also) ∙ sym k

module _ (site : Site) (prefix : List ℕ) (headers : Entries FieldValue) (s : State) (who : Caller)
    (from : Path) (is_map : IsResourceMap s.map) where
  -- ---- refusals

  abbrev Reaches : Type 0
  Reaches = IsSome (reach_from s.map from headers)

  abbrev Odd : PathText → Type 0
  Odd to =
      HasOddName s.map (segments to.bytes)
      ⊎ ((reach_from s.map from headers ≡ Some true) × HasOddName s.map from)

  record IsKept (to : PathText) (e : Fault) : Type 0 where
    shows : shows_refusing_lock e ≡ Some true
    deep : Bool
    reaches : reach_from s.map from headers ≡ Some deep
    gone : List Path
    goes : GoesFrom s.map (segments to.bytes) gone
    rests : List Path
    are : AreCopied deep from (segments to.bytes) s.map rests
    path : PathText
    refused : IsPathOfOne (refusing_copy s who (segments to.bytes) gone rests) path

  abbrev WhyNot : Fault → Type 0
  WhyNot e = Why site prefix headers from true s.map Reaches Odd IsKept e

  not_odd : (to : PathText) (deep : Bool) (gone : List Path)
      → reach_from s.map from headers ≡ Some deep → GoesFrom s.map (segments to.bytes) gone
      → (deep ≡ true → ¬ HasOddName s.map from) → ¬ Odd to
  not_odd to deep gone reaches goes plain (inl odd) =
      goes_plain s.map (segments to.bytes) is_map gone goes odd
  not_odd to deep gone reaches goes plain (inr odd) =
      plain (one_some (reach_from s.map from headers) deep true reaches odd.0) odd.1

  why : (e : Fault) → CantCopy site prefix headers s who from e → WhyNot e
  why _ CantCopy.memory = inl refl
  why _ (CantCopy.depth none) =
      at_depth site prefix headers from true s.map Reaches Odd IsKept
      (λ some. false≢true (sym (ap is_some none) ∙ some))
  why _ (CantCopy.ends deep e reaches h) =
      at_ends site prefix headers from true s.map Reaches Odd IsKept (ap is_some reaches)
      (λ to odd. inl odd) e h
  why _ (CantCopy.odd to replaces reaches leads fit name) =
      behind_ends site prefix headers from true s.map Reaches Odd IsKept (ap is_some reaches) to
      replaces leads fit fault.BadRequest (inl (refl, inr (reaches, name)))
  why _ (CantCopy.locked deep to replaces gone rests path reaches leads fit goes plain are
      refused) =
      behind_ends site prefix headers from true s.map Reaches Odd IsKept (ap is_some reaches) to
      replaces leads fit (by_place (segments to.bytes) (fault.Locked path))
      (inr (
        not_odd to deep gone reaches goes plain,
        record {
          shows = told_by_place (segments to.bytes) (fault.Locked path) refl;
          deep = deep;
          reaches = reaches;
          gone = gone;
          goes = goes;
          rests = rests;
          are = are;
          path = path;
          refused = refused;
        },
      ))

  alike : (e f : Fault) → CantCopy site prefix headers s who from e
      → CantCopy site prefix headers s who from f → AreAlike e f
  alike e f h k =
      why_alike site prefix headers from true s.map Reaches Odd IsKept
      (λ to e f h k. locks_alike e f h.shows k.shows) e f (why e h) (why f k)

  -- what is planned isn't refused
  module _ (known : Option Meta) (gone : List Path) (pairs : List (Path × Path))
      (plan : IsPlanned site prefix headers s who from known gone pairs) where
    unlocked : (e : Fault) → IsKept plan.to e → IsShort e
    unlocked e h =
        let to = segments plan.to.bytes in
        let deep = one_some (reach_from s.map from headers) h.deep plan.deep h.reaches
        plan.reaches in
        let rests = one_copied plan.deep from to s.map h.rests plan.rests
        (subst (λ b. AreCopied b from to s.map h.rests) deep h.are) plan.are in
        no_lock (refusing_copy s who to h.gone h.rests) h.path h.refused
        (ap (λ goes. refusing_copy s who to goes h.rests)
        (one_goes s.map to h.gone gone h.goes plan.goes)
        ∙ ap (refusing_copy s who to gone) rests ∙ plan.free)

    never_planned : (e : Fault) → CantCopy site prefix headers s who from e → IsShort e
    never_planned e h =
        why_past site prefix headers from true s.map Reaches Odd IsKept (ap is_some plan.reaches)
        plan.to plan.replaces plan.leads plan.fit
        (not_odd plan.to plan.deep gone plan.reaches plan.goes plan.plain) unlocked e (why e h)

  never : (e : Fault) → CantCopy site prefix headers s who from e
      → CanCopy site prefix headers s who from → IsShort e
  never e h can = never_planned can.0 can.1 can.2 can.3 e h

  -- ---- what is done

  abbrev Does : ℕ → State → Type 0
  Does status t =
      LeavesLive who.now (λ sent s'. Copies site prefix headers s who from status s') t

  once : (status other : ℕ) (t u : State) → Does status t → Does other u
      → (status ≡ other) × (t ≡ u)
  once status other t u a b =
      let h = a.does in
      let k = b.does in
      let to = segments k.to.bytes in
      let same = (one_target site prefix headers from true h.to k.to h.replaces k.replaces h.leads
      k.leads).0 in
      let deep = one_some (reach_from s.map from headers) h.deep k.deep h.reaches k.reaches in
      let are = subst (λ b. AreCopied b from to s.map h.rests) deep
      (subst (λ (to : PathText). AreCopied h.deep from (segments to.bytes) s.map h.rests) same
      h.are) in
      let rests = one_copied k.deep from to s.map h.rests k.rests are k.are in
      let cleared = subst (λ (to : PathText). IsCleared who.now (segments to.bytes) s h.mid) same
      h.cleared in
      let mid = one_clearing who.now to s h.mid k.mid cleared k.cleared in
      let pairs = ap (λ (to : PathText). map (source_and_target from (segments to.bytes)) h.rests)
      same ∙ ap (map (source_and_target from to)) rests in
      let made = subst (λ xs. copies_made who.now xs k.mid.map ≡ Ok (tt, a.state.map)) pairs
      (subst (λ (m : State). copies_made who.now (map (source_and_target from (segments h.to.bytes))
      h.rests) m.map ≡ Ok (tt, a.state.map)) mid h.made) in
      let left = subst (λ (m : State). live who.now a.state ≡ record m { map = a.state.map }) mid
      h.copied.left in (
        h.status_is ∙ ap (λ (to : PathText). put_status s.map (segments to.bytes)) same
            ∙ sym k.status_is,
        a.left ∙ one_left who.now (map (source_and_target from to) k.rests) k.mid a.state b.state
            made k.made left k.copied.left ∙ sym b.left,
      )

  can : (status : ℕ) (s' : State) → Copies site prefix headers s who from status s'
      → CanCopy site prefix headers s who from
  can status s' h = (
    known_at s.map (segments h.to.bytes),
    h.gone,
    map (source_and_target from (segments h.to.bytes)) h.rests,
    record {
      shape = is_map;
      deep = h.deep;
      reaches = h.reaches;
      to = h.to;
      replaces = h.replaces;
      leads = h.leads;
      fit = h.fit;
      known_is = refl;
      goes = h.goes;
      plain = h.plain;
      rests = h.rests;
      are = h.are;
      free = h.free;
      pairs_are = refl;
    },
  )

  pub copies_once : IsDetermined (λ status t. LeavesLive who.now
      (λ sent s'. Copies site prefix headers s who from status s') t)
      (FailsToCopy site prefix headers s who from)
  copies_once = record {
    done = once;
    either = λ status t e h k.
        never_stopped (CantCopy site prefix headers s who from)
        (CanCopy site prefix headers s who from) (change_course method.Copy s.map from headers)
        never (can status h.state h.does) h.does.course e k;
    refused = λ e f h k.
        stopped_alike (CantCopy site prefix headers s who from)
        (CanCopy site prefix headers s who from) (change_course method.Copy s.map from headers)
        alike never e f h k;
  }
