-- A PROPPATCH is answered in one way.
use Rattle.std.proofs.Common.{◌≡◌, ◌⊎◌, inl, inr, ℕ, Bool, true, false, List, Some, None, Option, is_some, refl, sym, ap, ◌∙◌, subst}
use Rattle.std.specs.Prelude.{IsSome}
use Rattle.std.specs.FinMap.{FinMap, same_map}
use Rattle.std.proofs.lemmas.Bool.{false≢true}
use Rattle.http_header.specs.FieldValue.{FieldValue}
use Rattle.http_header.specs.HeaderMap.{Entries}
use Rattle.dav_path_core.specs.declared.util.DavMethod.TheVariants as method
use Rattle.dav_path_core.specs.Fronts.{Path, path_cmp}
use Rattle.dav_path_core.specs.PathText.{PathText}
use Rattle.dav_path_core.specs.Segments.{segments}
use Rattle.dav_path_core.proofs.lists.FinMaps.{dec, one_some}
use Rattle.dav_path_core.proofs.lists.Orders.{path_exact, path_total}
use Rattle.dav_files_core.specs.Resources.{Resource, ResourceMap, at_path}
use Rattle.dav_guarded_core.specs.Step.{State}
use Rattle.dav_faults_core.specs.declared.faults.Fault.{Fault}
use Rattle.dav_faults_core.specs.declared.faults.Fault.TheVariants as fault
use Rattle.dav_documents_core.specs.PatchBodies.{any_protected}
use Rattle.dav_documents_core.specs.PropertyUpdates.{Update, updates_in}
use Rattle.dav_session_core.specs.Callers.{Caller, live, refusing_at}
use Rattle.dav_session_core.specs.LocksInTheWay.{IsPathOfOne}
use Rattle.dav_session_core.specs.Patching.{IsPatched, with_updates}
use Rattle.dav_methods_core.specs.ChangeConditions.{change_course}
use Rattle.dav_methods_core.specs.ProppatchMethod.{CanPatch, CantPatch, Changes, FailsToPatch, Patches}
use Rattle.dav_methods_core.specs.SameFaults.{AreAlike, IsDetermined, LeavesLive}
use Rattle.dav_answers_core.proofs.SameFaultLemmas.{IsShort, both_show, equal_alike, never_stopped, no_lock, stopped_alike}

-- ---- one state is left

module _ (p : Path) (updates : List Update) (s s' s'' : State) (h : IsPatched p updates s s')
    (k : IsPatched p updates s s'') where
  one_place : (q : Path) → at_path s'.map q ≡ at_path s''.map q
  one_place q = elim (dec path_total path_exact q p) [
    | inl same ↦
        ap (at_path s'.map) same ∙ h.stands ∙ ap (λ (r : Resource). Some (with_updates updates r))
        (one_some (at_path s.map p) h.resource k.resource h.stood k.stood)
        ∙ sym k.stands ∙ ap (at_path s''.map) (sym same)
    | inr other ↦ h.others q other ∙ sym (k.others q other)
  ]

  one_map : s'.map ≡ s''.map
  one_map =
      ap (λ (es : FinMap path_cmp Resource). record { entries = es; next = s'.map.next })
      (same_map path_total path_exact s'.map.entries s''.map.entries one_place)
      ∙ ap (λ (n : ℕ). record { entries = s''.map.entries; next = n }) (h.next ∙ sym k.next)

  one_patching : s' ≡ s''
  one_patching = h.left ∙ ap (λ (m : ResourceMap). record s { map = m }) one_map ∙ sym k.left

one_change : (protected : Bool) (now : ℕ) (p : Path) (updates : List Update) (s s' s'' : State)
    → Changes protected now p updates s s' → Changes protected now p updates s s''
    → live now s' ≡ live now s''
one_change true now p updates s s' s'' h k = h ∙ sym k
one_change false now p updates s s' s'' h k = ap (live now) (one_patching p updates s s' s'' h k)

-- ---- refusals

module _ (headers : Entries FieldValue) (body : List ℕ) (s : State) (who : Caller) (p : Path) where
  record IsMissing (e : Fault) : Type 0 where
    is : e ≡ fault.NotFound
    asks : IsSome (updates_in body)
    nothing : at_path s.map p ≡ None

  record IsKept (e : Fault) : Type 0 where
    path : PathText
    is : e ≡ fault.Locked path
    asks : IsSome (updates_in body)
    stood : IsSome (at_path s.map p)
    of_one : IsPathOfOne (refusing_at s who p) path

  abbrev Why : Fault → Type 0
  Why e = IsShort e ⊎ (((e ≡ fault.BadRequest) × (updates_in body ≡ None))
      ⊎ (IsMissing e ⊎ IsKept e))

  why : (e : Fault) → CantPatch body s who p e → Why e
  why fault.InsufficientStorage h = inl refl
  why fault.BadRequest h = inr (inl (refl, h))
  why fault.NotFound h = inr (inr (inl (record { is = refl; asks = h.0; nothing = h.1 })))
  why (fault.Locked path) h = inr (inr (inr (record {
    path = path;
    is = refl;
    asks = h.0;
    stood = h.1;
    of_one = h.2;
  })))
  why _ h = absurd h

  nothing_some : {A B : Type 0} (o : Option A) → o ≡ None → IsSome o → B
  nothing_some o none some = absurd (false≢true (sym (ap is_some none) ∙ some))

  alike : (e f : Fault) → Why e → Why f → AreAlike e f
  alike e f (inl h) k = inl h
  alike e f (inr h) (inl k) = inr (inl k)
  alike e f (inr (inl h)) (inr (inl k)) = equal_alike e f (h.0 ∙ sym k.0)
  alike e f (inr (inl h)) (inr (inr (inl k))) = nothing_some (updates_in body) h.1 k.asks
  alike e f (inr (inl h)) (inr (inr (inr k))) = nothing_some (updates_in body) h.1 k.asks
  alike e f (inr (inr (inl h))) (inr (inl k)) = nothing_some (updates_in body) k.1 h.asks
  alike e f (inr (inr (inr h))) (inr (inl k)) = nothing_some (updates_in body) k.1 h.asks
  alike e f (inr (inr (inl h))) (inr (inr (inl k))) = equal_alike e f (h.is ∙ sym k.is)
  alike e f (inr (inr (inl h))) (inr (inr (inr k))) =
      nothing_some (at_path s.map p) h.nothing k.stood
  alike e f (inr (inr (inr h))) (inr (inr (inl k))) =
      nothing_some (at_path s.map p) k.nothing h.stood
  alike e f (inr (inr (inr h))) (inr (inr (inr k))) = both_show e f h.path k.path h.is k.is

  never : (e : Fault) → Why e → CanPatch body s who p → IsShort e
  never e (inl h) can = h
  never e (inr (inl h)) can = nothing_some (updates_in body) h.1 can.asks
  never e (inr (inr (inl h))) can = nothing_some (at_path s.map p) h.nothing can.stood
  never e (inr (inr (inr h))) can = no_lock (refusing_at s who p) h.path h.of_one can.free

module _ (prefix : List ℕ) (headers : Entries FieldValue) (body : List ℕ) (s : State) (who : Caller)
    (path : PathText) where
  abbrev p : Path
  p = segments path.bytes

  abbrev Does : ℕ → State → Type 0
  Does status t = LeavesLive who.now
      (λ sent s'. Patches prefix headers body s who path status sent s') t

  once : (status other : ℕ) (t u : State) → Does status t → Does other u
      → (status ≡ other) × (t ≡ u)
  once status other t u h k =
      let asked : Some h.does.updates ≡ Some k.does.updates = sym h.does.asks ∙ k.does.asks in
      let same : h.does.updates ≡ k.does.updates = cc in
      let changes = subst (λ (us : List Update). Changes
      (any_protected us) who.now p us s h.state) same h.does.changes in (
        h.does.status_is ∙ sym k.does.status_is,
        h.left ∙ one_change
            (any_protected k.does.updates) who.now p k.does.updates s h.state k.state changes k.does.changes ∙ sym k.left,
      )

  can : (status : ℕ) (t : State) → Does status t → CanPatch body s who p
  can status t h = record {
    asks = ap is_some h.does.asks;
    stood = h.does.stood;
    free = h.does.free;
  }

  pub patches_once : IsDetermined Does (FailsToPatch headers body s who p)
  patches_once = record {
    done = once;
    either = λ status t e h k.
        never_stopped (CantPatch body s who p) (CanPatch body s who p)
        (change_course method.PropPatch s.map p headers)
        (λ e c. never headers body s who p e (why headers body s who p e c))
        (can status t h) h.does.course e k;
    refused = λ e f h k.
        stopped_alike (CantPatch body s who p) (CanPatch body s who p)
        (change_course method.PropPatch s.map p headers)
        (λ e f h k. alike headers body s who p e f (why headers body s who p e h)
        (why headers body s who p f k)) (λ e c. never headers body s who p e
        (why headers body s who p e c)) e f h k;
  }
