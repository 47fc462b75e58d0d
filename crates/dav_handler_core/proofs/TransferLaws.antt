-- When a COPY or a MOVE is held off: what stands at its target may not be replaced.
use Rattle.std.proofs.Common.{◌≡◌, ◌⊎◌, inl, inr, ℕ, Bool, true, false, cond, List, Some, Err, ap, ◌∙◌, subst}
use Rattle.dav_path_core.specs.declared.util.DavMethod.TheVariants as method
use Rattle.std.proofs.lemmas.Bool.{cases_Bool}
use Rattle.http_header.specs.FieldValue.{FieldValue}
use Rattle.http_header.specs.HeaderMap.{Entries}
use Rattle.dav_path_core.specs.declared.davpath.ParseError.{ParseError}
use Rattle.dav_path_core.specs.declared.davpath.ParseError.TheVariants as parse
use Rattle.dav_path_core.specs.Fronts.{Path}
use Rattle.dav_path_core.specs.Segments.{segments}
use Rattle.dav_files_core.specs.Resources.{ResourceMap}
use Rattle.dav_guarded_core.specs.Step.{State}
use Rattle.dav_fields_core.specs.Bases.{Site}
use Rattle.dav_faults_core.specs.declared.faults.Fault.{Fault}
use Rattle.dav_faults_core.specs.declared.faults.Fault.TheVariants as fault
use Rattle.dav_session_core.specs.Callers.{Caller}
use Rattle.dav_methods_core.specs.ChangeConditions.{change_course}
use Rattle.dav_methods_core.specs.CopyMethod.{CantCopy, FailsToCopy}
use Rattle.dav_fields_core.specs.TransferDestinations.{LeadsNowhere, fault_of, overwrites}
use Rattle.dav_fields_core.specs.TransferDestinations.LeadsNowhere.{memory, no_text, no_url, no_host, another, no_path}
use Rattle.dav_methods_core.specs.TransferEnds.{FailsAtEnds}
use Rattle.dav_session_core.specs.LocksInTheWay.{by_place, is_lock_below}
use Rattle.dav_methods_core.specs.MoveMethod.{CantMove, FailsToMove}

-- a path that is refused is told otherwise
path_told : (e : ParseError) → fault_of e ≡ fault.PreconditionFailed → ⊥
path_told parse.InvalidPath is = cc
path_told parse.PrefixMismatch is = cc
path_told parse.ForbiddenPath is = cc
path_told parse.OutOfMemory is = cc

-- so is a lock
lock_told : (p : Path) (e : Fault) → by_place p e ≡ fault.PreconditionFailed → e ≡ fault.PreconditionFailed
lock_told p fault.PreconditionFailed is = is
lock_told p (fault.Locked path) is = elim (cases_Bool (is_lock_below p path)) [
  | inl below ↦ let no : fault.MemberLocked path ≡ fault.PreconditionFailed = subst (λ b. cond b (fault.MemberLocked path) (fault.Locked path) ≡ fault.PreconditionFailed) below is in absurd (cc)
  | inr here ↦ let no : fault.Locked path ≡ fault.PreconditionFailed = subst (λ b. cond b (fault.MemberLocked path) (fault.Locked path) ≡ fault.PreconditionFailed) here is in absurd (cc)
]
lock_told p _ is = is

module _ (site : Site) (prefix : List ℕ) (headers : Entries FieldValue) where
  nowhere_told : (e : Fault) → e ≡ fault.PreconditionFailed → LeadsNowhere site prefix headers e → ⊥
  nowhere_told _ is memory = cc
  nowhere_told _ is (no_text h) = cc
  nowhere_told _ is (no_url text names rooted h) = cc
  nowhere_told _ is (no_host text names rooted h) = cc
  nowhere_told _ is (another text names leads) = cc
  nowhere_told _ is (no_path text at e names leads h) = path_told e is

  ends_kept : (m : ResourceMap) (from : Path) (within : Bool) (e : Fault) → e ≡ fault.PreconditionFailed → FailsAtEnds site prefix headers m from within e → overwrites headers ≡ Some false
  ends_kept m from within _ is FailsAtEnds.memory = absurd (cc)
  ends_kept m from within _ is (FailsAtEnds.unread h) = absurd (cc)
  ends_kept m from within _ is (FailsAtEnds.nowhere replaces e h leads) = absurd (nowhere_told e is leads)
  ends_kept m from within _ is (FailsAtEnds.related replaces to h leads relates) = absurd (cc)
  ends_kept m from within _ is (FailsAtEnds.missing to replaces leads none) = absurd (cc)
  ends_kept m from within _ is (FailsAtEnds.kept to leads stands there) = leads.overwrites_is
  ends_kept m from within _ is (FailsAtEnds.nowhere_to_stand to replaces leads stands may none) = absurd (cc)
  ends_kept m from within _ is (FailsAtEnds.odd to replaces leads fit name) = absurd (cc)

  copy_kept : (s : State) (who : Caller) (from : Path) (e : Fault) → e ≡ fault.PreconditionFailed → CantCopy site prefix headers s who from e → overwrites headers ≡ Some false
  copy_kept s who from _ is CantCopy.memory = absurd (cc)
  copy_kept s who from _ is (CantCopy.depth h) = absurd (cc)
  copy_kept s who from _ is (CantCopy.ends deep e reaches h) = ends_kept s.map from true e is h
  copy_kept s who from _ is (CantCopy.odd to replaces reaches leads fit name) = absurd (cc)
  copy_kept s who from _ is (CantCopy.locked deep to replaces gone rests path reaches leads fit goes plain are refused) =
      absurd (let no : fault.Locked path ≡ fault.PreconditionFailed = lock_told (segments to.bytes) (fault.Locked path) is in cc)

  move_kept : (s : State) (who : Caller) (from : Path) (e : Fault) → e ≡ fault.PreconditionFailed → CantMove site prefix headers s who from e → overwrites headers ≡ Some false
  move_kept s who from _ is CantMove.memory = absurd (cc)
  move_kept s who from _ is (CantMove.depth h) = absurd (cc)
  move_kept s who from _ is (CantMove.ends e reaches h) = ends_kept s.map from false e is h
  move_kept s who from _ is (CantMove.locked to replaces gone path reaches leads fit goes refused) =
      absurd (let no : fault.Locked path ≡ fault.PreconditionFailed =
      lock_told (segments to.bytes) (fault.Locked path) (lock_told from (by_place (segments to.bytes) (fault.Locked path)) is) in cc)

  -- so a COPY is stopped there, or by conditions of its source
  pub copy_stops : (s : State) (who : Caller) (from : Path) (e : Fault) → e ≡ fault.PreconditionFailed → FailsToCopy site prefix headers s who from e
      → (overwrites headers ≡ Some false) ⊎ (change_course method.Copy s.map from headers ≡ Err fault.PreconditionFailed)
  copy_stops s who from e is (inl h) = inl (copy_kept s who from e is h)
  copy_stops s who from e is (inr h) = inr (h.1 ∙ ap Err is)

  -- and so is a MOVE
  pub move_stops : (s : State) (who : Caller) (from : Path) (e : Fault) → e ≡ fault.PreconditionFailed → FailsToMove site prefix headers s who from e
      → (overwrites headers ≡ Some false) ⊎ (change_course method.Move s.map from headers ≡ Err fault.PreconditionFailed)
  move_stops s who from e is (inl h) = inl (move_kept s who from e is h)
  move_stops s who from e is (inr h) = inr (h.1 ∙ ap Err is)
