-- Requests and what they are answered: plain data, without where it lies in memory.
use Rattle.std.specs.Prelude.{ℕ, List as Sequence, Bool, Option, Result}
use Rattle.dav_path_core.specs.declared.errors.FsError.{FsError}
use Rattle.dav_path_core.specs.PathText.{PathText}
use Rattle.dav_path_core.specs.Fronts.{Segment, Path}
use Rattle.dav_files_core.specs.Meta.{Meta as Known}
use Rattle.dav_files_core.specs.Resources.{Property}
use Rattle.dav_locks_core.specs.Lock.{Lock as LockRecord}

-- what is asked for; a lock keeps its path's text
pub data Command : Type 0 where
  Put : (path : Path) (bytes : Sequence ℕ) → Command
  Write : (path : Path) (at : Option ℕ) (bytes : Sequence ℕ) → Command
  Read : (path : Path) (at count : ℕ) → Command
  List : (path : Path) → Command
  Meta : (path : Path) → Command
  MkCol : (path : Path) → Command
  Remove : (path : Path) → Command
  Move : (from to : Path) → Command
  Copy : (from to : Path) → Command
  PatchProps : (path : Path) (patch : Sequence (Bool × Property)) → Command
  GetProps : (path : Path) (content : Bool) → Command
  GetProp : (path : Path) (wanted : Property) → Command
  Lock : (path : PathText) (owner : Option (Sequence ℕ)) (timeout : Option ℕ) (shared deep : Bool) → Command
  Unlock : (path : Path) (token : Sequence ℕ) → Command
  Refresh : (path : Path) (token : Sequence ℕ) (timeout : Option ℕ) → Command
  Discover : (path : Path) → Command
  Check : (path : Path) (deep : Bool) → Command

-- who asks, the tokens that are submitted, when, and what for
pub record Request : Type 0 where
  pub principal : Option (Sequence ℕ)
  pub tokens : Sequence (Sequence ℕ)
  pub now : ℕ
  pub command : Command

pub data Reply : Type 0 where
  Done : Reply
  Bytes : Sequence ℕ → Reply
  Entries : Sequence (Segment × Known) → Reply
  Meta : Known → Reply
  Patched : Sequence (ℕ × Property) → Reply
  Props : Sequence Property → Reply
  Value : Sequence ℕ → Reply
  Granted : LockRecord → Reply
  Locks : Sequence LockRecord → Reply

pub data Refusal : Type 0 where
  Fs : FsError → Refusal
  Locked : LockRecord → Refusal
  NoLock : Refusal
  OutOfMemory : Refusal

abbrev pub Answer : Type 0
Answer = Result Reply Refusal
