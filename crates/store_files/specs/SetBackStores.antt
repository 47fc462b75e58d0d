-- A file of stores whose clock was set back (own).
use Rattle.std.specs.Prelude.{ℕ, List, Bool, IsTrue}
use Rattle.journal_core.specs.declared.header.Header.{Header}
use Rattle.journal_core.specs.declared.journal.Journal.{Journal}
use Rattle.journal_core.specs.Resting.{disk_behind}
use Rattle.dav_guarded_core.specs.Stores.{Stores}
use Rattle.dav_snapshots_core.specs.SetBack.{IsSetBack}
use Rattle.dav_store_core.specs.Loading.{IsLoaded}

-- The journal has this header and stands for these stores and this last moment with the clock set back to that moment, and all of it is on the disk; unless a read of the disk lied.
pub record IsSetBackOnDisk {D B : Type 0} (seen : D → List ℕ) (may_leave : D → List ℕ → Type 0) (is_clean : D → Bool) (j : Journal D B) (h : Header) (from : ℕ) (s : Stores) (last : ℕ) : Type 0 where
  pub stores : Stores
  pub now : ℕ
  pub back : IsSetBack from s last stores now
  pub loaded : IsTrue (is_clean (disk_behind j)) → IsLoaded seen may_leave is_clean j h stores now
