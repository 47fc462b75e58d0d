-- Entries that are added one after another, and the records that are kept of them (own).
use Rattle.std.specs.Prelude.{ℕ, List, ◌++◌}
use Rattle.std.specs.List.{flat_map}
use Rattle.dav_guarded_core.specs.Stores.{Stores}
use Rattle.dav_notes_core.specs.Noting.{Noted}
use Rattle.dav_notes_core.specs.PlayedNotes.{NotesLead}
use Rattle.dav_store_core.specs.StandingFor.{AreRecords}

-- Since the stores were such, at that moment, these records were made of entries, and the round carries those that come behind them; all lead to the stores as they are.
pub record IsImporting (base : Stores) (from : ℕ) (made : List (List ℕ)) (carries : List (List ℕ) → Type 0) (s : Stores) (last : ℕ) : Type 0 where
  pub requests : List (List Noted)
  pub waiting : List (List ℕ)
  pub are : AreRecords requests (made ++ waiting)
  pub carried : carries waiting
  pub leads : NotesLead from base (flat_map (λ ns. ns) requests) last s
