-- What a contract sees of `Guarded`: its stores.
use Rattle.std.specs.Prelude.{ℕ, List, [], refl}
use Rattle.std.specs.Coded.{Coded, code_by, coded×, coded_list}
use Rattle.rand_core.specs.Stream.{Stream}
use Rattle.dav_files_core.specs.Resources.{ResourceMap}
use Rattle.dav_files_core.specs.Outcomes.{start}
use Rattle.dav_files_core.specs.ResourceCodes.{coded_resources}
use Rattle.dav_locks_core.specs.Lock.{Lock}
use Rattle.dav_locks_core.specs.LockCodes.{coded_lock}
use Rattle.dav_guarded_core.specs.Step.{State}

pub record Stores : Type 0 where
  pub map : ResourceMap
  pub locks : List Lock

abbrev pub coded_stores : Coded Stores
coded_stores = code_by (ResourceMap × List Lock) (coded× coded_resources (coded_list coded_lock)) (λ s. (s.map, s.locks)) (λ t. record { map = t.0; locks = t.1 }) (λ _. refl)

-- the stores of a new `Guarded`: a root folder alone, and no lock
abbrev pub start_stores : ℕ → Stores
start_stores now = record { map = start now; locks = [] }

-- the stores and what the generator still gives, as the state of a run
abbrev pub state_of : Stores → Stream → State
state_of stores rng = record { map = stores.map; locks = stores.locks; rng = rng }
