-- The locks in the way of a COPY. Private contracts alone name them.
use Rattle.std.specs.Prelude.{Bool, List, ◌++◌, map}
use Rattle.dav_path_core.specs.Fronts.{Path}
use Rattle.dav_path_core.specs.Segments.{segments}
use Rattle.dav_locks_core.specs.Lock.{Lock}
use Rattle.dav_guarded_core.specs.Checks.{Check, refusing, shallow}
use Rattle.dav_guarded_core.specs.Step.{State}
use Rattle.dav_session_core.specs.declared.session.copying.Transfer.{Transfer}
use Rattle.dav_session_core.specs.Callers.{Caller, as_caller}
use Rattle.dav_session_core.specs.Clearing.{refusing_clearing}
use Rattle.dav_methods_core.specs.Placing.{target_by}

-- what is checked before each is made
abbrev pub checks_of : List Transfer → List Check
checks_of transfers = map (λ t. shallow (segments t.to.bytes)) transfers

-- the locks that refuse to write them: to clear the target, to make it, and to make each copy
abbrev pub refusing_transfers : State → Caller → Path → Bool → List Path → List Transfer → List Lock
refusing_transfers s who to there gone transfers =
    refusing_clearing s who to gone
    ++ refusing s.locks (as_caller who) (target_by there to ++ checks_of transfers)
