-- Lists of locks without those whose end has come.
use Rattle.std.proofs.Common.{◌≡◌, ℕ, List, not}
use Rattle.std.proofs.lemmas.List.Elements.{filter_passes, recursion_from_All}
use Rattle.dav_path_core.proofs.lists.PlaceLemmas.{filter-all}
use Rattle.dav_locks_core.specs.Lock.{Lock}
use Rattle.dav_locks_core.specs.Stale.{is_stale, without_stale}

-- once is enough
pub stale_once : (now : ℕ) (locks : List Lock) → without_stale now (without_stale now locks) ≡ without_stale now locks
stale_once now locks = filter-all (λ l. not (is_stale now l)) (without_stale now locks) (recursion_from_All _ (without_stale now locks) (filter_passes (λ l. not (is_stale now l)) locks))
