-- Labels as they are kept: of each token the smallest number (own).
use Rattle.std.specs.Prelude.{◌≡◌, ℕ, List, Option}
use Rattle.std.specs.Coded.{Coded, coded_ℕ, coded_list}
use Rattle.dav_resource_core.specs.Labels.{smallest_label}

abbrev pub coded_tokens : Coded (List (List ℕ))
coded_tokens = coded_list (coded_list coded_ℕ)

-- a look-up finds, of each token that a lock was granted with, the smallest number of such a lock, and nothing else
abbrev pub AreSmallest : List (List ℕ) → (List ℕ → Option ℕ) → Type 0
AreSmallest tokens kept = (token : List ℕ) → kept token ≡ smallest_label tokens token
