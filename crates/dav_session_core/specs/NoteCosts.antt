-- What the notes of several requests of a caller's cost.
use Rattle.std.specs.Prelude.{ℕ, List}
use Rattle.std.specs.List.{sum_by}
use Rattle.dav_path_core.specs.Fronts.{Path}
use Rattle.dav_guarded_core.specs.Requests.{Command}
use Rattle.dav_notes_core.specs.Asking.{Caller}
use Rattle.dav_notes_core.specs.Costs.{cost_for}

-- of taking places away
abbrev pub removal_cost : Caller → List Path → ℕ
removal_cost who places = sum_by (λ p. cost_for who (Command.Remove p)) places

-- of copies, each from one place to another
abbrev pub copies_cost : Caller → List (Path × Path) → ℕ
copies_cost who ends = sum_by (λ e. cost_for who (Command.Copy e.0 e.1)) ends
