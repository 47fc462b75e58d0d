-- What a set of methods is once a reference into it has ended (own).
use Rattle.std.specs.Prelude.{◌≡◌, ℕ, ⊤}
use Rattle.std.specs.Borrow.{MutBor, Fml, follows_so}
use mathlib.Core.Option.{none}
use Rattle.dav_path_core.specs.declared.util.DavMethodSet.{DavMethodSet}
use Rattle.dav_path_core.specs.contracts.util.DavMethodSet.{the_row}
use Rattle.dav_path_core.specs.MethodSets.{bits}

-- it has these bits
abbrev pub EndsAs : MutBor DavMethodSet → ℕ → Fml
EndsAs set last_bits = follows_so the_row the_row set.ghost_name none (λ _ _. ⊤) (λ last. bits last ≡ last_bits)
