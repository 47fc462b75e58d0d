-- What comes of it that a store is to stand at a path (own).
use Rattle.std.specs.Prelude.{◌≡◌, ℕ, Option, None, Some, Result, Ok, IfOk}
use Rattle.store_files.specs.declared.error.Uncompacted.{Uncompacted}
use Rattle.store_files.specs.declared.making.Standing.{Standing}
use Rattle.store_files.specs.declared.making.Standing.TheVariants as standing
use Rattle.store_files.specs.declared.making.Stood.{Stood}
use Rattle.store_files.specs.declared.making.Stood.TheVariants as stood

-- a store stands there that may be opened, or what is refused then
abbrev pub MayBeOpened : Stood → Type 0
MayBeOpened stood.There = Unit {0}
MayBeOpened (stood.Made naming) = Unit {0}
MayBeOpened _ = ⊥

-- one was made, or something stood in the way of that
abbrev pub IsOfMaking : Stood → Type 0
IsOfMaking (stood.Made naming) = Unit {0}
IsOfMaking (stood.Taken path) = Unit {0}
IsOfMaking _ = ⊥

-- what stands at the path is told; where nothing does one is made, if a moment is given at which it begins
abbrev pub ComesOf : Standing → Option ℕ → Result Stood Uncompacted → Type 0
ComesOf standing.File _ r = r ≡ Ok stood.There
ComesOf standing.Empty _ r = r ≡ Ok stood.Empty
ComesOf standing.Nothing None r = r ≡ Ok stood.Missing
ComesOf standing.Nothing (Some began) r = IfOk r IsOfMaking
