-- What stops the reading of a line.
use Rattle.std.specs.Prelude.{◌≡◌, Result, Err}
use Rattle.dav_users_core.specs.declared.error.LineFault.{LineFault}
use Rattle.dav_users_core.specs.declared.users.Setback.{Setback}
use Rattle.dav_users_core.specs.declared.users.Setback.TheVariants.{Memory, Fault}

-- no memory, or this fault
abbrev pub StopsLine : {T : Type 0} → Setback → Result T LineFault → Type 0
StopsLine Memory read = Unit {0}
StopsLine (Fault fault) read = read ≡ Err fault
