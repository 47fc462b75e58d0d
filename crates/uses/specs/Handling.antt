-- A move or a copy onto its own place (RFC 4918 sections 9.8.5 and 9.9.4), which a handler refuses before any lock is asked.
use Rattle.std.specs.Prelude.{Bool, false}
use Rattle.dav_path_core.specs.Trimmed.{is_equal}
use Rattle.dav_guarded_core.specs.declared.guarded.requests.Command.{Command}
use Rattle.dav_guarded_core.specs.declared.guarded.requests.Command.TheVariants.{Move, Copy}

abbrev pub is_onto_itself : Command → Bool
is_onto_itself (Move from to) = is_equal from to
is_onto_itself (Copy from to) = is_equal from to
is_onto_itself _ = false
