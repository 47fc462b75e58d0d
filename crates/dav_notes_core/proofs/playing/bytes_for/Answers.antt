use Rattle.std.proofs.Common.{ℕ, List, Option, sym, subst}
use Rattle.dav_guarded_core.specs.Served.{command_of}
use Rattle.dav_notes_core.specs.Drawing.{stream_giving}
use Rattle.dav_notes_core.specs.Stepping.{Draws}
use Rattle.dav_notes_core.proofs.DrawLemmas.{draws_some}
use Rattle.dav_notes_core.proofs.playing.bytes_for.Goals as goal

pub returns-in-Some-clause-some : goal.returns-in-Some-clause-some
returns-in-Some-clause-some c =
    let command = command_of c.args.note.now.request.command in
    subst (λ (drawn : Option (List ℕ)). Draws command drawn (stream_giving c.in-Some.bytes)) (sym c.in-Some.is) (draws_some command c.in-Some.bytes)
