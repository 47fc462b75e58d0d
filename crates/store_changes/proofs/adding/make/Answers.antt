use Rattle.std.proofs.Common.{sym, subst}
use Rattle.dav_guarded_core.specs.Served.{refusal_of, reply_of, request_of}
use Rattle.dav_notes_core.proofs.LiveLemmas.{refused_live}
use Rattle.dav_notes_core.specs.Changes.{lacks_memory}
use Rattle.store_changes.specs.Adding.{LeavesAll}
use Rattle.store_changes.proofs.ImportLemmas.{leaves_for}
use Rattle.store_changes.proofs.adding.make.Goals as goal

pub returns-in-Ok-clause-played : goal.returns-in-Ok-clause-played
returns-in-Ok-clause-played c = (reply_of c.in-Ok._reply, c.in-Ok.ensures.answered c.args.note.now.drawn (c.requires _))

pub returns-in-Err-clause-left : goal.returns-in-Err-clause-left
returns-in-Err-clause-left c =
    let x = refusal_of c.in-Err.refusal in (
      subst LeavesAll (sym c.reason_of.ensures) (leaves_for (lacks_memory x) x),
      refused_live c.args.note.now.drawn c.args.stores.now c.apply_given.new.stores (request_of c.args.note.now.request) x (c.in-Err.ensures.answered c.args.note.now.drawn (c.requires _)),
    )

pub returns-in-Err-clause-cause : goal.returns-in-Err-clause-cause
returns-in-Err-clause-cause c = (refusal_of c.in-Err.refusal, c.reason_of.ensures, c.in-Err.ensures.answered c.args.note.now.drawn (c.requires _))
