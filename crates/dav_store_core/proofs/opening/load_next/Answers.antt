use Rattle.std.proofs.Common.{◌∙◌, ℕ, List, Bool, Ok, Err, ap, sym, subst}
use Rattle.std.proofs.lemmas.Result.{err_from_is_err_and}
use Rattle.journal_core.specs.declared.error.JournalError.TheVariants.{TooLarge}
use Rattle.journal_core.specs.JournalReading.{record_of}
use Rattle.journal_core.specs.Resting.{IsBeingRead}
use Rattle.dav_store_core.specs.Loading.{StandsForNone}
use Rattle.dav_store_core.specs.StandingFor.{Keeps}
use Rattle.dav_store_core.proofs.LoadLemmas.{journal_same, loads_not, played_more, stops_there}
use Rattle.dav_store_core.proofs.opening.load_next.Goals as goal

pub returns-in_err-read-clause-damaged : goal.returns-in_err-read-clause-damaged
returns-in_err-read-clause-damaged g c =
    let p = err_from_is_err_and c.from_residual.result c.from_residual.ensures.1 in
    rw (p.1, p.2) (λ damage h it clean g records s last stands kept. c.in_err-read.ensures.refused damage it.records it.read clean g records stands)

pub returns-in_err-read-clause-cause : goal.returns-in_err-read-clause-cause
returns-in_err-read-clause-cause g c =
    let p = err_from_is_err_and c.from_residual.result c.from_residual.ensures.1 in rw (p.1, p.2) (λ h it. c.in_err-read.ensures.cause it.records it.read)

pub returns-in_err-read-clause-large : goal.returns-in_err-read-clause-large
returns-in_err-read-clause-large g c =
    let p = err_from_is_err_and c.from_residual.result c.from_residual.ensures.1 in
    rw (p.1, p.2) (λ is h it clean. c.in_err-read.ensures.large (ap Err (journal_same c.in_err-read.field-0.0 TooLarge is)) it.records it.read clean)

pub returns-in-Ok-clause-on : goal.returns-in-Ok-clause-on
returns-in-Ok-clause-on g c = λ ok h it.
    let old = c.args.opened.now in
    let new = c.take_record.new.opened in
    played_more (IsBeingRead g.D.Disk.seen g.D.Disk.is_clean c.args.journal.now c.args.reader.now) (IsBeingRead g.D.Disk.seen g.D.Disk.is_clean c.read.new.self c.read.new.reader) h
    c.args.number old.stores new.stores old.last.0 new.last.0 (record_of c.read.new.reader) it (c.in_ok-read.ensures.reads (ap (λ (b : Bool). Ok b) c.if-not-branch.false) it.records it.read)
    (subst (λ (bytes : List ℕ). Keeps old.stores old.last.0 bytes new.stores new.last.0) c.record.ensures c.in-Ok.ensures.ok)

pub returns-in-Err-Damage-clause-cause : goal.returns-in-Err-Damage-clause-cause
returns-in-Err-Damage-clause-cause g c = λ h it.
    let old = c.args.opened.now in
    stops_there (IsBeingRead g.D.Disk.seen g.D.Disk.is_clean c.args.journal.now c.args.reader.now) (IsBeingRead g.D.Disk.seen g.D.Disk.is_clean c.read.new.self c.read.new.reader) h
    c.args.number old.stores old.last.0 (record_of c.read.new.reader) it (c.in_ok-read.ensures.reads (ap (λ (b : Bool). Ok b) c.if-not-branch.false) it.records it.read)
    (λ s last. subst (λ (bytes : List ℕ). ¬ (Keeps old.stores old.last.0 bytes s last)) c.record.ensures (c.in-Err-Damage.ensures.damaged (ap Err c.in-Err-Damage.field-0-is) s last))

pub returns-in-Err-Damage-clause-damaged : goal.returns-in-Err-Damage-clause-damaged
returns-in-Err-Damage-clause-damaged g c = λ damage h it clean.
    let stops = returns-in-Err-Damage-clause-cause g c h it in
    let file = stops.read.1.0 in
    subst (StandsForNone h) (sym stops.read.1.1.0 ∙ c.read.ensures.seen) (loads_not _ c.read.new.reader h c.args.number file stops (stops.read.1.2 clean))
