use Rattle.std.proofs.Common.{ℕ, List, Bool, Ok, Err, ap, subst}
use Rattle.std.proofs.lemmas.Result.{err_from_is_err_and}
use Rattle.journal_core.specs.JournalReading.{IsReading, record_of}
use Rattle.journal_core.proofs.Opening.{read_no_more}
use Rattle.dav_store_core.specs.StandingFor.{Keeps}
use Rattle.dav_store_core.proofs.LoadLemmas.{loads_not, played_more, stops_there}
use Rattle.dav_store_core.proofs.opened.Opened.read_next.Goals as goal

pub returns-in_err-next-clause-damaged : goal.returns-in_err-next-clause-damaged
returns-in_err-next-clause-damaged g c =
    let p = err_from_is_err_and c.from_residual.result c.from_residual.ensures.1 in
    rw (p.1, p.2) (λ damage file h it honest g records s last stands kept.
    read_no_more c.args.reader.now file it.records c.in_err-next.field-0.0 (it.read.1 (c.in_err-next.ensures.honest honest)) (c.in_err-next.ensures.refused damage file it.records it.read honest) g
    records stands)

pub returns-in_err-next-clause-cause : goal.returns-in_err-next-clause-cause
returns-in_err-next-clause-cause g c =
    let p = err_from_is_err_and c.from_residual.result c.from_residual.ensures.1 in rw (p.1, p.2) (λ file h it. c.in_err-next.ensures.cause file it.records it.read)

pub returns-in-Ok-clause-on : goal.returns-in-Ok-clause-on
returns-in-Ok-clause-on g c = λ ok file h it.
    let old = c.args.self.now in
    let new = c.take_record.new.opened in
    played_more (IsReading g.S.Source.is_at g.S.Source.is_honest c.args.source.now c.args.reader.now file) (IsReading g.S.Source.is_at g.S.Source.is_honest c.next.new.source c.next.new.self file) h c.args.number
    old.stores new.stores old.last.0 new.last.0 (record_of c.next.new.self) it (c.in_ok-next.ensures.reads (ap (λ (b : Bool). Ok b) c.if-not-branch.false) file it.records it.read)
    (subst (λ (bytes : List ℕ). Keeps old.stores old.last.0 bytes new.stores new.last.0) c.record.ensures c.in-Ok.ensures.ok)

pub returns-in-Err-Damage-clause-cause : goal.returns-in-Err-Damage-clause-cause
returns-in-Err-Damage-clause-cause g c = λ file h it.
    let old = c.args.self.now in
    stops_there (IsReading g.S.Source.is_at g.S.Source.is_honest c.args.source.now c.args.reader.now file) (IsReading g.S.Source.is_at g.S.Source.is_honest c.next.new.source c.next.new.self file) h c.args.number
    old.stores old.last.0 (record_of c.next.new.self) it (c.in_ok-next.ensures.reads (ap (λ (b : Bool). Ok b) c.if-not-branch.false) file it.records it.read)
    (λ s last. subst (λ (bytes : List ℕ). ¬ (Keeps old.stores old.last.0 bytes s last)) c.record.ensures (c.in-Err-Damage.ensures.damaged (ap Err c.in-Err-Damage.field-0-is) s last))

pub returns-in-Err-Damage-clause-damaged : goal.returns-in-Err-Damage-clause-damaged
returns-in-Err-Damage-clause-damaged g c = λ damage file h it honest.
    let stops = returns-in-Err-Damage-clause-cause g c file h it in loads_not _ c.next.new.self h c.args.number file stops (stops.read.1 honest)
