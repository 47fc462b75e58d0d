use Rattle.std.proofs.Common.{◌≡◌, ◌≢◌, ◌<◌, ℕ, List, [], Bool, Ok, Err, ap, subst, arith}
use Rattle.std.proofs.lemmas.Result.{err_from_is_err_and}
use Rattle.dav_path_core.specs.declared.util.Moment.{Moment}
use Rattle.journal_core.specs.declared.header.Header.{Header}
use Rattle.journal_core.specs.JournalReading.{IsReading, header_of, record_of}
use Rattle.journal_core.proofs.Opening.{read_no_more}
use Rattle.dav_snapshots_core.specs.SnapshotReading.{snapshot_at}
use Rattle.dav_store_core.proofs.SnapshotLemmas.{none_in_front, other_in_front, played_new, played_snapshot}
use Rattle.dav_store_core.proofs.opened.Opened.begin.Goals as goal

pub returns-then-header-eq0-clause-begins : goal.returns-then-header-eq0-clause-begins
returns-then-header-eq0-clause-begins g c = λ file it.
    let opened = c.in_ok-opened.opened in
    played_new (IsReading g.S.Source.is_at g.S.Source.is_honest c.args.source.now c.args.reader.now file) c.header-header.result (header_of c.args.reader.now) opened.stores opened.last.0
    c.header-header.ensures (omega (arith, c.if-header-eq0.true)) c.in_ok-opened.ensures.stores (ap (λ (m : Moment). m.0) c.in_ok-opened.ensures.last) it

pub returns-in_err-next-clause-damaged : goal.returns-in_err-next-clause-damaged
returns-in_err-next-clause-damaged g c =
    let p = err_from_is_err_and c.from_residual-in_err-next.result c.from_residual-in_err-next.ensures.1 in
    rw (p.1, p.2) (λ damage file it honest k records s last stands kept.
    read_no_more c.args.reader.now file [] c.in_err-next.field-0.0 (it.1 (c.in_err-next.ensures.honest honest)) (c.in_err-next.ensures.refused damage file [] it honest) k records stands)

pub returns-in_err-next-clause-cause : goal.returns-in_err-next-clause-cause
returns-in_err-next-clause-cause g c =
    let p = err_from_is_err_and c.from_residual-in_err-next.result c.from_residual-in_err-next.ensures.1 in rw (p.1, p.2) (λ file it. c.in_err-next.ensures.cause file [] it)

pub returns-then-not-branch-clause-damaged : goal.returns-then-not-branch-clause-damaged
returns-then-not-branch-clause-damaged g c = λ damage file it honest.
    let later : 0 < (header_of c.args.reader.now).generation = omega (arith, c.if-header-eq0.false, ap (λ (h : Header). h.generation) c.header-header.ensures) in
    none_in_front c.next.new.self file (header_of c.args.reader.now) later (c.in_ok-next.ensures.ends (ap (λ (b : Bool). Ok b) c.if-not-branch.true) file [] it honest)

pub returns-in-Ok-clause-begins : goal.returns-in-Ok-clause-begins
returns-in-Ok-clause-begins g c = λ file it.
    let opened = c.in-Ok.opened in
    let later : 0 < (header_of c.args.reader.now).generation = omega (arith, c.if-header-eq0.false, ap (λ (h : Header). h.generation) c.header-header.ensures) in
    played_snapshot (IsReading g.S.Source.is_at g.S.Source.is_honest c.next.new.source c.next.new.self file) (header_of c.args.reader.now) opened.stores opened.last.0 (record_of c.next.new.self) later
    (c.in_ok-next.ensures.reads (ap (λ (b : Bool). Ok b) c.if-not-branch.false) file [] it)
    (subst (λ (bytes : List ℕ). snapshot_at bytes ≡ Ok (opened.stores, opened.last.0)) c.record.ensures c.in-Ok.ensures.ok)

pub returns-in-Err-Damage-clause-damaged : goal.returns-in-Err-Damage-clause-damaged
returns-in-Err-Damage-clause-damaged g c = λ damage file it honest.
    let later : 0 < (header_of c.args.reader.now).generation = omega (arith, c.if-header-eq0.false, ap (λ (h : Header). h.generation) c.header-header.ensures) in
    let read = c.in_ok-next.ensures.reads (ap (λ (b : Bool). Ok b) c.if-not-branch.false) file [] it in
    other_in_front c.next.new.self file (header_of c.args.reader.now) (record_of c.next.new.self) later (read.1 honest)
    (λ t m. subst (λ (bytes : List ℕ). snapshot_at bytes ≢ Ok (t, m)) c.record.ensures (c.in-Err-Damage.ensures.damaged (ap Err c.in-Err-Damage.field-0-is) t m))
