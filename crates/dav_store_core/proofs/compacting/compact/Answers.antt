use Rattle.std.proofs.Common.{[], ◌∷◌, Err, ap, arith}
use Rattle.std.proofs.lemmas.Result.{err_from_is_err_and}
use Rattle.journal_core.specs.declared.error.JournalError.TheVariants.{TooLarge}
use Rattle.journal_core.proofs.Records.{records_size}
use Rattle.dav_store_core.proofs.CompactLemmas.{each_either, either, loaded}
use Rattle.dav_store_core.proofs.LoadLemmas.{journal_same}
use Rattle.dav_store_core.proofs.compacting.compact.Goals as goal

pub returns-in_err-append-clause-any_moment : goal.returns-in_err-append-clause-any_moment
returns-in_err-append-clause-any_moment g c = λ made kept.
    let x = c.in_ok-round.ensures.ok in
    each_either g.D.Disk.seen g.D.Disk.may_leave g.D.Disk.is_clean c.args.journal.now c.args.stores.now c.args.last.0 made kept x.0 x.1 c.args.note.now c.append.new.self
    (c.append.ensures.any_moment [] (x.0 ∷ []) made.1 x.2)

pub returns-in_err-append-clause-crash : goal.returns-in_err-append-clause-crash
returns-in_err-append-clause-crash g c = λ made kept file left.
    let x = c.in_ok-round.ensures.ok in
    either g.D.Disk.seen g.D.Disk.may_leave g.D.Disk.is_clean c.args.journal.now c.args.stores.now c.args.last.0 made kept x.0 x.1 file (c.append.ensures.crash [] (x.0 ∷ []) made.1 x.2 file left)

pub returns-in_err-append-clause-large : goal.returns-in_err-append-clause-large
returns-in_err-append-clause-large g c =
    let p = err_from_is_err_and c.from_residual-in_err-append.result c.from_residual-in_err-append.ensures.1 in
    let x = c.in_ok-round.ensures.ok in
    rw (p.1, p.2) (λ is.
    let large = c.in_err-append.ensures.large (ap Err (journal_same c.in_err-append.field-0.0 TooLarge is)) in
    (x.0, x.1, omega (arith, large.1 (x.0 ∷ []) x.2, records_size x.0 [])))

pub returns-clause-compacted : goal.returns-clause-compacted
returns-clause-compacted g c = λ made kept.
    let x = c.in_ok-round.ensures.ok in
    loaded g.D.Disk.seen g.D.Disk.may_leave g.D.Disk.is_clean c.args.journal.now c.args.stores.now c.args.last.0 made kept x.0 x.1 c.append.new.self
    (c.in_ok-append.ensures.acknowledged [] (x.0 ∷ []) made.1 x.2)

pub returns-clause-any_moment : goal.returns-clause-any_moment
returns-clause-any_moment g c = λ made kept.
    let x = c.in_ok-round.ensures.ok in
    each_either g.D.Disk.seen g.D.Disk.may_leave g.D.Disk.is_clean c.args.journal.now c.args.stores.now c.args.last.0 made kept x.0 x.1 c.args.note.now c.append.new.self
    (c.append.ensures.any_moment [] (x.0 ∷ []) made.1 x.2)

pub returns-clause-crash : goal.returns-clause-crash
returns-clause-crash g c = λ made kept file left.
    let x = c.in_ok-round.ensures.ok in
    either g.D.Disk.seen g.D.Disk.may_leave g.D.Disk.is_clean c.args.journal.now c.args.stores.now c.args.last.0 made kept x.0 x.1 file (c.append.ensures.crash [] (x.0 ∷ []) made.1 x.2 file left)
