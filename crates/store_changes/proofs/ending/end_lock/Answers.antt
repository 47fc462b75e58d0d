use Rattle.std.proofs.lemmas.Result.{err_from_is_err_and}
use Rattle.dav_locks_core.specs.Locks.{lock_path}
use Rattle.store_changes.specs.ImportedEntries.{moment_behind}
use Rattle.store_changes.proofs.EndedLockLemmas.{stands_then}
use Rattle.store_changes.proofs.ending.end_lock.Goals as goal

pub returns-in_err-notes-clause-answer : goal.returns-in_err-notes-clause-answer
returns-in_err-notes-clause-answer c =
    let last = c.args.opened.now.last.0 in
    let p = err_from_is_err_and c.from_residual.result c.from_residual.ensures.1 in
    rw (p.1, p.2) (stands_then last c.in-Ok.now.0 (moment_behind last c.args.clock.0) (lock_path c.in-Some.lock.now) c.args.token.now c.args.opened.now.stores.locks c.in-Ok.ensures.comes c.in-Ok.ensures.ok c.in-Some.ensures)

pub returns-in_err-pieces-clause-answer : goal.returns-in_err-pieces-clause-answer
returns-in_err-pieces-clause-answer c =
    let last = c.args.opened.now.last.0 in
    let p = err_from_is_err_and c.from_residual-in_err-pieces.result c.from_residual-in_err-pieces.ensures.1 in
    rw (p.1, p.2) (stands_then last c.in-Ok.now.0 (moment_behind last c.args.clock.0) (lock_path c.in-Some.lock.now) c.args.token.now c.args.opened.now.stores.locks c.in-Ok.ensures.comes c.in-Ok.ensures.ok c.in-Some.ensures)

pub returns-in_err-add_record-clause-answer : goal.returns-in_err-add_record-clause-answer
returns-in_err-add_record-clause-answer c =
    let last = c.args.opened.now.last.0 in
    let p = err_from_is_err_and c.from_residual-in_err-add_record.result c.from_residual-in_err-add_record.ensures.1 in
    rw (p.1, p.2) (stands_then last c.in-Ok.now.0 (moment_behind last c.args.clock.0) (lock_path c.in-Some.lock.now) c.args.token.now c.args.opened.now.stores.locks c.in-Ok.ensures.comes c.in-Ok.ensures.ok c.in-Some.ensures)

pub returns-clause-answer : goal.returns-clause-answer
returns-clause-answer c =
    let last = c.args.opened.now.last.0 in
    stands_then last c.in-Ok.now.0 (moment_behind last c.args.clock.0) (lock_path c.in-Some.lock.now) c.args.token.now c.args.opened.now.stores.locks c.in-Ok.ensures.comes c.in-Ok.ensures.ok c.in-Some.ensures
