use Rattle.std.proofs.Common.{Err, sym, subst}
use Rattle.dav_path_core.specs.Segments.{segments}
use Rattle.store_changes.specs.declared.adding.Unimported.{Unimported}
use Rattle.store_changes.specs.FoundEntries.{CameOf}
use Rattle.store_changes.specs.ImportedEntries.{moment_behind, source_of}
use Rattle.store_changes.proofs.FoundEntryLemmas.{adds_at, came_not}
use Rattle.store_changes.proofs.importing.Importer.add.Goals as goal

pub returns-in-Ok-clause-came : goal.returns-in-Ok-clause-came
returns-in-Ok-clause-came c =
    adds_at (segments c.args.found.now.path.bytes) c.args.self.now.added.opened c.add.new.self.opened c.in_ok-clock.clock.0 (source_of c.in_ok-entry.entry) _ c.in_ok-entry.ensures c.in-Ok.ensures.added

pub returns-clause-came : goal.returns-clause-came
returns-clause-came c =
    let path = segments c.args.found.now.path.bytes in
    let old = c.args.self.now.added.opened in
    let came = came_not path old c.add.new.self.opened (moment_behind old.last.0 c.in_ok-clock.clock.0) (source_of c.in_ok-entry.entry) c.in-Err.why c.in_ok-entry.ensures c.in-Err.ensures.cause in
    subst (λ (why : Unimported). CameOf path old (Err why) c.add.new.self.opened) (sym c.in_ok-refusal_of-in-Err.ensures.0) came

pub returns-clause-goes_on : goal.returns-clause-goes_on
returns-clause-goes_on c = c.in-Err.ensures.left c.in_ok-refusal_of-in-Err.ensures.1
