use Rattle.std.proofs.Common.{sym, ◌∙◌, subst}
use Rattle.store_changes.specs.declared.additions.Additions.{Additions}
use Rattle.store_changes.specs.KeptImports.{ImportsOn}
use Rattle.store_changes.proofs.KeptImportLemmas.{ends_if, on_join}
use Rattle.store_changes.proofs.importing.import_all.Goals as goal

pub returns-in_default-clause-imported : goal.returns-in_default-clause-imported
returns-in_default-clause-imported g c =
    ends_if g.D.Disk.seen g.D.Disk.may_leave g.D.Disk.is_clean c.finish.result c.args.journal.now c.importing.journal c.finish.new.journal c.args.import.now.added c.importing.import.added c.finish.new.added
    c.importing.invariant.keeps c.finish.ensures.imported

pub importing-preserved : goal.importing-preserved
importing-preserved g c =
    let j = c.args.journal.now in
    let a = c.args.import.now.added in
    let now = c.import_one.new.journal in
    let on = on_join g.D.Disk.seen g.D.Disk.may_leave g.D.Disk.is_clean j c.importing.journal now a c.importing.import.added c.import_one.new.import.added c.importing.invariant.keeps c.in_ok-import_one.ensures.keeps in
    record {
      usable = c.in_ok-import_one.ensures.usable;
      keeps = subst (λ (b : Additions). ImportsOn g.D.Disk.seen g.D.Disk.may_leave g.D.Disk.is_clean j a now b) (sym c.tell_progress.ensures.added) on;
      clean = c.in_ok-import_one.ensures.clean ∙ c.importing.invariant.clean;
    }
