use Rattle.store_changes.proofs.KeptImportLemmas.{adds_if, on_same}
use Rattle.store_changes.proofs.importing.import_found.Goals as goal

pub returns-then-is_dir-clause-keeps : goal.returns-then-is_dir-clause-keeps
returns-then-is_dir-clause-keeps g c =
    let j = c.args.journal.now in
    let a = c.args.import.now.added in
    adds_if g.D.Disk.seen g.D.Disk.may_leave g.D.Disk.is_clean c.add_folder.result j j a a c.add_folder.new.self.added (on_same g.D.Disk.seen g.D.Disk.may_leave g.D.Disk.is_clean j a) c.add_folder.ensures.goes_on

pub returns-then-len-clause-keeps : goal.returns-then-len-clause-keeps
returns-then-len-clause-keeps g c =
    let j = c.args.journal.now in
    let a = c.args.import.now.added in
    adds_if g.D.Disk.seen g.D.Disk.may_leave g.D.Disk.is_clean c.add_file.result j j a a c.add_file.new.self.added (on_same g.D.Disk.seen g.D.Disk.may_leave g.D.Disk.is_clean j a) c.add_file.ensures.goes_on

pub returns-clause-keeps : goal.returns-clause-keeps
returns-clause-keeps g c =
    adds_if g.D.Disk.seen g.D.Disk.may_leave g.D.Disk.is_clean c.add_file-2.result c.args.journal.now c.append.new.journal c.args.import.now.added c.append.new.added c.add_file-2.new.self.added c.in_ok-append.ensures.keeps
    c.add_file-2.ensures.goes_on
