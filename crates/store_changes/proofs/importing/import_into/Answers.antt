use Rattle.std.proofs.Common.{[]}
use Rattle.sqlite_disk.specs.Disk.{Only}
use Rattle.journal_core.specs.JournalReading.{header_of}
use Rattle.journal_core.specs.Resting.{IsBeingRead, disk_behind}
use Rattle.store_changes.proofs.KeptImportLemmas.{holds_if}
use Rattle.store_changes.proofs.importing.import_into.Goals as goal

pub returns : goal.returns
returns g c =
    let file = g.D.Disk.seen (disk_behind c.args.journal.now) in
    let reads = IsBeingRead g.D.Disk.seen g.D.Disk.is_clean c.args.journal.now c.args.reader.now [] in
    let only = Only file (g.D.Disk.may_leave (disk_behind c.args.journal.now)) in
    let opened = c.in_ok-opened.opened in
    let loaded = c.in_ok-opened.ensures in
    record {
      imported = holds_if g.D.Disk.seen g.D.Disk.may_leave g.D.Disk.is_clean c.import_from.result c.read_all.new.journal c.import_from.new.journal file (header_of c.args.reader.now) opened.stores opened.last.0
          c.over-importer.result.added c.import_from.new.importer.added reads only loaded.stands loaded.seen loaded.header c.over-importer.ensures c.import_from.ensures.clean c.import_from.ensures.imported;
    }
