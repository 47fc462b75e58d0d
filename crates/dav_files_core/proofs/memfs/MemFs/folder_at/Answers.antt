use Rattle.dav_path_core.specs.Fronts.{parent}
use Rattle.dav_path_core.specs.Segments.{segments}
use Rattle.dav_files_core.proofs.walks.LeadLemmas.{entry, missing}
use Rattle.dav_files_core.proofs.moves.RenamedLemmas.{finds_folder}
use Rattle.dav_files_core.proofs.memfs.MemFs.folder_at.Goals as goal

pub folder_of-requires : goal.folder_of-requires
folder_of-requires c =
    let names = segments c.args.path.now.bytes in
    let here = entry c.args.self.now names c.in_ok-folder.field-0 c.in-Entry.id c.in-Entry.is c.in_ok-folder.ensures.found in
    (names, here.0, here.1, here.2)

pub returns-in-Missing : goal.returns-in-Missing
returns-in-Missing c =
    let names = segments c.args.path.now.bytes in
    let here = missing c.args.self.now names c.in_ok-folder.field-0 c.in-Missing.folder _ c.in-Missing.is c.in_ok-folder.ensures.found in
    (parent names, c.in-Missing.name.now, here.2.0, here.1, here.2.1, here.2.2)

pub returns-in-Entry : goal.returns-in-Entry
returns-in-Entry c =
    let names = segments c.args.path.now.bytes in
    let here = entry c.args.self.now names c.in_ok-folder.field-0 c.in-Entry.id c.in-Entry.is c.in_ok-folder.ensures.found in
    finds_folder c.args.self.now c.in_ok-folder.ensures.shape names here.0 here.1 c.folder_of.result (c.folder_of.ensures names here.0 here.1 here.2)
