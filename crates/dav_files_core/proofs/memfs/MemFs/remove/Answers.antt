use Rattle.std.proofs.Common.{Ok, sym, ap, ◌∙◌}
use Rattle.dav_path_core.specs.Fronts.{parent}
use Rattle.dav_path_core.specs.Segments.{segments}
use Rattle.dav_files_core.proofs.changes.PuttingLemmas.{found_number}
use Rattle.dav_files_core.proofs.changes.RemovingLemmas.{removed, folder_left}
use Rattle.dav_files_core.proofs.memfs.MemFs.remove.Goals as goal

pub touch-requires : goal.touch-requires
touch-requires c =
    let names = segments c.args.path.now.bytes in
    let here = found_number c.args.self.now names c.in_ok-id.id c.in_ok-id.ensures.found in
    let left = folder_left c.args.self.now names here.0 here.1 c.take_out.new.self (c.in_ok-take_out.ensures.answer names here.0 here.1 here.2) c.in-Some.folder (c.in-Some.ensures names here.0 here.1 here.2) in
    (parent names, left.0, left.1, left.2)

pub returns-clause-answer : goal.returns-clause-answer
returns-clause-answer c =
    let names = segments c.args.path.now.bytes in
    let here = found_number c.args.self.now names c.in_ok-id.id c.in_ok-id.ensures.found in
    let taken = c.in_ok-take_out.ensures.answer names here.0 here.1 here.2 in
    let left = folder_left c.args.self.now names here.0 here.1 c.take_out.new.self taken c.in-Some.folder (c.in-Some.ensures names here.0 here.1 here.2) in
    removed c.args.self.now names here.0 here.1 c.take_out.new.self taken c.args.now.0 ∙ ap (λ m. Ok (tt {0}, m)) (sym (c.touch.ensures.change (parent names) left.0 left.1 left.2))
