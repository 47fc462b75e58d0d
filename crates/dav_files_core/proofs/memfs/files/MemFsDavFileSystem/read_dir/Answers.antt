use Rattle.std.proofs.Common.{◌≡◌, true, false, ap, ◌∙◌}
use Rattle.dav_path_core.specs.Segments.{segments}
use Rattle.dav_files_core.specs.Resources.{Node}
use Rattle.dav_files_core.proofs.listings.DescribingLemmas.{members_known, listing_answer}
use Rattle.dav_files_core.proofs.changes.PuttingLemmas.{found_number}
use Rattle.dav_files_core.proofs.walks.StepLemmas.{not_file}
use Rattle.dav_files_core.proofs.memfs.files.MemFsDavFileSystem.read_dir.Goals as goal

not_true : ¬ (false ≡ true)
not_true e = cc

pub described-requires : goal.described-requires
described-requires c =
    let names = segments c.args.path.now.bytes in
    let here = found_number c.args.self.now names c.in_ok-id.id c.in_ok-id.ensures.found in
    members_known c.args.self.now names c.in_ok-members.members.items (c.in_ok-members.ensures names here.0 here.1 here.2)

pub returns-clause-answer : goal.returns-clause-answer
returns-clause-answer c =
    let names = segments c.args.path.now.bytes in
    let here = found_number c.args.self.now names c.in_ok-id.id c.in_ok-id.ensures.found in
    let node = c.node_at.ensures names here.0 here.1 here.2 in
    listing_answer c.args.self.now names here.0 here.1 (not_file here.0.node.kind (λ file. not_true (c.if-is_file.ensures.1 (ap (λ (n : Node). n.kind) node ∙ file))))
    c.in_ok-members.members.items (c.in_ok-members.ensures names here.0 here.1 here.2) c.described.result c.described.ensures
