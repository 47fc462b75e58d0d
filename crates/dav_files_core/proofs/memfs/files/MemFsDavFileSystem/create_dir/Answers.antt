use Rattle.std.proofs.Common.{inr, Ok, refl, sym, ap, ◌∙◌}
use Rattle.dav_path_core.specs.Fronts.{parent}
use Rattle.dav_path_core.specs.Segments.{segments}
use Rattle.dav_files_core.specs.Outcomes.{with_new_entry, with_modified_time}
use Rattle.dav_files_core.specs.Resources.{Node, ResourceMap, at_path}
use Rattle.dav_files_core.proofs.walks.LeadLemmas.{entry, missing}
use Rattle.dav_files_core.proofs.changes.MakingLemmas.{made_taken, made_free, folder_stays}
use Rattle.dav_files_core.proofs.walks.LeadLemmas.{left_added}
use Rattle.dav_files_core.proofs.memfs.files.MemFsDavFileSystem.create_dir.Goals as goal

pub returns-in-Entry-clause-answer : goal.returns-in-Entry-clause-answer
returns-in-Entry-clause-answer c =
    let names = segments c.args.path.now.bytes in
    let here = entry c.args.self.now names c.in_ok-target_of.field-0 c.in-Entry.field-0 c.in-Entry.is c.in_ok-target_of.ensures.found in
    (refl, inr (made_taken c.args.self.now names c.args.now.0 c.in_ok-target_of.ensures.shape here.0 here.1))

pub touch-requires : goal.touch-requires
touch-requires c =
    let names = segments c.args.path.now.bytes in
    let here = missing c.args.self.now names c.in_ok-target_of.field-0 c.in-Missing.folder _ c.in-Missing.is c.in_ok-target_of.ensures.found in
    let left = left_added c.args.self.now names c.new_folder-node.result _ c.add_entry.new.self (c.in_ok-add_entry-in-Missing.ensures.answer names here) in
    let stays = folder_stays c.args.self.now names c.args.now.0 c.in-Missing.folder _ here c.new_folder-node.result in
    (parent names, stays.0, ap (λ m. at_path m (parent names)) left ∙ stays.1, stays.2)

pub returns-in-Missing-clause-answer : goal.returns-in-Missing-clause-answer
returns-in-Missing-clause-answer c =
    let names = segments c.args.path.now.bytes in
    let here = missing c.args.self.now names c.in_ok-target_of.field-0 c.in-Missing.folder _ c.in-Missing.is c.in_ok-target_of.ensures.found in
    let left = left_added c.args.self.now names c.new_folder-node.result _ c.add_entry.new.self (c.in_ok-add_entry-in-Missing.ensures.answer names here) in
    let stays = folder_stays c.args.self.now names c.args.now.0 c.in-Missing.folder _ here c.new_folder-node.result in
    let touch = c.touch.ensures.change (parent names) stays.0 (ap (λ m. at_path m (parent names)) left ∙ stays.1) stays.2 in
    made_free c.args.self.now names c.args.now.0 c.in-Missing.folder _ here
    ∙ ap (λ (node : Node). Ok (tt {0}, with_modified_time (with_new_entry c.args.self.now names node) (parent names) c.args.now.0)) (sym c.new_folder-node.ensures)
    ∙ ap (λ (m : ResourceMap). Ok (tt {0}, with_modified_time m (parent names) c.args.now.0)) (sym left) ∙ ap (λ (m : ResourceMap). Ok (tt {0}, m)) (sym touch)
