use Rattle.std.proofs.Common.{sym, ap, ◌∙◌}
use Rattle.std.specs.FinMap.{insert}
use Rattle.dav_path_core.specs.ChildIndex.{noted_at}
use Rattle.dav_path_core.specs.Private.ChildNames.{index_of}
use Rattle.dav_path_core.proofs.index.IndexMaps.{get-index, index-written}
use Rattle.std.specs.Cmp.{nat_cmp_total}
use Rattle.std.specs.FinMap.{nat_cmp-IsAntisymmetric}
use Rattle.dav_path_core.proofs.lists.FinMaps.{insert_same}
use Rattle.dav_path_core.proofs.child_index.note_in.Goals as goal

pub returns-in-Some-clause-added : goal.returns-in-Some-clause-added
returns-in-Some-clause-added c = λ is.
    let ix = index_of c.args.folders.now.entries in
    index-written c.args.folders.now (c.get_mut.follows.lender c.add.new.self) c.args.folder c.in-Some.names.now c.add.new.self c.in-Some.ensures.value (c.get_mut.follows.holds c.add.new.self)
    ∙ ap (insert ix c.args.folder) (c.add.ensures.added is)
    ∙ ap (noted_at ix c.args.folder c.args.name.now c.args.id) (c.in-Some.ensures.value ∙ sym (get-index c.args.folders.now.entries c.args.folder))

pub returns-in-None-clause-added : goal.returns-in-None-clause-added
returns-in-None-clause-added c = λ is.
    let ix = index_of c.args.folders.now.entries in
    ap (λ m. index_of m.entries) c.get_mut.follows.holds-at-none
    ∙ ap (noted_at ix c.args.folder c.args.name.now c.args.id) (c.in-None.ensures.value ∙ sym (get-index c.args.folders.now.entries c.args.folder))

pub returns-in-Some-clause-left : goal.returns-in-Some-clause-left
returns-in-Some-clause-left c = λ is.
    let ix = index_of c.args.folders.now.entries in
    index-written c.args.folders.now (c.get_mut.follows.lender c.add.new.self) c.args.folder c.in-Some.names.now c.add.new.self c.in-Some.ensures.value (c.get_mut.follows.holds c.add.new.self)
    ∙ ap (insert ix c.args.folder) (c.add.ensures.left is)
    ∙ insert_same nat_cmp_total nat_cmp-IsAntisymmetric ix c.args.folder c.in-Some.names.now (get-index c.args.folders.now.entries c.args.folder ∙ sym c.in-Some.ensures.value)
