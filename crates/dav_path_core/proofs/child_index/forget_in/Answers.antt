use Rattle.std.proofs.Common.{sym, ap, ◌∙◌}
use Rattle.std.specs.FinMap.{insert}
use Rattle.dav_path_core.specs.ChildIndex.{forgotten_at}
use Rattle.dav_path_core.specs.Private.ChildNames.{index_of}
use Rattle.dav_path_core.proofs.index.IndexMaps.{get-index, index-written}
use Rattle.dav_path_core.proofs.child_index.forget_in.Goals as goal

pub returns-in-Some : goal.returns-in-Some
returns-in-Some c =
    let ix = index_of c.args.folders.now.entries in
    index-written c.args.folders.now (c.get_mut.follows.lender c.take_out.new.self) c.args.folder c.in-Some.names.now c.take_out.new.self c.in-Some.ensures.value (c.get_mut.follows.holds c.take_out.new.self)
    ∙ ap (insert ix c.args.folder) c.take_out.ensures
    ∙ ap (forgotten_at ix c.args.folder c.args.name.now) (c.in-Some.ensures.value ∙ sym (get-index c.args.folders.now.entries c.args.folder))

pub returns-in-None : goal.returns-in-None
returns-in-None c =
    let ix = index_of c.args.folders.now.entries in
    ap (λ m. index_of m.entries) c.get_mut.follows.holds-at-none
    ∙ ap (forgotten_at ix c.args.folder c.args.name.now) (c.in-None.ensures.value ∙ sym (get-index c.args.folders.now.entries c.args.folder))
