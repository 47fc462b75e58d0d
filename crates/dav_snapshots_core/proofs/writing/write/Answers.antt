use Rattle.std.proofs.Common.{rules, ◌≡◌, sym, subst}
use Rattle.dav_files_core.specs.Walks.{IsMapWalk}
use Rattle.dav_snapshots_core.proofs.writing.write.Goals as goal

pub head_of-requires : goal.head_of-requires
head_of-requires c =
    let same : c.deref-2.result.now ≡ c.walk.result = search rules in
    record {
      map = c.args.stores.now.map;
      shape = c.walk.ensures.shape;
      walked = subst (IsMapWalk c.args.stores.now.map) (sym same) c.walk.ensures.walk;
    }
