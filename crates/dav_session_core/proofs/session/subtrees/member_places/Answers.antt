use Rattle.std.proofs.Common.{arith, subst}
use Rattle.std.proofs.lemmas.Grind.{common_steps}
use Rattle.std.proofs.lemmas.List.Elements.{All-more}
use Rattle.dav_path_core.specs.PathReading.{CanBeSegment}
use Rattle.dav_files_core.specs.declared.memfs.listing.MemFsEntry.{MemFsEntry}
use Rattle.dav_session_core.proofs.session.subtrees.member_places.Goals as goal

pub loop-entry-preserved : goal.loop-entry-preserved
loop-entry-preserved c = record {
  told = grind (arith, common_steps);
  kinds = grind (arith, common_steps);
  plain =
      let named : CanBeSegment c.entry-item.result.name = subst CanBeSegment c.name.ensures c.in_ok-child.ensures.only in
      All-more (λ (e : MemFsEntry). CanBeSegment e.name) c.args.entries.now c.loop-entry.entry-index
      c.entry-item.result c.loop-entry-test.true c.loop-entry.invariant.plain
      (subst (λ (e : MemFsEntry). CanBeSegment e.name) c.entry-item.is named);
}
