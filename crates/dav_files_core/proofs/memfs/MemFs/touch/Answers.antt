use Rattle.std.proofs.Common.{sym}
use Rattle.dav_files_core.specs.Outcomes.{with_modified_time}
use Rattle.dav_files_core.proofs.changes.SettingLemmas.{touched_stands}
use Rattle.dav_files_core.proofs.changes.LeftLemmas.{stands_for, stands_itself, is_view, lost}
use Rattle.dav_files_core.proofs.memfs.MemFs.touch.Goals as goal

pub unreachable-requires : goal.unreachable-requires
unreachable-requires c =
    let h = c.requires in
    lost c.self.inside.tree.keyed c.args.self.now (stands_for _ _ c.self.view_is c.self.invariant) h.0 h.1 h.2 c.args.id h.3 c.in-Err.ensures.set.1

pub invariant_of-self : goal.invariant_of-self
invariant_of-self c =
    let h = c.requires in
    record {
      represents =
          stands_itself c.set_modified.new.tree.keyed (with_modified_time c.args.self.now h.0 c.args.now.0)
          (touched_stands c.self.inside.tree.keyed c.args.self.now (stands_for _ _ c.self.view_is c.self.invariant) h.0 h.1 h.2 c.args.id h.3 c.args.now.0 c.set_modified.new.tree.keyed c.in-Ok.ensures.set);
      indexed = c.set_modified.ensures.indexed c.self.inside.index c.self.invariant.indexed;
    }

pub returns-clause-change : goal.returns-clause-change
returns-clause-change c = λ p r here number.
    sym (is_view c.set_modified.new.tree.keyed (with_modified_time c.args.self.now p c.args.now.0)
    (touched_stands c.self.inside.tree.keyed c.args.self.now (stands_for _ _ c.self.view_is c.self.invariant) p r here c.args.id number c.args.now.0 c.set_modified.new.tree.keyed c.in-Ok.ensures.set))

pub returns-clause-shape : goal.returns-clause-shape
returns-clause-shape c = (invariant_of-self c).represents.is_map
