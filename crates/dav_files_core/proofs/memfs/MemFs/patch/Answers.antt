use Rattle.std.proofs.Common.{map}
use Rattle.dav_files_core.specs.Properties.{patch_answer, patch_update, patch_answers, patched_properties}
use Rattle.dav_files_core.proofs.changes.LeftLemmas.{stands_for}
use Rattle.dav_files_core.proofs.changes.SettingLemmas.{patched_stands}
use Rattle.dav_files_core.proofs.changes.TriedLemmas.{is_there, tried_left, tried_answer}
use Rattle.dav_files_core.proofs.memfs.MemFs.patch.Goals as goal

pub patch_props-requires : goal.patch_props-requires
patch_props-requires c = is_there c.self.inside.tree.keyed c.args.self.now (stands_for _ _ c.self.view_is c.self.invariant) c.args.id c.requires

pub invariant_of-self : goal.invariant_of-self
invariant_of-self c =
    let rep = stands_for _ _ c.self.view_is c.self.invariant in
    let patch = map patch_update c.args.patch.items in
    record {
      represents =
          tried_left c.self.inside.tree.keyed c.args.self.now rep c.args.id (λ n. record n { props = patched_properties n.props patch })
          (λ p r here number. patched_stands c.self.inside.tree.keyed c.args.self.now rep p r here c.args.id number patch)
          c.requires c.patch_props.result c.patch_props.new.tree.keyed c.patch_props.ensures.ok c.patch_props.ensures.err;
      indexed = c.patch_props.ensures.indexed c.self.inside.index c.self.invariant.indexed;
    }

pub returns-clause-answer : goal.returns-clause-answer
returns-clause-answer c =
    let rep = stands_for _ _ c.self.view_is c.self.invariant in
    let patch = map patch_update c.args.patch.items in
    tried_answer c.self.inside.tree.keyed c.args.self.now rep c.args.id (λ n. record n { props = patched_properties n.props patch })
    (λ p r here number. patched_stands c.self.inside.tree.keyed c.args.self.now rep p r here c.args.id number patch)
    (λ v. map patch_answer v.items) (patch_answers patch) c.patch_props.result c.patch_props.new.tree.keyed c.patch_props.ensures.ok c.patch_props.ensures.err c.patch_props.ensures.answer

pub returns-clause-shape : goal.returns-clause-shape
returns-clause-shape c = (invariant_of-self c).represents.is_map
