use Rattle.std.proofs.Common.{◌≡◌, Result, Ok, Err, IfOk, refl}
use Rattle.dav_files_core.specs.OpenFiles.{overwritten_at}
use Rattle.dav_files_core.proofs.changes.LeftLemmas.{stands_for}
use Rattle.dav_files_core.proofs.changes.SettingLemmas.{overwritten_stands}
use Rattle.dav_files_core.proofs.changes.TriedLemmas.{is_there, tried_left, tried_answer}
use Rattle.dav_files_core.proofs.memfs.MemFs.overwrite.Goals as goal

pub overwrite-requires-clause-known : goal.overwrite-requires-clause-known
overwrite-requires-clause-known g c =
    let h = c.requires.file in is_there c.self.inside.tree.keyed c.args.self.now (stands_for _ _ c.self.view_is c.self.invariant) c.args.id (h.0, h.1, h.2, h.3)

pub invariant_of-self : goal.invariant_of-self
invariant_of-self g c =
    let rep = stands_for _ _ c.self.view_is c.self.invariant in
    let h = c.requires.file in
    let unread = g.B.Buf.unread c.args.buf.now in
    record {
      represents =
          tried_left c.self.inside.tree.keyed c.args.self.now rep c.args.id (λ n. record n { bytes = overwritten_at n.bytes c.args.start unread })
          (λ p r here number. overwritten_stands c.self.inside.tree.keyed c.args.self.now rep c.args.id h p r here number c.args.start unread)
          (h.0, h.1, h.2, h.3) c.overwrite.result c.overwrite.new.tree.keyed c.overwrite.ensures.ok c.overwrite.ensures.err;
      indexed = c.overwrite.ensures.indexed c.self.inside.index c.self.invariant.indexed;
    }

pub returns-clause-answer : goal.returns-clause-answer
returns-clause-answer g c =
    let rep = stands_for _ _ c.self.view_is c.self.invariant in
    let unread = g.B.Buf.unread c.args.buf.now in
    tried_answer c.self.inside.tree.keyed c.args.self.now rep c.args.id (λ n. record n { bytes = overwritten_at n.bytes c.args.start unread })
    (λ p r here number. overwritten_stands c.self.inside.tree.keyed c.args.self.now rep c.args.id c.requires.file p r here number c.args.start unread)
    (λ x. x) tt c.overwrite.result c.overwrite.new.tree.keyed c.overwrite.ensures.ok c.overwrite.ensures.err (done c.overwrite.result)
  where
    done : {E : Type 0} (r : Result (Unit {0}) E) → IfOk r (λ x. x ≡ tt)
    done (Ok x) = refl
    done (Err e) = tt

pub returns-clause-shape : goal.returns-clause-shape
returns-clause-shape g c = (invariant_of-self g c).represents.is_map
