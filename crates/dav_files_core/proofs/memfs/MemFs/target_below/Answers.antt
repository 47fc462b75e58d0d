use Rattle.std.proofs.Common.{◌≡◌, true, false, sym, ap, ◌∙◌, refl}
use Rattle.dav_files_core.specs.Resources.{Node}
use Rattle.dav_files_core.proofs.walks.StepLemmas.{below_file, below_folder, at_member}
use Rattle.dav_files_core.proofs.changes.LeftLemmas.{stands_for, lost}
use Rattle.dav_files_core.proofs.memfs.MemFs.target_below.Goals as goal

not_true : ¬ (false ≡ true)
not_true e = cc

pub returns-in_err-node_of : goal.returns-in_err-node_of
returns-in_err-node_of c = λ path r here number.
    let rep = stands_for _ _ c.self.view_is c.self.invariant in
    absurd (lost c.self.inside.tree.keyed c.args.self.now rep path r here c.args.id number c.in_err-node_of.ensures.err.1)

pub returns-then-is_file : goal.returns-then-is_file
returns-then-is_file c = λ path r here number.
    let rep = stands_for _ _ c.self.view_is c.self.invariant in
    let n = c.in_ok-node_of.ensures.ok in
    below_file c.self.inside.tree.keyed c.args.self.now rep path r here c.args.id number c.args.name.now n.0 n.1 (ap (λ (n : Node). n.kind) n.2 ∙ c.if-is_file.ensures.0 refl)

pub returns-in-Ok : goal.returns-in-Ok
returns-in-Ok c = λ path r here number.
    let rep = stands_for _ _ c.self.view_is c.self.invariant in
    at_member c.self.inside.tree.keyed c.args.self.now rep path r here c.args.id number c.args.name.now c.in-Ok.member c.in-Ok.ensures

pub returns-in-Err : goal.returns-in-Err
returns-in-Err c = λ path r here number.
    let rep = stands_for _ _ c.self.view_is c.self.invariant in
    let n = c.in_ok-node_of.ensures.ok in
    below_folder c.self.inside.tree.keyed c.args.self.now rep path r here c.args.id number c.args.name.now n.0 n.1
    (λ file. not_true (c.if-is_file.ensures.1 (ap (λ (n : Node). n.kind) (sym n.2) ∙ file))) c.in-Err.ensures.1
