use Rattle.std.proofs.Common.{◌++◌, take, ap, ◌∙◌, sym, subst, arith}
use Rattle.std.specs.Str.{IsUtf8}
use Rattle.dav_path_core.specs.Segments.{segments}
use Rattle.dav_path_core.specs.PathText.{folder_bytes}
use Rattle.dav_path_core.proofs.paths.ParentLemmas.{parent_parts, segments-parent}
use Rattle.dav_path_core.proofs.paths.ReadableLemmas.{readable-parent}
use Rattle.dav_path_core.proofs.davpath.DavPath.parent.Goals as goal

pub invariant_of-result : goal.invariant_of-result
invariant_of-result c =
    let p = parent_parts c.self.inside.fullpath.items c.in_ok-fullpath.fullpath.items c.self.inside.prefix_length c.saturating_sub-above.result (segments c.args.self.now.bytes) c.self.invariant.0
    (c.in_ok-fullpath.ensures ∙ ap (λ w. take c.self.inside.prefix_length w ++ folder_bytes (take c.saturating_sub-above.result (segments c.segments.result))) c.deref.ensures.value
    ∙ ap (λ b. take c.self.inside.prefix_length c.self.inside.fullpath.items ++ folder_bytes (take c.saturating_sub-above.result (segments b))) c.segments.ensures.value)
    (omega (arith, c.saturating_sub-above.ensures, c.depth.ensures)) in
    (p.room, subst IsUtf8 (sym p.front) c.self.invariant.1)

pub returns-clause-ok : goal.returns-clause-ok
returns-clause-ok c =
    let p = parent_parts c.self.inside.fullpath.items c.in_ok-fullpath.fullpath.items c.self.inside.prefix_length c.saturating_sub-above.result (segments c.args.self.now.bytes) c.self.invariant.0
    (c.in_ok-fullpath.ensures ∙ ap (λ w. take c.self.inside.prefix_length w ++ folder_bytes (take c.saturating_sub-above.result (segments c.segments.result))) c.deref.ensures.value
    ∙ ap (λ b. take c.self.inside.prefix_length c.self.inside.fullpath.items ++ folder_bytes (take c.saturating_sub-above.result (segments b))) c.segments.ensures.value)
    (omega (arith, c.saturating_sub-above.ensures, c.depth.ensures)) in
    (p.front ∙ ap (λ v. v.prefix) c.self.view_is, p.back)

pub returns-clause-above : goal.returns-clause-above
returns-clause-above c = ap segments (returns-clause-ok c).1 ∙ segments-parent c.args.self.now.bytes

pub returns-clause-readable : goal.returns-clause-readable
returns-clause-readable c = readable-parent c.args.self.now.bytes _ (returns-clause-ok c).1
