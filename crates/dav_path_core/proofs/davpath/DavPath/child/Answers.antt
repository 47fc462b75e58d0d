use Rattle.std.proofs.Common.{◌++◌, drop, ap, sym, ◌∙◌, append_assoc, arith}
use Rattle.std.proofs.lemmas.List.Elements.{All-from_get_or}
use Rattle.percent_encoding.proofs.PercentLemmas.{IsByte}
use Rattle.dav_path_core.specs.PathReading.{ends_in_slash}
use Rattle.dav_path_core.specs.Segments.{segments}
use Rattle.dav_path_core.proofs.paths.ChildLemmas.{slash_unless, behind-child, segments-child, no_slash-child}
use Rattle.dav_path_core.proofs.paths.ReadableLemmas.{readable-child}
use Rattle.dav_path_core.proofs.davpath.DavPath.child.Goals as goal

pub returns-clause-ok : goal.returns-clause-ok
returns-clause-ok c =
    let name = c.args.name.now in
    let ends = c.is_collection.result in
    let behind = behind-child c.self.inside.fullpath.items c.in_ok-fullpath.fullpath.items name ends c.self.inside.prefix_length c.self.invariant.0 (c.in_ok-fullpath.ensures ∙ ap (λ l. l ++ (slash_unless ends ++ name)) c.deref.ensures.value) in
    ap segments (behind ∙ ap (λ v. v.bytes ++ (slash_unless ends ++ name)) c.self.view_is)
    ∙ segments-child c.args.self.now.bytes name ends c.is_collection.ensures (c.can_be_segment.ensures.0 c.if-not-can_be_segment.false)

pub returns-clause-no_slash : goal.returns-clause-no_slash
returns-clause-no_slash c =
    let name = c.args.name.now in
    let ends = c.is_collection.result in
    let behind = behind-child c.self.inside.fullpath.items c.in_ok-fullpath.fullpath.items name ends c.self.inside.prefix_length c.self.invariant.0 (c.in_ok-fullpath.ensures ∙ ap (λ l. l ++ (slash_unless ends ++ name)) c.deref.ensures.value) in
    let front = drop c.self.inside.prefix_length c.self.inside.fullpath.items in
    ap ends_in_slash (behind ∙ sym (append_assoc front (slash_unless ends) name))
    ∙ no_slash-child (front ++ slash_unless ends) name (c.can_be_segment.ensures.0 c.if-not-can_be_segment.false)

pub returns-clause-readable : goal.returns-clause-readable
returns-clause-readable c =
    let name = c.args.name.now in
    let ends = c.is_collection.result in
    let behind = behind-child c.self.inside.fullpath.items c.in_ok-fullpath.fullpath.items name ends c.self.inside.prefix_length c.self.invariant.0 (c.in_ok-fullpath.ensures ∙ ap (λ l. l ++ (slash_unless ends ++ name)) c.deref.ensures.value) in
    readable-child c.args.self.now.bytes _ name ends (behind ∙ ap (λ v. v.bytes ++ (slash_unless ends ++ name)) c.self.view_is) c.is_collection.ensures (c.can_be_segment.ensures.0 c.if-not-can_be_segment.false)
    (All-from_get_or IsByte name 0 (λ i within. omega (arith, c.type_inv.name i)))
