use Rattle.std.proofs.Common.{◌≡◌, map, refl}
use Rattle.std.proofs.lemmas.Iterator.{items_from_drains}
use Rattle.std.proofs.lemmas.Iterator.Consumers.{YieldsList-from_first}
use Rattle.dav_path_core.specs.Segments.{segments}
use Rattle.dav_path_core.proofs.paths.NameLemmas.{name_from}
use Rattle.dav_path_core.proofs.davpath.lent.DavPathRef.file_name_bytes.Goals as goal

pub returns : goal.returns
returns c =
    let xs = c.last.ensures.ran.0 in
    let drained = c.last.ensures.ran.1 in
    let items : map (λ x. x.now) xs ≡ segments c.args.self.now = items_from_drains xs (drained.1.0, drained.1.1, λ _. (drained.0, drained.1.2)) (YieldsList-from_first (λ x. x.now) segments (segments c.args.self.now) (cc)) in
    name_from xs (segments c.args.self.now) c.last.result _ _ items c.last.ensures.ran.2 c.unwrap_or.ensures refl
