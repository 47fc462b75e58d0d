use Rattle.std.proofs.Common.{rules, ◌≡◌, ◌++◌, ◌∷◌, [], sym, ◌∙◌}
use Rattle.dav_snapshots_core.specs.Private.MetPaths.{met_text}
use Rattle.dav_snapshots_core.proofs.MetLemmas.{path_grown}
use Rattle.dav_snapshots_core.proofs.paths.path_text.Goals as goal

pub returns : goal.returns
returns c =
    let text : c.push-2.new.self.items ≡ (met_text c.args.met.now c.in-Some.folder ++ c.name.result.now) ++ 47 ∷ [] = search rules in
    text ∙ path_grown c.args.met.now c.args.stored.now.path c.args.stored.now.folder c.in-Some.folder c.name.result.now c.requires (sym c.folder.ensures ∙ c.in-Some.is) c.name.ensures
