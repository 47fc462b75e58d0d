use Rattle.std.proofs.Common.{ℕ, [], ◌∷◌, ◌++◌, length, refl, sym, ap, ◌∙◌, subst, arith}
use Rattle.std.proofs.lemmas.Iterator.Adapters.{YieldsList-from_vec}
use Rattle.std.proofs.lemmas.Iterator.Consumers.{YieldsList-turn}
use Rattle.dav_path_core.specs.Fronts.{Segment}
use Rattle.dav_files_core.specs.Meta.{meta_at}
use Rattle.dav_files_core.specs.Private.Entries.{HasNumber}
use Rattle.dav_files_core.specs.Private.Listed.{Described}
use Rattle.dav_files_core.proofs.listings.DescribingLemmas.{number_at, Described-push}
use Rattle.dav_files_core.proofs.memfs.MemFs.described.Goals as goal

pub node_at-requires : goal.node_at-requires
node_at-requires c =
    let g = c.into_iter-name-iterator.ensures.into_iter_gives in
    let all = YieldsList-from_vec c.args.members.items g.0 (omega (arith, g.1, c.args.members.ok.0)) in
    let t = YieldsList-turn all c.loop-name.yielded c.loop-name.name-iterator c.loop-name.yielded_by c.next.result c.next.new.self (c.in-Some.name, c.in-Some.id) c.in-Some.is c.next.ensures.steps in
    subst (λ (x : Segment × ℕ). HasNumber c.args.self.now x.1) (sym t.1) (number_at c.args.self.now c.args.members.items c.requires (length c.loop-name.yielded) (c.in-Some.name, c.in-Some.id) t.0)

pub loop-name-preserved : goal.loop-name-preserved
loop-name-preserved c =
    subst (λ es. Described c.args.self.now (c.loop-name.yielded ++ ((c.in-Some.name, c.in-Some.id) ∷ [])) es) (sym c.in_ok-push.ensures.items)
    (Described-push c.args.self.now c.loop-name.yielded c.loop-name.entries.items (c.in-Some.name, c.in-Some.id) (record { name = c.in-Some.name; meta = c.meta-meta.result }) c.loop-name.invariant
    (refl, λ p r here number. c.meta-meta.ensures ∙ ap meta_at (c.node_at.ensures p r here number)))
