use Rattle.std.proofs.Common.{sym, ap, ◌∙◌, Some, ℕ, Option}
use Rattle.std.specs.Option.{option_map}
use Rattle.std.specs.FinMap.{get}
use Rattle.dav_path_core.specs.ChildIndex.{index_answer}
use Rattle.dav_path_core.proofs.index.IndexMaps.{get-index}
use Rattle.dav_path_core.proofs.child_index.ChildIndex.look_up.Goals as goal

pub returns-in-Some : goal.returns-in-Some
returns-in-Some c =
    ap (λ (x : Option ℕ). Some x) c.number_of.ensures
    ∙ ap (option_map (λ names. get names c.args.name.now)) (c.in-Some.ensures.value ∙ sym (get-index c.self.inside.folders.entries c.args.folder))
    ∙ ap (λ ix. index_answer ix c.args.folder c.args.name.now) c.self.view_is

pub returns-in-None : goal.returns-in-None
returns-in-None c =
    ap (option_map (λ names. get names c.args.name.now)) (c.in-None.ensures.value ∙ sym (get-index c.self.inside.folders.entries c.args.folder))
    ∙ ap (λ ix. index_answer ix c.args.folder c.args.name.now) c.self.view_is
