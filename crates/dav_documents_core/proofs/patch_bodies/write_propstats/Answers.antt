use Rattle.std.proofs.Common.{◌≡◌, refl, ◌∙◌, sym, ap, true, false, List, ◌++◌, codes, map, subst}
use Rattle.std.specs.Prelude.{OnOk}
use Rattle.dav_files_core.specs.Properties.{patch_update}
use Rattle.dav_xml_core.specs.Views.{writing_of}
use Rattle.dav_xml_core.specs.Writing.{Writing, with_nodes}
use Rattle.dav_documents_core.specs.PatchBodies.{all_protected, any_protected, others_nodes, propstats, protected_nodes}
use Rattle.dav_documents_core.specs.PropertyUpdates.{Update}
use Rattle.dav_documents_core.proofs.PieceLemmas.{nodes_in_turn}
use Rattle.dav_documents_core.proofs.patch_bodies.write_propstats.Goals as goal

some_not_all : (updates : List Update) → any_protected updates ≡ true → all_protected updates ≡ false
    → protected_nodes updates ++ others_nodes (codes "HTTP/1.1 424 Failed Dependency") updates ≡ propstats updates
some_not_all updates some all = rw (some, all) refl

pub returns : goal.returns
returns c =
    let updates = map patch_update c.args.updates.now in
    let others = others_nodes (codes "HTTP/1.1 424 Failed Dependency") updates in
    let whole = some_not_all updates (sym c.any_protected.ensures ∙ c.if-not-any_protected.false) (sym c.all_protected.ensures ∙ c.if-all_protected.false) in
    subst (λ (w : Writing). OnOk c.write_others-2.result (writing_of c.write_others-2.new.writer ≡ w))
    (ap (λ (w : Writing). with_nodes w others) c.in_ok-write_protected.ensures ∙ sym (nodes_in_turn (writing_of c.args.writer.now) (protected_nodes updates) others)
    ∙ ap (with_nodes (writing_of c.args.writer.now)) whole)
    c.write_others-2.ensures
