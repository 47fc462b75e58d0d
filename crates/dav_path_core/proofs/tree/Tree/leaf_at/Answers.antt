use Rattle.std.proofs.Common.{◌≡◌, ap, sym, ◌∙◌, Some, None, Option, Result, Ok, refl, IsSome, ℕ}
use Rattle.std.specs.Option.{option_map, ok_or}
use Rattle.std.specs.Result.{result_ok}
use Rattle.dav_path_core.specs.declared.errors.FsError.{FsError}
use Rattle.dav_path_core.specs.declared.errors.FsError.TheVariants.{NotFound}
use Rattle.dav_path_core.specs.Keyed.{Entry, entry, parent_and_key_of}
use Rattle.dav_path_core.proofs.trees.Trees.{none≢some, same_some}
use Rattle.dav_path_core.proofs.trees.Refusals.{no_parent_root, delete-root}
use Rattle.dav_path_core.proofs.tree.Tree.leaf_at.Goals as goal

-- an entry that is said to have no parent is there, and has none
no_place : {K : Type 0} (w : Option (ℕ × K)) → option_map (λ q. q.0) w ≡ None → w ≡ None
no_place None e = refl
no_place (Some q) e = absurd (none≢some q.0 (sym e))

module _ {K D : Type 0} where
  unparented : (o : Option (Entry K D)) → ◌≡◌ {A = Result (Option ℕ) FsError} (Ok None) (ok_or (option_map (λ _. option_map (λ q. q.0) (parent_and_key_of o)) o) NotFound) → IsSome o × (parent_and_key_of o ≡ None)
  unparented None e = absurd (none≢some None (sym (ap result_ok e)))
  unparented (Some x) e = (refl, no_place x.parent_and_key (sym (same_some None (option_map (λ q. q.0) x.parent_and_key) (ap result_ok e))))

pub returns-in_default-clause-answer : goal.returns-in_default-clause-answer
returns-in_default-clause-answer g c =
    let t = c.args.self.now.keyed in
    let w = unparented (entry t c.args.id) (ap (λ (f : Option ℕ). let r : Result (Option ℕ) FsError = Ok f in r) (sym c.in_default.is) ∙ c.in_ok-parent.ensures.answer) in
    delete-root t c.args.id w.0 (no_parent_root t g.K.PartialEq.eq c.parent_of.ensures.shape.tree c.args.id w.0 w.1)
