use Rattle.std.proofs.Common.{inl, inr, ap, ◌∙◌, None, is_some, ◌≡◌, ℕ, Some, IfOk, IfErr, Result, Ok, Err, sym, subst}
use Rattle.dav_path_core.specs.Keyed.{add_refusal, IsCut, IsTree, without_key, cleared_at, child}
use Rattle.dav_path_core.proofs.trees.Cutting.{IsCut-cut}
use Rattle.std.specs.Result.{result_ok}
use Rattle.std.proofs.lemmas.Bool.{false≢true}
use Rattle.dav_path_core.specs.declared.errors.FsError.TheVariants.{InsufficientStorage}
use Rattle.dav_path_core.proofs.trees.Trees.{refusal-none, refusal-over, ok-ok_or}
use Rattle.dav_path_core.proofs.tree.Tree.add_child.Goals as goal

-- what holds anyway holds of an error
whenever_err : {T E P : Type 0} (Q : E → Type 0) (r : Result T E) → P → IfErr r (λ e. Q e → P)
whenever_err Q (Ok x) p = tt
whenever_err Q (Err e) p = λ _. p

whenever : {T E P : Type 0} (r : Result T E) → P → IfOk r (λ _. P)
whenever (Ok x) p = p
whenever (Err e) p = tt

pub returns-in-Some-clause-replaced : goal.returns-in-Some-clause-replaced
returns-in-Some-clause-replaced g c =
    let tree : IsTree g.K.PartialEq.eq c.args.self.now.keyed = (c.if-not-is_known.ensures.shape).tree in
    whenever {P = (old : ℕ) → child (g.K.PartialEq.eq c.args.key) c.args.self.now.keyed c.args.parent ≡ Some old → IsCut c.args.self.now.keyed (without_key g.K.PartialEq.eq c.args.self.now.keyed c.args.parent c.args.key) old} _ (λ old at. subst (λ o. IsCut c.args.self.now.keyed (cleared_at c.args.self.now.keyed o) old) (sym at) (IsCut-cut g.K.PartialEq.eq c.args.self.now.keyed tree old))

pub returns-in-None-clause-room : goal.returns-in-None-clause-room
returns-in-None-clause-room g c =
    let taken = c.ok-taken.ensures.value ∙ ap result_ok c.get_child.ensures.answer ∙ ok-ok_or _ _ in
    whenever_err {P = add_refusal g.K.PartialEq.eq c.args.self.now.keyed c.args.parent c.args.key c.args.overwrite ≡ None} (λ e. e ≡ InsufficientStorage) _
    (refusal-none g.K.PartialEq.eq c.args.self.now.keyed c.args.parent c.args.key c.args.overwrite (sym c.if-not-is_known.ensures.known) (ap is_some (sym taken ∙ c.in-None.is)))

pub returns-in-Some-clause-room : goal.returns-in-Some-clause-room
returns-in-Some-clause-room g c =
    whenever_err {P = add_refusal g.K.PartialEq.eq c.args.self.now.keyed c.args.parent c.args.key c.args.overwrite ≡ None} (λ e. e ≡ InsufficientStorage) _
    (refusal-over g.K.PartialEq.eq c.args.self.now.keyed c.args.parent c.args.key c.args.overwrite (elim c.else-is_some.either [ inl w ↦ w.1 | inr f ↦ absurd (false≢true (sym f ∙ c.is_some.ensures ∙ ap is_some c.in-Some.is)) ]) (sym c.if-not-is_known.ensures.known))
