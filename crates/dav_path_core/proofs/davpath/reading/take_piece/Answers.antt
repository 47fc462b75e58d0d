use Rattle.std.proofs.Common.{inr, ◌∷◌, ◌++◌, [], ap, sym, ◌∙◌, refl, subst}
use Rattle.std.proofs.lemmas.Bool.{false≢true}
use Rattle.std.proofs.lemmas.List.{append_assoc}
use Rattle.std.proofs.lemmas.Result.{IfErr-weaker}
use Rattle.dav_path_core.specs.Private.Keeping.{Spells}
use Rattle.dav_path_core.specs.Private.Keeping.TakesPiece.{up, ordinary}
use Rattle.dav_path_core.specs.Private.Keeping.RefusesPiece.{foreign, above}
use Rattle.dav_path_core.proofs.paths.SlashedLemmas.{OnOk-weaker, neither, Spells-push, Spells-pop, Spells-empty}
use Rattle.dav_path_core.proofs.davpath.reading.take_piece.Goals as goal

pub returns-then-is_foreign_piece-clause-err : goal.returns-then-is_foreign_piece-clause-err
returns-then-is_foreign_piece-clause-err c = inr (λ kept h. foreign (c.is_foreign_piece.ensures.0 c.if-is_foreign_piece.true))

pub returns-then-is_up_piece-clause-ok : goal.returns-then-is_up_piece-clause-ok
returns-then-is_up_piece-clause-ok c =
    OnOk-weaker c.drop_last.result _ _
    (λ p kept h.
    let parts = Spells-pop kept c.drop_last.new.path.items p.0 p.2 (subst (Spells kept) p.1 h) in
    (parts.0, up parts.1 (sym c.is_up_piece.ensures ∙ c.if-is_up_piece.true) parts.2, parts.3))
    c.drop_last.ensures.ok

pub returns-then-is_up_piece-clause-err : goal.returns-then-is_up_piece-clause-err
returns-then-is_up_piece-clause-err c =
    IfErr-weaker c.drop_last.result _ _
    (λ e p. inr (λ kept h. rw p.0 (above (sym c.is_up_piece.ensures ∙ c.if-is_up_piece.true) (Spells-empty kept c.args.path.now.items p.1 h))))
    c.drop_last.ensures.err

pub returns-clause-ok : goal.returns-clause-ok
returns-clause-ok c = λ kept h.
    let piece = c.args.piece.now in
    let path = c.in_ok-extend_from_slice.ensures.items ∙ ap (λ l. l ++ piece) c.in_ok-push.ensures.items ∙ append_assoc c.args.path.now.items (47 ∷ []) piece in
    let usual = neither _ _ (sym c.is_idle_piece.ensures ∙ c.if-is_idle_piece.false) (sym c.is_up_piece.ensures ∙ c.if-is_up_piece.false) in (
      kept ++ piece ∷ [],
      ordinary usual refl,
      subst (Spells (kept ++ piece ∷ [])) (sym path)
          (Spells-push kept c.args.path.now.items piece (λ w. false≢true (sym c.if-is_foreign_piece.false ∙ c.is_foreign_piece.ensures.1 (inr w))) h),
    )
