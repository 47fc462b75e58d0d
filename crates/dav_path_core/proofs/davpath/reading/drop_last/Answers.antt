use Rattle.std.proofs.Common.{◌∷◌, ◌++◌, [], ap, sym, subst, ◌∙◌, refl, arith}
use Rattle.std.specs.Prelude.{Contains}
use Rattle.std.proofs.lemmas.List.{append-nil, append_assoc, drop_all}
use Rattle.dav_path_core.proofs.paths.SlashedLemmas.{nothing_in_none, no_slash_more}
use Rattle.dav_path_core.proofs.davpath.reading.drop_last.Goals as goal

pub loop-byte-init : goal.loop-byte-init
loop-byte-init c = ([], sym (append-nil c.args.path.now.items), nothing_in_none 47)

pub returns-then-byte-eq47-clause-ok : goal.returns-then-byte-eq47-clause-ok
returns-then-byte-eq47-clause-ok c =
    let gone = c.loop-byte.invariant.0 in
    (gone, c.loop-byte.invariant.1 ∙ ap (λ l. l ++ gone) c.in-Some.ensures.items ∙ append_assoc c.pop.new.self.items (c.in-Some.byte ∷ []) gone ∙ ap (λ b. c.pop.new.self.items ++ b ∷ gone) c.if-byte-eq47.true, c.loop-byte.invariant.2)

pub loop-byte-preserved : goal.loop-byte-preserved
loop-byte-preserved c =
    let gone = c.loop-byte.invariant.0 in
    (c.in-Some.byte ∷ gone, c.loop-byte.invariant.1 ∙ ap (λ l. l ++ gone) c.in-Some.ensures.items ∙ append_assoc c.pop.new.self.items (c.in-Some.byte ∷ []) gone, no_slash_more c.in-Some.byte gone c.if-byte-eq47.false c.loop-byte.invariant.2)

pub returns-clause-err : goal.returns-clause-err
returns-clause-err c =
    let none = drop_all 0 c.loop-byte.path.items (omega (arith, c.in_default.ensures.cases.0)) in
    (refl, λ h. c.loop-byte.invariant.2 (subst (λ l. Contains l 47) (c.loop-byte.invariant.1 ∙ ap (λ l. l ++ c.loop-byte.invariant.0) none) h))
