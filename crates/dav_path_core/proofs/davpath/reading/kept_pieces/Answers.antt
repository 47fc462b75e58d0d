use Rattle.std.proofs.Common.{rules, tests, inl, inr, ⊎_elim, [], ◌∙◌}
use Rattle.std.proofs.lemmas.List.{length_push}
use Rattle.std.proofs.lemmas.Result.{err_from_is_err_and}
use Rattle.std.proofs.lemmas.Iterator.Splits.{YieldsList-from_slice_split}
use Rattle.std.proofs.lemmas.Iterator.Consumers.{YieldsList-turn, YieldsList-end}
use Rattle.dav_path_core.specs.Segments.{is_slash}
use Rattle.dav_path_core.proofs.paths.KeptLemmas.{Along-start, Along-refused, Along-done}
use Rattle.dav_path_core.proofs.paths.SlashedLemmas.{Spells-none, KeptPath-turn}
use Rattle.dav_path_core.proofs.davpath.reading.kept_pieces.Goals as goal

pub loop-piece-init : goal.loop-piece-init
loop-piece-init c = ([], Along-start _, rw c.new-path.ensures.items Spells-none)

pub loop-piece-preserved-in_ok-take_piece : goal.loop-piece-preserved-in_ok-take_piece
loop-piece-preserved-in_ok-take_piece c =
    let all = YieldsList-from_slice_split _ is_slash c.args.raw.now (cc) (cc) (cc) (λ x b q k. search (rules, tests)) in
    let t = YieldsList-turn all c.loop-piece.yielded _ c.loop-piece.yielded_by _ _ c.in-Some.piece c.in-Some.is c.next.ensures.steps in
    rw length_push (KeptPath-turn c.args.raw.now c.in-Some.piece.now c.deref.result.now c.loop-piece.path.items c.take_piece.new.path.items _ c.loop-piece.invariant c.in_ok-take_piece.ensures.ok t (c.deref.ensures.value ∙ c.in_ok-decoded.ensures) c.in_ok-take_piece.ensures.clean)

pub loop-piece-preserved : goal.loop-piece-preserved
loop-piece-preserved c =
    let all = YieldsList-from_slice_split _ is_slash c.args.raw.now (cc) (cc) (cc) (λ x b q k. search (rules, tests)) in
    let t = YieldsList-turn all c.loop-piece.yielded _ c.loop-piece.yielded_by _ _ c.in-Some.piece c.in-Some.is c.next.ensures.steps in
    rw length_push (KeptPath-turn c.args.raw.now c.in-Some.piece.now c.deref.result.now c.loop-piece.path.items c.take_piece.new.path.items _ c.loop-piece.invariant c.in_ok-take_piece.ensures.ok t (c.deref.ensures.value ∙ c.in_ok-decoded.ensures) c.in_ok-take_piece.ensures.clean)

pub returns-in_err-take_piece-clause-err : goal.returns-in_err-take_piece-clause-err
returns-in_err-take_piece-clause-err c =
    let all = YieldsList-from_slice_split _ is_slash c.args.raw.now (cc) (cc) (cc) (λ x b q k. search (rules, tests)) in
    let t = YieldsList-turn all c.loop-piece.yielded _ c.loop-piece.yielded_by _ _ c.in-Some.piece c.in-Some.is c.next.ensures.steps in
    let p = err_from_is_err_and c.from_residual-in_err-take_piece.result c.from_residual-in_err-take_piece.ensures.1 in
    let kept = c.loop-piece.invariant.0 in
    rw (p.1, p.2)
    (⊎_elim inl
    (λ refused. inr (Along-refused c.args.raw.now c.in-Some.piece.now c.deref.result.now kept _ _ c.loop-piece.invariant.1 t (c.deref.ensures.value ∙ c.in_ok-decoded.ensures) (refused kept c.loop-piece.invariant.2)))
    c.in_err-take_piece.ensures.err)

pub returns-clause-ok : goal.returns-clause-ok
returns-clause-ok c =
    let all = YieldsList-from_slice_split _ is_slash c.args.raw.now (cc) (cc) (cc) (λ x b q k. search (rules, tests)) in
    let t = YieldsList-end all c.loop-piece.yielded _ c.loop-piece.yielded_by _ _ c.in-None.is c.next.ensures.steps in
    (c.loop-piece.invariant.0, Along-done c.args.raw.now _ _ c.loop-piece.invariant.1 t.1, c.loop-piece.invariant.2.spelling)
