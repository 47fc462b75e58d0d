use Rattle.std.proofs.Common.{◌≡◌, ℕ, ◌+◌, [], ◌∷◌, ◌++◌, length, take, get_or, Result, Ok, Err, sym, ap, ◌∙◌, subst, refl, arith}
use Rattle.std.proofs.lemmas.Result.{err_from_is_err_and}
use Rattle.std.proofs.lemmas.List.{take_all, length_push}
use Rattle.std.proofs.lemmas.Iterator.Consumers.{YieldsList-from_first, YieldsList-turn, YieldsList-end}
use Rattle.dav_path_core.specs.Segments.{segments}
use Rattle.dav_path_core.specs.Fronts.{Path}
use Rattle.dav_path_core.specs.declared.errors.FsError.{FsError}
use Rattle.dav_files_core.specs.declared.memfs.Target.{Target}
use Rattle.dav_files_core.specs.declared.memfs.Target.TheVariants.{Entry, Missing}
use Rattle.dav_files_core.specs.Resources.{ResourceMap}
use Rattle.dav_files_core.specs.Private.TreeCalls.{LeadsToTarget}
use Rattle.dav_files_core.proofs.walks.FoundLemmas.{found_there}
use Rattle.dav_files_core.proofs.walks.StepLemmas.{item_there, one_more, at_root, behind_refused, behind_missing}
use Rattle.dav_files_core.proofs.changes.LeftLemmas.{stands_for}
use Rattle.dav_files_core.proofs.memfs.MemFs.target_of.Goals as goal

refused : (m : ResourceMap) (p : Path) (e : FsError) (r : Result Target FsError) → r ≡ Err e → LeadsToTarget m p (Err e) → LeadsToTarget m p r
refused m p e r is h = subst (λ (r : Result Target FsError). LeadsToTarget m p r) (sym is) h

at : (m : ResourceMap) (p : Path) (target : Target) (known : Target) → target ≡ known → LeadsToTarget m p (Ok target) → LeadsToTarget m p (Ok known)
at m p target known is h = subst (λ (target : Target). LeadsToTarget m p (Ok target)) is h

at_end : (m : ResourceMap) (p : Path) (target : Target) (n : ℕ) → n ≡ length p → LeadsToTarget m (take n p) (Ok target) → LeadsToTarget m p (Ok target)
at_end m p target n e h = subst (λ q. LeadsToTarget m q (Ok target)) (take_all n p (omega arith)) h

pub loop-name-init : goal.loop-name-init
loop-name-init c = at_root c.args.self.now (stands_for _ _ c.self.view_is c.self.invariant).is_map

pub returns-in_err-target-in-Entry-clause-found : goal.returns-in_err-target-in-Entry-clause-found
returns-in_err-target-in-Entry-clause-found c =
    let names = segments c.args.path.now.bytes in
    let i = length c.loop-name.yielded in
    let all = YieldsList-from_first (λ x. x.now) segments names (cc) in
    let t = YieldsList-turn all c.loop-name.yielded _ c.loop-name.yielded_by _ _ c.in-Some.name c.in-Some.is c.next.ensures.steps in
    let name : get_or names i [] ≡ c.in-Some.name.now = item_there names i [] c.in-Some.name.now t.0 ∙ sym t.1 in
    let here = at c.args.self.now (take i names) c.loop-name.target (Entry c.in-Entry.id) c.in-Entry.is c.loop-name.invariant in
    let p = err_from_is_err_and c.from_residual.result c.from_residual.ensures.1 in
    let e = c.in_err-target-in-Entry.field-0.0 in
    refused c.args.self.now names e c.from_residual.result (p.1 ∙ ap Err p.2)
    (behind_refused c.args.self.now (stands_for _ _ c.self.view_is c.self.invariant).is_map names i c.in-Some.name.now t.0 name e
    (c.in_err-target-in-Entry.ensures (take i names) here.0 (found_there c.args.self.now (take i names) here.0 here.1) here.2))

pub loop-name-preserved : goal.loop-name-preserved
loop-name-preserved c =
    let names = segments c.args.path.now.bytes in
    let i = length c.loop-name.yielded in
    let all = YieldsList-from_first (λ x. x.now) segments names (cc) in
    let t = YieldsList-turn all c.loop-name.yielded _ c.loop-name.yielded_by _ _ c.in-Some.name c.in-Some.is c.next.ensures.steps in
    let name : get_or names i [] ≡ c.in-Some.name.now = item_there names i [] c.in-Some.name.now t.0 ∙ sym t.1 in
    let here = at c.args.self.now (take i names) c.loop-name.target (Entry c.in-Entry.id) c.in-Entry.is c.loop-name.invariant in
    let next = c.in_ok-target-in-Entry.ensures (take i names) here.0 (found_there c.args.self.now (take i names) here.0 here.1) here.2 in
    let more : length (c.loop-name.yielded ++ (c.in-Some.name ∷ [])) ≡ i + 1 = rw length_push refl in
    subst (λ q. LeadsToTarget c.args.self.now q (Ok c.in_ok-target-in-Entry.target)) (sym (ap (λ n. take n names) more ∙ one_more names i c.in-Some.name.now t.0 name)) next

pub returns-in-Missing-clause-found : goal.returns-in-Missing-clause-found
returns-in-Missing-clause-found c =
    let names = segments c.args.path.now.bytes in
    let i = length c.loop-name.yielded in
    let all = YieldsList-from_first (λ x. x.now) segments names (cc) in
    let t = YieldsList-turn all c.loop-name.yielded _ c.loop-name.yielded_by _ _ c.in-Some.name c.in-Some.is c.next.ensures.steps in
    let name : get_or names i [] ≡ c.in-Some.name.now = item_there names i [] c.in-Some.name.now t.0 ∙ sym t.1 in
    behind_missing c.args.self.now (stands_for _ _ c.self.view_is c.self.invariant).is_map names i c.in-Some.name.now t.0 name c.in-Missing.folder c.in-Missing.name.now
    (at c.args.self.now (take i names) c.loop-name.target (Missing c.in-Missing.folder c.in-Missing.name) c.in-Missing.is c.loop-name.invariant)

pub returns-clause-found : goal.returns-clause-found
returns-clause-found c =
    let names = segments c.args.path.now.bytes in
    let all = YieldsList-from_first (λ x. x.now) segments names (cc) in
    let t = YieldsList-end all c.loop-name.yielded _ c.loop-name.yielded_by _ _ c.in-None.is c.next.ensures.steps in
    at_end c.args.self.now names c.loop-name.target (length c.loop-name.yielded) t.1 c.loop-name.invariant
