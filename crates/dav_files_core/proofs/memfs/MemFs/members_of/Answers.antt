use Rattle.std.proofs.Common.{◌≡◌, List, MatchResult, Result, Ok, Err, refl, sym, ap, ◌∙◌, subst, IsPermutation}
use Rattle.std.proofs.lemmas.Iterator.{items_from_collect}
use Rattle.std.proofs.lemmas.Iterator.Consumers.{YieldsList-from_first}
use Rattle.std.proofs.lemmas.Result.{err_from_is_err_and}
use Rattle.dav_path_core.specs.declared.errors.FsError.{FsError}
use Rattle.dav_path_core.specs.declared.errors.FsError.TheVariants.{InsufficientStorage}
use Rattle.dav_files_core.proofs.changes.LeavingLemmas.{known}
use Rattle.dav_files_core.proofs.listings.ListedLemmas.{Pair, are_members}
use Rattle.dav_files_core.proofs.changes.LeftLemmas.{stands_for}
use Rattle.dav_files_core.proofs.memfs.MemFs.members_of.Goals as goal

refused : {A : Type 0} (P : A → Type 0) (e : FsError) (r : Result A FsError) → r ≡ Err e → e ≡ InsufficientStorage → MatchResult r P (λ e. e ≡ InsufficientStorage)
refused {A} P e r is h = subst (λ (r : Result A FsError). MatchResult r P (λ e. e ≡ InsufficientStorage)) (sym is) h

pub returns-in_err-get_children : goal.returns-in_err-get_children
returns-in_err-get_children c =
    let h = c.requires in
    let p = err_from_is_err_and c.from_residual.result c.from_residual.ensures.1 in
    refused _ c.in_err-get_children.field-0.0 c.from_residual.result (p.1 ∙ ap Err p.2)
    (c.in_err-get_children.ensures.known (known c.self.inside.tree.keyed c.args.self.now (stands_for _ _ c.self.view_is c.self.invariant) h.0 h.1 h.2 c.args.id h.3))

pub returns : goal.returns
returns c = λ p r here number.
    let children = c.in_ok-get_children.field-0 in
    let items : c.in_ok-pairs.pairs.items ≡ children = items_from_collect {E = FsError} (Ok c.in_ok-pairs.pairs) c.in_ok-pairs.ensures.ran (YieldsList-from_first (λ x. x) (λ c. c) children refl) in
    are_members c.self.inside.tree c.args.self.now (stands_for _ _ c.self.view_is c.self.invariant) p r here c.args.id number children c.in_ok-get_children.ensures.children
    c.sort.new.self.items (subst (λ (xs : List Pair). IsPermutation xs c.sort.new.self.items) items c.in_ok-sort.ensures.permutation) c.in_ok-sort.ensures.sorted
