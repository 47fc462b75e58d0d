use Rattle.std.proofs.Common.{◌≡◌, inl, inr, Ok, Err, Result, sym, ap, ◌∙◌, subst}
use Rattle.std.proofs.lemmas.Result.{err_from_is_err_and}
use Rattle.dav_path_core.specs.StoreAnswers.{AnswersWithRoom}
use Rattle.dav_path_core.specs.declared.errors.FsError.{FsError}
use Rattle.dav_path_core.specs.Fronts.{parent}
use Rattle.dav_path_core.specs.Segments.{segments}
use Rattle.dav_files_core.specs.Outcomes.{Outcome, with_modified_time}
use Rattle.dav_files_core.specs.Resources.{ResourceMap, at_path}
use Rattle.dav_files_core.proofs.moves.RenamedLemmas.{ends, went, stayed}
use Rattle.dav_files_core.proofs.memfs.files.MemFsDavFileSystem.rename.Goals as goal

refused : (result : Result (Unit {0}) FsError) (e : FsError) (outcome : Outcome (Unit {0})) (old new : ResourceMap) → result ≡ Err e → AnswersWithRoom {A = Unit {0}} (λ _. tt {0}) (Err e) outcome old new → AnswersWithRoom {A = Unit {0}} (λ _. tt {0}) result outcome old new
refused result e outcome old new is h = subst (λ (result : Result (Unit {0}) FsError). AnswersWithRoom {A = Unit {0}} (λ _. tt {0}) result outcome old new) (sym is) h

pub relocate-requires-clause-folder : goal.relocate-requires-clause-folder
relocate-requires-clause-folder c =
    let m = c.args.self.now in
    let from = segments c.args.from.now.bytes in
    let to = segments c.args.to.now.bytes in
    let e = ends m from to c.in_ok-source.source c.in_ok-source.ensures.found c.in_ok-folder.field-0 c.in-Some.folder c.in-Some.is c.in_ok-folder.ensures in
    (e.target.0, e.target.2, e.above, e.target.5, e.is_folder)

pub returns-in_err-relocate-clause-answer : goal.returns-in_err-relocate-clause-answer
returns-in_err-relocate-clause-answer c =
    let m = c.args.self.now in
    let from = segments c.args.from.now.bytes in
    let to = segments c.args.to.now.bytes in
    let e = ends m from to c.in_ok-source.source c.in_ok-source.ensures.found c.in_ok-folder.field-0 c.in-Some.folder c.in-Some.is c.in_ok-folder.ensures in
    let p = err_from_is_err_and c.from_residual-in_err-relocate.result c.from_residual-in_err-relocate.ensures.1 in
    let error = c.in_err-relocate.field-0.0 in
    let a = c.in_err-relocate.ensures.answer from e.target.0 e.entry e.target.2 e.stands e.numbered e.above e.target.5 in
    refused c.from_residual-in_err-relocate.result error _ m c.relocate.new.self (p.1 ∙ ap Err p.2) (
      a.0,
      elim a.1 [
        | inl memory ↦ inl memory
        | inr h ↦ inr (stayed m c.in_ok-source.ensures.shape from to c.in_ok-source.source c.in-Some.folder e c.file_name_bytes.result.now c.file_name_bytes.ensures error c.args.now.0 h)
      ],
    )

pub touch-requires : goal.touch-requires
touch-requires c =
    let m = c.args.self.now in
    let from = segments c.args.from.now.bytes in
    let to = segments c.args.to.now.bytes in
    let e = ends m from to c.in_ok-source.source c.in_ok-source.ensures.found c.in_ok-folder.field-0 c.in-Some.folder c.in-Some.is c.in_ok-folder.ensures in
    let x = went m c.in_ok-source.ensures.shape from to c.in_ok-source.source c.in-Some.folder e c.file_name_bytes.result.now c.file_name_bytes.ensures c.relocate.new.self
    (c.in_ok-relocate.ensures.answer from e.target.0 e.entry e.target.2 e.stands e.numbered e.above e.target.5) c.in-Some-above.above (c.in-Some-above.ensures from e.entry e.stands e.numbered) in
    (parent from, x.upper.0, x.upper.1, x.upper.2)

pub touch-requires-2 : goal.touch-requires-2
touch-requires-2 c =
    let m = c.args.self.now in
    let from = segments c.args.from.now.bytes in
    let to = segments c.args.to.now.bytes in
    let e = ends m from to c.in_ok-source.source c.in_ok-source.ensures.found c.in_ok-folder.field-0 c.in-Some.folder c.in-Some.is c.in_ok-folder.ensures in
    let x = went m c.in_ok-source.ensures.shape from to c.in_ok-source.source c.in-Some.folder e c.file_name_bytes.result.now c.file_name_bytes.ensures c.relocate.new.self
    (c.in_ok-relocate.ensures.answer from e.target.0 e.entry e.target.2 e.stands e.numbered e.above e.target.5) c.in-Some-above.above (c.in-Some-above.ensures from e.entry e.stands e.numbered) in
    let first = c.touch.ensures.change (parent from) x.upper.0 x.upper.1 x.upper.2 in
    let low = x.lower c.args.now.0 in
    (parent to, low.0, ap (λ m. at_path m (parent to)) first ∙ low.1, low.2)

pub returns-clause-answer : goal.returns-clause-answer
returns-clause-answer c =
    let m = c.args.self.now in
    let from = segments c.args.from.now.bytes in
    let to = segments c.args.to.now.bytes in
    let e = ends m from to c.in_ok-source.source c.in_ok-source.ensures.found c.in_ok-folder.field-0 c.in-Some.folder c.in-Some.is c.in_ok-folder.ensures in
    let x = went m c.in_ok-source.ensures.shape from to c.in_ok-source.source c.in-Some.folder e c.file_name_bytes.result.now c.file_name_bytes.ensures c.relocate.new.self
    (c.in_ok-relocate.ensures.answer from e.target.0 e.entry e.target.2 e.stands e.numbered e.above e.target.5) c.in-Some-above.above (c.in-Some-above.ensures from e.entry e.stands e.numbered) in
    let first = c.touch.ensures.change (parent from) x.upper.0 x.upper.1 x.upper.2 in
    let low = x.lower c.args.now.0 in
    let second = c.touch-2.ensures.change (parent to) low.0 (ap (λ m. at_path m (parent to)) first ∙ low.1) low.2 in
    x.done c.args.now.0 ∙ ap (λ (m : ResourceMap). Ok (tt {0}, with_modified_time m (parent to) c.args.now.0)) (sym first) ∙ ap (λ (m : ResourceMap). Ok (tt {0}, m)) (sym second)
