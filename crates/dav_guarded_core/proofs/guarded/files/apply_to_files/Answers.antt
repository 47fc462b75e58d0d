use Rattle.std.proofs.Common.{inl, map, Err, refl, ap, ◌∙◌, subst}
use Rattle.std.specs.Prelude.{is_ok}
use Rattle.std.proofs.lemmas.Result.{err_from_is_err_and}
use Rattle.dav_path_core.specs.StoreAnswers.{AnswersAs, Refused}
use Rattle.dav_path_core.specs.Segments.{segments}
use Rattle.dav_files_core.specs.ResourceCopying.{copy}
use Rattle.dav_files_core.specs.Folders.{create_dir}
use Rattle.dav_files_core.specs.Listing.{read_dir}
use Rattle.dav_files_core.specs.ContentParts.{read_at, write_at}
use Rattle.dav_files_core.specs.Properties.{patch_update, get_prop, get_props, patch_props, property_of}
use Rattle.dav_files_core.specs.ResourcePutting.{put}
use Rattle.dav_files_core.specs.Renaming.{rename}
use Rattle.dav_guarded_core.specs.Requests as plain
use Rattle.dav_guarded_core.proofs.Serving.{change_answer, early_answer, tell_refused, patch_refused, patch_there}
use Rattle.dav_guarded_core.proofs.guarded.files.apply_to_files.Goals as goal

pub returns-in-Put-clause-answer : goal.returns-in-Put-clause-answer
returns-in-Put-clause-answer c =
    let m = c.args.files.now in
    let p = segments c.in-Put.path.bytes in
    rw c.in-Put.is (change_answer m c.put.new.self (plain.Command.Put p c.in-Put.bytes) c.args.now.0 (put m p c.in-Put.bytes c.args.now.0) (λ r n h. h) refl
    c.put.result c.done.result c.done.ensures (subst (λ b. AnswersAs (λ _. tt {0}) c.put.result (put m p b c.args.now.0) m c.put.new.self) c.as_slice.ensures c.put.ensures.answer))

pub returns-in-Write-clause-answer : goal.returns-in-Write-clause-answer
returns-in-Write-clause-answer c =
    let m = c.args.files.now in
    let p = segments c.in-Write.path.bytes in
    rw c.in-Write.is (change_answer m c.write_file.new.files (plain.Command.Write p c.in-Write.at c.in-Write.bytes) c.args.now.0 (write_at m p c.in-Write.at c.in-Write.bytes) (λ r n h. h) refl
    c.write_file.result c.done-in-Write.result c.done-in-Write.ensures
    (subst (λ b. AnswersAs (λ _. tt {0}) c.write_file.result (write_at m p c.in-Write.at b) m c.write_file.new.files) c.as_slice-in-Write.ensures c.write_file.ensures.answer))

pub returns-in_err-read_file-in-Read-clause-answer : goal.returns-in_err-read_file-in-Read-clause-answer
returns-in_err-read_file-in-Read-clause-answer c =
    let m = c.args.files.now in
    let p = segments c.in-Read.path.bytes in
    let e = err_from_is_err_and c.from_residual.result c.from_residual.ensures.1 in
    rw c.in-Read.is (tell_refused m c.read_file.new.files (plain.Command.Read p c.in-Read.at c.in-Read.count) c.args.now.0 plain.Bytes (read_at m p c.in-Read.at c.in-Read.count) (λ r n h. h) refl
    c.in_err-read_file-in-Read.field-0.0 c.from_residual.result (e.1 ∙ ap Err e.2) c.read_file.ensures.same c.in_err-read_file-in-Read.ensures.answer)

pub returns-in_err-read_dir-in-List-clause-answer : goal.returns-in_err-read_dir-in-List-clause-answer
returns-in_err-read_dir-in-List-clause-answer c =
    let m = c.args.files.now in
    let p = segments c.in-List.path.bytes in
    let e = err_from_is_err_and c.from_residual-in_err-read_dir-in-List.result c.from_residual-in_err-read_dir-in-List.ensures.1 in
    rw c.in-List.is (tell_refused m m (plain.Command.List p) c.args.now.0 plain.Entries (read_dir m p) (λ r n h. h) refl
    c.in_err-read_dir-in-List.field-0.0 c.from_residual-in_err-read_dir-in-List.result (e.1 ∙ ap Err e.2) refl c.in_err-read_dir-in-List.ensures.answer)

pub returns-in-MkCol-clause-answer : goal.returns-in-MkCol-clause-answer
returns-in-MkCol-clause-answer c =
    let m = c.args.files.now in
    let p = segments c.in-MkCol.path.bytes in
    rw c.in-MkCol.is (change_answer m c.create_dir.new.self (plain.Command.MkCol p) c.args.now.0 (create_dir m p c.args.now.0) (λ r n h. h) refl
    c.create_dir.result c.done-in-MkCol.result c.done-in-MkCol.ensures c.create_dir.ensures.answer)

pub returns-in-Move-clause-answer : goal.returns-in-Move-clause-answer
returns-in-Move-clause-answer c =
    let m = c.args.files.now in
    let from = segments c.in-Move.from.bytes in
    let to = segments c.in-Move.to.bytes in
    rw c.in-Move.is (early_answer m c.rename.new.self (plain.Command.Move from to) c.args.now.0 (rename m from to c.args.now.0) (λ r n h. h) refl refl
    c.rename.result c.done-in-Move.result c.done-in-Move.ensures c.rename.ensures.answer)

pub returns-in-Copy-clause-answer : goal.returns-in-Copy-clause-answer
returns-in-Copy-clause-answer c =
    let m = c.args.files.now in
    let from = segments c.in-Copy.from.bytes in
    let to = segments c.in-Copy.to.bytes in
    rw c.in-Copy.is (change_answer m c.copy.new.self (plain.Command.Copy from to) c.args.now.0 (copy m from to c.args.now.0) (λ r n h. h) refl
    c.copy.result c.done-in-Copy.result c.done-in-Copy.ensures c.copy.ensures.answer)

pub returns-in_err-copied-in-PatchProps-clause-answer : goal.returns-in_err-copied-in-PatchProps-clause-answer
returns-in_err-copied-in-PatchProps-clause-answer c =
    let m = c.args.files.now in
    let p = segments c.in-PatchProps.path.bytes in
    let patch = map patch_update c.in-PatchProps.patch.items in
    let e = err_from_is_err_and c.from_residual-in_err-copied-in-PatchProps.result c.from_residual-in_err-copied-in-PatchProps.ensures.1 in
    rw c.in-PatchProps.is (patch_refused m m (plain.Command.PatchProps p patch) c.args.now.0 (patch_props m p patch) (λ r n h. h) refl
    c.in_err-copied-in-PatchProps.field-0.0 c.from_residual-in_err-copied-in-PatchProps.result (e.1 ∙ ap Err e.2) refl
    (inl (c.in_err-copied-in-PatchProps.ensures, patch_there m p patch (ap is_ok c.in_ok-metadata-in-PatchProps.ensures.answer))))

pub returns-in_err-patch_props-in-PatchProps-clause-answer : goal.returns-in_err-patch_props-in-PatchProps-clause-answer
returns-in_err-patch_props-in-PatchProps-clause-answer c =
    let m = c.args.files.now in
    let p = segments c.in-PatchProps.path.bytes in
    let patch = map patch_update c.in-PatchProps.patch.items in
    let error = c.in_err-patch_props-in-PatchProps.field-0.0 in
    let refused = c.in_err-patch_props-in-PatchProps.ensures.answer in
    let e = err_from_is_err_and c.from_residual-in_err-patch_props-in-PatchProps.result c.from_residual-in_err-patch_props-in-PatchProps.ensures.1 in
    rw c.in-PatchProps.is (patch_refused m c.patch_props.new.self (plain.Command.PatchProps p patch) c.args.now.0 (patch_props m p patch) (λ r n h. h) refl
    error c.from_residual-in_err-patch_props-in-PatchProps.result (e.1 ∙ ap Err e.2) refused.0
    (subst (λ patch. Refused (patch_props m p patch) error) c.in_ok-copied-in-PatchProps.ensures refused.1))

pub returns-in_err-get_props-in-GetProps-clause-answer : goal.returns-in_err-get_props-in-GetProps-clause-answer
returns-in_err-get_props-in-GetProps-clause-answer c =
    let m = c.args.files.now in
    let p = segments c.in-GetProps.path.bytes in
    let e = err_from_is_err_and c.from_residual-in_err-get_props-in-GetProps.result c.from_residual-in_err-get_props-in-GetProps.ensures.1 in
    rw c.in-GetProps.is (tell_refused m m (plain.Command.GetProps p c.in-GetProps.content) c.args.now.0 plain.Props (get_props m p c.in-GetProps.content) (λ r n h. h) refl
    c.in_err-get_props-in-GetProps.field-0.0 c.from_residual-in_err-get_props-in-GetProps.result (e.1 ∙ ap Err e.2) refl c.in_err-get_props-in-GetProps.ensures)

pub returns-in_err-get_prop-in-GetProp-clause-answer : goal.returns-in_err-get_prop-in-GetProp-clause-answer
returns-in_err-get_prop-in-GetProp-clause-answer c =
    let m = c.args.files.now in
    let p = segments c.in-GetProp.path.bytes in
    let wanted = property_of c.in-GetProp.prop in
    let e = err_from_is_err_and c.from_residual-in_err-get_prop-in-GetProp.result c.from_residual-in_err-get_prop-in-GetProp.ensures.1 in
    rw c.in-GetProp.is (tell_refused m m (plain.Command.GetProp p wanted) c.args.now.0 plain.Value (get_prop m p wanted) (λ r n h. h) refl
    c.in_err-get_prop-in-GetProp.field-0.0 c.from_residual-in_err-get_prop-in-GetProp.result (e.1 ∙ ap Err e.2) refl c.in_err-get_prop-in-GetProp.ensures)
