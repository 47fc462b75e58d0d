use Rattle.std.proofs.Common.{Ok, Err, ap, sym, ◌∙◌, refl, inr}
use Rattle.std.specs.Prelude.{is_ok}
use Rattle.std.proofs.lemmas.Result.{err_from_is_err_and}
use Rattle.dav_files_core.specs.Opening.{OpenFile}
use Rattle.dav_files_core.proofs.opens.WrittenLemmas.{entry, there, its_number, has_file, too_large, done, left_by, no_memory}
use Rattle.dav_files_core.proofs.memfs.opening.MemFsFileDavFileMemFs.write_buf.Goals as goal

pub returns-in_default-clause-shape : goal.returns-in_default-clause-shape
returns-in_default-clause-shape g c = c.in_ok-length.ensures.shape

pub overwrite-requires-clause-file : goal.overwrite-requires-clause-file
overwrite-requires-clause-file g c =
    has_file c.args.fs.now c.args.self.now c.self.inside.number (ap (λ (f : OpenFile). f.number) c.self.view_is) c.in_ok-length.length c.in_ok-length.ensures.answer

pub returns-in_default-clause-answer : goal.returns-in_default-clause-answer
returns-in_default-clause-answer g c = (
  refl,
  inr (too_large c.args.fs.now c.args.self.now c.self.inside.number (ap (λ (f : OpenFile). f.number) c.self.view_is) c.in_ok-length.length c.in_ok-length.ensures.answer
      (g.B.Buf.unread c.args.buf.now) c.start_of_write-start.result c.start_of_write-start.ensures c.remaining.result c.remaining.ensures c.in_default.ensures),
)

pub returns-in_err-overwrite-clause-answer : goal.returns-in_err-overwrite-clause-answer
returns-in_err-overwrite-clause-answer g c =
    let number = ap (λ (f : OpenFile). f.number) c.self.view_is in
    let m = c.args.fs.now in
    let f = c.args.self.now in
    let id = c.self.inside.number in
    let long = c.in_ok-length.length in
    let found = c.in_ok-length.ensures.answer in
    let p = err_from_is_err_and c.from_residual-in_err-overwrite.result c.from_residual-in_err-overwrite.ensures.1 in
    no_memory c.in_err-overwrite.field-0.0 c.from_residual-in_err-overwrite.result (p.1 ∙ ap Err p.2) _ m c.overwrite.new.self
    (c.in_err-overwrite.ensures.answer (entry m f id number long found).0.0 (entry m f id number long found).0.1 (there m f id number long found) (its_number m f id number long found)) _
    (ap is_ok (done m f id number long found (g.B.Buf.unread c.args.buf.now) c.start_of_write-start.result c.start_of_write-start.ensures
    c.remaining.result c.remaining.ensures c.in-Some.end (sym c.in-Some.ensures.1) c.in-Some.ensures.0 _ refl)) f

pub returns-clause-answer : goal.returns-clause-answer
returns-clause-answer g c =
    let number = ap (λ (f : OpenFile). f.number) c.self.view_is in
    let m = c.args.fs.now in
    let f = c.args.self.now in
    let id = c.self.inside.number in
    let long = c.in_ok-length.length in
    let found = c.in_ok-length.ensures.answer in
    let left = left_by _ c.overwrite.new.self c.in_ok-overwrite.field-0
    (c.in_ok-overwrite.ensures.answer (entry m f id number long found).0.0 (entry m f id number long found).0.1 (there m f id number long found) (its_number m f id number long found)) in
    done m f id number long found (g.B.Buf.unread c.args.buf.now) c.start_of_write-start.result c.start_of_write-start.ensures
    c.remaining.result c.remaining.ensures c.in-Some.end (sym c.in-Some.ensures.1) c.in-Some.ensures.0 c.overwrite.new.self left
    ∙ ap (λ (f : OpenFile). Ok (tt {0}, (record f { position = c.in-Some.end }, c.overwrite.new.self))) (sym c.self.view_is)
