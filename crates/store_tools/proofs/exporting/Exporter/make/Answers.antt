use Rattle.std.proofs.Common.{◌≡◌, ◌++◌, ℕ, Option, subst, refl, sym, ◌∙◌, string_bytes}
use Rattle.std.proofs.lemmas.Bool.{false≢true}
use Rattle.store_tools.specs.Exports.{calls_done, folder_calls}
use Rattle.store_tools.specs.Private.ExportWork.{is_left_out, work_of}
use Rattle.store_tools.proofs.ExportLemmas.{file_on, folder_made}
use Rattle.store_tools.proofs.exporting.Exporter.make.Goals as goal

pub returns-then-not-is_dir-clause-made : goal.returns-then-not-is_dir-clause-made
returns-then-not-is_dir-clause-made g c =
    let history = g.C.Calls.history in
    let e = c.args.self.now in
    file_on c.make_file.result c.args.stored.now (work_of e (history c.args.calls.now)) (work_of e (history c.make_file.new.calls)) (string_bytes c.in_ok-place.place) c.bytes.result.now c.time_for-time.result.0
    (sym c.is_dir.ensures ∙ c.if-not-is_dir.true) c.bytes.ensures refl refl c.make_file.ensures.made

pub returns-in-Ok-clause-made : goal.returns-in-Ok-clause-made
returns-in-Ok-clause-made g c =
    let history = g.C.Calls.history in
    folder_made c.args.stored.now (work_of c.args.self.now (history c.args.calls.now)) (work_of c.keep_folder.new.self (history c.make_folder.new.calls)) (string_bytes c.in_ok-place.place) c.time_for-time.result.0
    (sym c.is_dir.ensures ∙ c.if-not-is_dir.false) c.in-Ok.ensures.kept c.keep_folder.ensures.whole
    (subst (λ (above : Option ℕ). calls_done (history c.make_folder.new.calls) ≡ calls_done (history c.args.calls.now) ++ folder_calls above (string_bytes c.in_ok-place.place)) c.folder.ensures c.in_ok-make_folder.ensures.made)

pub returns-in-Err-clause-left : goal.returns-in-Err-clause-left
unfolding is_left_out
returns-in-Err-clause-left g c = λ left. absurd (false≢true left)
