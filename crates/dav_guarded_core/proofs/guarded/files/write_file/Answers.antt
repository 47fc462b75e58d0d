use Rattle.std.proofs.Common.{◌≡◌, ℕ, Bool, true, false, not, Option, Some, None, is_some, refl, sym, ap, ◌∙◌, subst}
use Rattle.std.specs.Prelude.{is_none}
use Rattle.dav_path_core.specs.StoreAnswers.{AnswersAs}
use Rattle.dav_path_core.specs.Segments.{segments}
use Rattle.dav_files_core.specs.declared.fs.OpenOptions.{OpenOptions}
use Rattle.dav_files_core.specs.OpenFiles.{write_bytes}
use Rattle.dav_files_core.specs.Opening.{OpenFile, opening}
use Rattle.dav_files_core.specs.Resources.{ResourceMap}
use Rattle.dav_files_core.proofs.opens.ReadLemmas.{using, opened_there, stands_at, write_through}
use Rattle.dav_guarded_core.proofs.guarded.files.write_file.Goals as goal

none_by : (at : Option ℕ) (b : Bool) → is_some at ≡ not b → b ≡ is_none at
none_by None true h = refl
none_by None false h = absurd (cc)
none_by (Some n) true h = absurd (cc)
none_by (Some n) false h = refl

pub returns-clause-answer : goal.returns-clause-answer
returns-clause-answer c =
    let m = c.args.files.now in
    let names = segments c.args.path.now.bytes in
    let bytes = c.args.bytes.now in
    let file = c.in_ok-file.file in
    let options = ap (λ (o : OpenOptions). record o { append = c.is_none.result }) c.write-options.ensures ∙ ap (using false true) (none_by c.args.at c.is_none.result c.is_none.ensures) in
    let opens = opened_there false true (is_none c.args.at) m names c.args.now.0 file c.open.new.self (ap (λ o. opening m names o c.args.now.0) (sym options) ∙ c.in_ok-file.ensures.answer) in
    let there = stands_at c.unwrap_or.result c.in_ok-seek.field-0 file c.seek.new.self c.in_ok-seek.ensures.answer ∙ ap (λ n. record file { position = n }) c.unwrap_or.ensures in
    write_through m names c.requires c.args.at bytes file c.open.new.self opens c.write_buf.result c.write_buf.new.self c.write_buf.new.fs
    (subst (λ (f : OpenFile). AnswersAs {S = OpenFile × ResourceMap} (λ x. x) c.write_buf.result (write_bytes m f bytes) (f, m) (c.write_buf.new.self, c.write_buf.new.fs)) there
    (subst (λ (m : ResourceMap). AnswersAs {S = OpenFile × ResourceMap} (λ x. x) c.write_buf.result (write_bytes m c.seek.new.self bytes) (c.seek.new.self, m) (c.write_buf.new.self, c.write_buf.new.fs)) opens.left c.write_buf.ensures.answer))
