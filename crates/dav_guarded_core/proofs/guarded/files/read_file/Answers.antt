use Rattle.std.proofs.Common.{ℕ, true, false, List, sym, ap, ◌∙◌, subst}
use Rattle.dav_path_core.specs.StoreAnswers.{AnswersAs}
use Rattle.dav_path_core.specs.Segments.{segments}
use Rattle.dav_files_core.specs.OpenFiles.{read_bytes}
use Rattle.dav_files_core.specs.Opening.{OpenFile, opening}
use Rattle.dav_files_core.specs.Resources.{ResourceMap}
use Rattle.dav_files_core.proofs.opens.ReadLemmas.{opened_there, read_through, stands_at}
use Rattle.dav_guarded_core.proofs.guarded.files.read_file.Goals as goal

pub returns-clause-answer : goal.returns-clause-answer
returns-clause-answer c =
    let m = c.args.files.now in
    let names = segments c.args.path.now.bytes in
    let file = c.in_ok-file.file in
    let opens = opened_there true false false m names c.args.now.0 file c.open.new.self (ap (λ o. opening m names o c.args.now.0) (sym c.read.ensures) ∙ c.in_ok-file.ensures.answer) in
    let there = stands_at c.args.at c.in_ok-seek.field-0 file c.seek.new.self c.in_ok-seek.ensures.answer in
    read_through true false false m names c.args.now.0 c.args.at c.args.count c.requires file c.open.new.self opens c.read_bytes.result c.seek.new.self c.read_bytes.new.self
    (subst (λ (f : OpenFile). AnswersAs (λ (b : List ℕ). b) c.read_bytes.result (read_bytes m f c.args.count) c.seek.new.self c.read_bytes.new.self) there
    (subst (λ (m : ResourceMap). AnswersAs (λ (b : List ℕ). b) c.read_bytes.result (read_bytes m c.seek.new.self c.args.count) c.seek.new.self c.read_bytes.new.self) opens.left c.read_bytes.ensures.answer))
