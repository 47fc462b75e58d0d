use Rattle.std.proofs.Common.{Ok, Some, None, ◌∙◌, sym, ap}
use Rattle.std.specs.Prelude.{option_map}
use Rattle.std.proofs.lemmas.Result.{err_from_is_err_and}
use Rattle.dav_path_core.specs.Segments.{segments}
use Rattle.dav_files_core.specs.Meta.{meta_at, meta_of}
use Rattle.dav_files_core.specs.Resources.{Resource, at_path}
use Rattle.dav_guarded_core.specs.Step.{State}
use Rattle.dav_fields_core.specs.declared.ranges.Extent.TheVariants as extent
use Rattle.dav_session_core.proofs.Looking.{looks_on}
use Rattle.dav_safe_methods_core.proofs.FolderPageLemmas.{whole_page}
use Rattle.dav_safe_methods_core.proofs.GetMethodLemmas.{fails, none_gotten, part_fails, part_gotten, part_of_file, standing_there, told_is, unsatisfied_gotten, whole_gotten}
use Rattle.dav_safe_methods_core.proofs.get.get.Goals as goal

pub returns-in_err-told-clause-err : goal.returns-in_err-told-clause-err
returns-in_err-told-clause-err g c =
    let p = err_from_is_err_and c.from_residual-in_err-told.result c.from_residual-in_err-told.ensures.1 in
    let found = sym (ap (option_map meta_of) c.in-Some.is) ∙ c.meta.ensures.found
    ∙ ap (λ p. option_map (λ (r : Resource). meta_at r.node) (at_path c.args.session.now.stores.stores.map (segments p.bytes))) c.in_ok-copy_of.ensures in
    rw (p.1, p.2) (fails c.args.method c.args.session.now.stores.stores.map (segments c.args.path.now.bytes) c.args.headers.now (meta_of c.in-Some.meta) c.in_err-told.field-0.0 found
    (told_is c.args.method c.args.session.now.stores.stores.map (segments c.args.path.now.bytes) (meta_of c.in-Some.meta) c.args.headers.now c.in_ok-standing.standing c.len.result _ (standing_there c.args.session.now.stores.stores.map c.meta.new.self.stores.stores.map (segments c.args.path.now.bytes) (meta_of c.in-Some.meta) c.in_ok-standing.standing
    c.in_ok-standing.ensures.ok (ap (λ (s : State). s.map) c.meta.ensures.looks.live)) c.len.ensures c.in_err-told.ensures))

pub returns-in-None-clause-ok : goal.returns-in-None-clause-ok
returns-in-None-clause-ok g c =
    none_gotten c.args.method c.args.session.now.stores.stores.map c.standing_known.new.self.stores.stores.map c.args.path.now c.args.headers.now (meta_of c.in-Some.meta) c.in_ok-standing.standing
    c.args.response.now c.not_modified.new.response
    (sym (ap (option_map meta_of) c.in-Some.is) ∙ c.meta.ensures.found
    ∙ ap (λ p. option_map (λ (r : Resource). meta_at r.node) (at_path c.args.session.now.stores.stores.map (segments p.bytes))) c.in_ok-copy_of.ensures)
    (standing_there c.args.session.now.stores.stores.map c.meta.new.self.stores.stores.map (segments c.args.path.now.bytes) (meta_of c.in-Some.meta) c.in_ok-standing.standing
    c.in_ok-standing.ensures.ok (ap (λ (s : State). s.map) c.meta.ensures.looks.live)) (ap (λ (s : State). s.map) (looks_on c.meta.ensures.looks c.standing_known.ensures.looks).live)
    c.not_modified.result (told_is c.args.method c.args.session.now.stores.stores.map (segments c.args.path.now.bytes) (meta_of c.in-Some.meta) c.args.headers.now c.in_ok-standing.standing c.len.result (Ok None) (standing_there c.args.session.now.stores.stores.map c.meta.new.self.stores.stores.map (segments c.args.path.now.bytes) (meta_of c.in-Some.meta) c.in_ok-standing.standing
    c.in_ok-standing.ensures.ok (ap (λ (s : State). s.map) c.meta.ensures.looks.live)) c.len.ensures
    (sym (ap Ok c.in-None.is) ∙ c.in_ok-told.ensures))
    (ap (λ b. b.items) c.not_modified.ensures.body ∙ c.requires) c.not_modified.ensures.ok

pub returns-in-Some-Whole-clause-ok : goal.returns-in-Some-Whole-clause-ok
returns-in-Some-Whole-clause-ok g c =
    whole_gotten c.args.method c.args.session.now.stores.stores.map c.standing_known.new.self.stores.stores.map c.args.path.now c.args.headers.now (meta_of c.in-Some.meta) c.in_ok-standing.standing
    c.args.response.now c.tell_whole.new.response
    (sym (ap (option_map meta_of) c.in-Some.is) ∙ c.meta.ensures.found
    ∙ ap (λ p. option_map (λ (r : Resource). meta_at r.node) (at_path c.args.session.now.stores.stores.map (segments p.bytes))) c.in_ok-copy_of.ensures)
    (standing_there c.args.session.now.stores.stores.map c.meta.new.self.stores.stores.map (segments c.args.path.now.bytes) (meta_of c.in-Some.meta) c.in_ok-standing.standing
    c.in_ok-standing.ensures.ok (ap (λ (s : State). s.map) c.meta.ensures.looks.live)) (ap (λ (s : State). s.map) (looks_on c.meta.ensures.looks c.standing_known.ensures.looks).live)
    c.tell_whole.result (told_is c.args.method c.args.session.now.stores.stores.map (segments c.args.path.now.bytes) (meta_of c.in-Some.meta) c.args.headers.now c.in_ok-standing.standing c.len.result (Ok (Some extent.Whole)) (standing_there c.args.session.now.stores.stores.map c.meta.new.self.stores.stores.map (segments c.args.path.now.bytes) (meta_of c.in-Some.meta) c.in_ok-standing.standing
    c.in_ok-standing.ensures.ok (ap (λ (s : State). s.map) c.meta.ensures.looks.live)) c.len.ensures
    (sym (ap Ok (c.in-Some-Whole.is ∙ ap Some c.in-Some-Whole.field-0-is)) ∙ c.in_ok-told.ensures))
    c.tell_whole.ensures.ok c.tell_whole.ensures.bytes
    (whole_page c.args.session.now.stores.stores.map c.args.path.now c.tell_whole.new.response.body.items c.standing_known.new.self.stores.stores.map (meta_of c.in-Some.meta) c.tell_whole.result
    (sym (ap (option_map meta_of) c.in-Some.is) ∙ c.meta.ensures.found
    ∙ ap (λ p. option_map (λ (r : Resource). meta_at r.node) (at_path c.args.session.now.stores.stores.map (segments p.bytes))) c.in_ok-copy_of.ensures)
    (ap (λ (s : State). s.map) (looks_on c.meta.ensures.looks c.standing_known.ensures.looks).live) c.tell_whole.ensures.page)

pub returns-in-Some-Part-clause-ok : goal.returns-in-Some-Part-clause-ok
returns-in-Some-Part-clause-ok g c =
    part_gotten c.args.method c.args.session.now.stores.stores.map c.standing_known.new.self.stores.stores.map c.args.path.now c.args.headers.now (meta_of c.in-Some.meta) c.in_ok-standing.standing
    c.args.response.now c.tell_part.new.response
    (sym (ap (option_map meta_of) c.in-Some.is) ∙ c.meta.ensures.found
    ∙ ap (λ p. option_map (λ (r : Resource). meta_at r.node) (at_path c.args.session.now.stores.stores.map (segments p.bytes))) c.in_ok-copy_of.ensures)
    (standing_there c.args.session.now.stores.stores.map c.meta.new.self.stores.stores.map (segments c.args.path.now.bytes) (meta_of c.in-Some.meta) c.in_ok-standing.standing
    c.in_ok-standing.ensures.ok (ap (λ (s : State). s.map) c.meta.ensures.looks.live)) (ap (λ (s : State). s.map) (looks_on c.meta.ensures.looks c.standing_known.ensures.looks).live)
    c.in-Some-Part.first c.in-Some-Part.end c.tell_part.result
    (told_is c.args.method c.args.session.now.stores.stores.map (segments c.args.path.now.bytes) (meta_of c.in-Some.meta) c.args.headers.now c.in_ok-standing.standing c.len.result (Ok (Some (extent.Part c.in-Some-Part.first c.in-Some-Part.end))) (standing_there c.args.session.now.stores.stores.map c.meta.new.self.stores.stores.map (segments c.args.path.now.bytes) (meta_of c.in-Some.meta) c.in_ok-standing.standing
    c.in_ok-standing.ensures.ok (ap (λ (s : State). s.map) c.meta.ensures.looks.live)) c.len.ensures
    (sym (ap Ok (c.in-Some-Part.is ∙ ap Some c.in-Some-Part.field-0-is)) ∙ c.in_ok-told.ensures))
    c.tell_part.ensures.ok c.tell_part.ensures.bytes

pub returns-in-Some-Part-clause-err : goal.returns-in-Some-Part-clause-err
returns-in-Some-Part-clause-err g c =
    part_fails c.args.method c.args.session.now.stores.stores.map c.standing_known.new.self.stores.stores.map c.args.path.now c.args.headers.now (meta_of c.in-Some.meta) c.in_ok-standing.standing
    c.args.response.now c.tell_part.new.response
    (sym (ap (option_map meta_of) c.in-Some.is) ∙ c.meta.ensures.found
    ∙ ap (λ p. option_map (λ (r : Resource). meta_at r.node) (at_path c.args.session.now.stores.stores.map (segments p.bytes))) c.in_ok-copy_of.ensures)
    (standing_there c.args.session.now.stores.stores.map c.meta.new.self.stores.stores.map (segments c.args.path.now.bytes) (meta_of c.in-Some.meta) c.in_ok-standing.standing
    c.in_ok-standing.ensures.ok (ap (λ (s : State). s.map) c.meta.ensures.looks.live)) (ap (λ (s : State). s.map) (looks_on c.meta.ensures.looks c.standing_known.ensures.looks).live)
    c.in-Some-Part.first c.in-Some-Part.end c.tell_part.result
    (told_is c.args.method c.args.session.now.stores.stores.map (segments c.args.path.now.bytes) (meta_of c.in-Some.meta) c.args.headers.now c.in_ok-standing.standing c.len.result (Ok (Some (extent.Part c.in-Some-Part.first c.in-Some-Part.end))) (standing_there c.args.session.now.stores.stores.map c.meta.new.self.stores.stores.map (segments c.args.path.now.bytes) (meta_of c.in-Some.meta) c.in_ok-standing.standing
    c.in_ok-standing.ensures.ok (ap (λ (s : State). s.map) c.meta.ensures.looks.live)) c.len.ensures
    (sym (ap Ok (c.in-Some-Part.is ∙ ap Some c.in-Some-Part.field-0-is)) ∙ c.in_ok-told.ensures))
    c.tell_part.ensures.err

pub returns-clause-ok : goal.returns-clause-ok
returns-clause-ok g c =
    unsatisfied_gotten c.args.method c.args.session.now.stores.stores.map c.standing_known.new.self.stores.stores.map c.args.path.now c.args.headers.now (meta_of c.in-Some.meta) c.in_ok-standing.standing
    c.args.response.now c.unsatisfied.new.response
    (sym (ap (option_map meta_of) c.in-Some.is) ∙ c.meta.ensures.found
    ∙ ap (λ p. option_map (λ (r : Resource). meta_at r.node) (at_path c.args.session.now.stores.stores.map (segments p.bytes))) c.in_ok-copy_of.ensures)
    (standing_there c.args.session.now.stores.stores.map c.meta.new.self.stores.stores.map (segments c.args.path.now.bytes) (meta_of c.in-Some.meta) c.in_ok-standing.standing
    c.in_ok-standing.ensures.ok (ap (λ (s : State). s.map) c.meta.ensures.looks.live)) (ap (λ (s : State). s.map) (looks_on c.meta.ensures.looks c.standing_known.ensures.looks).live)
    c.len-in-Some-Unsatisfiable.result c.unsatisfied.result (told_is c.args.method c.args.session.now.stores.stores.map (segments c.args.path.now.bytes) (meta_of c.in-Some.meta) c.args.headers.now c.in_ok-standing.standing c.len.result (Ok (Some extent.Unsatisfiable)) (standing_there c.args.session.now.stores.stores.map c.meta.new.self.stores.stores.map (segments c.args.path.now.bytes) (meta_of c.in-Some.meta) c.in_ok-standing.standing
    c.in_ok-standing.ensures.ok (ap (λ (s : State). s.map) c.meta.ensures.looks.live)) c.len.ensures
    (sym (ap Ok (c.in-Some-Unsatisfiable.is ∙ ap Some c.in-Some-Unsatisfiable.field-0-is)) ∙ c.in_ok-told.ensures))
    c.len-in-Some-Unsatisfiable.ensures (ap (λ b. b.items) c.unsatisfied.ensures.body ∙ c.requires) c.unsatisfied.ensures.ok

-- ---- a part is of a file

pub tell_part-requires-clause-file : goal.tell_part-requires-clause-file
tell_part-requires-clause-file g c =
    part_of_file c.args.method c.args.session.now.stores.stores.map (segments c.args.path.now.bytes) (meta_of c.in-Some.meta) c.args.headers.now c.in-Some-Part.first c.in-Some-Part.end
    (told_is c.args.method c.args.session.now.stores.stores.map (segments c.args.path.now.bytes) (meta_of c.in-Some.meta) c.args.headers.now c.in_ok-standing.standing c.len.result (Ok (Some (extent.Part c.in-Some-Part.first c.in-Some-Part.end))) (standing_there c.args.session.now.stores.stores.map c.meta.new.self.stores.stores.map (segments c.args.path.now.bytes) (meta_of c.in-Some.meta) c.in_ok-standing.standing
    c.in_ok-standing.ensures.ok (ap (λ (s : State). s.map) c.meta.ensures.looks.live)) c.len.ensures
    (sym (ap Ok (c.in-Some-Part.is ∙ ap Some c.in-Some-Part.field-0-is)) ∙ c.in_ok-told.ensures))

-- ---- questions alone

pub returns-in-Some-Whole-clause-looks : goal.returns-in-Some-Whole-clause-looks
returns-in-Some-Whole-clause-looks g c = looks_on (looks_on c.meta.ensures.looks c.standing_known.ensures.looks) c.tell_whole.ensures.looks

pub returns-in-Some-Part-clause-looks : goal.returns-in-Some-Part-clause-looks
returns-in-Some-Part-clause-looks g c = looks_on (looks_on c.meta.ensures.looks c.standing_known.ensures.looks) c.tell_part.ensures.looks

pub returns-in_err-standing-clause-looks : goal.returns-in_err-standing-clause-looks
returns-in_err-standing-clause-looks g c = looks_on c.meta.ensures.looks c.standing_known.ensures.looks

pub returns-in_err-told-clause-looks : goal.returns-in_err-told-clause-looks
returns-in_err-told-clause-looks g c = looks_on c.meta.ensures.looks c.standing_known.ensures.looks

pub returns-in-None-clause-looks : goal.returns-in-None-clause-looks
returns-in-None-clause-looks g c = looks_on c.meta.ensures.looks c.standing_known.ensures.looks

pub returns-clause-looks : goal.returns-clause-looks
returns-clause-looks g c = looks_on c.meta.ensures.looks c.standing_known.ensures.looks
