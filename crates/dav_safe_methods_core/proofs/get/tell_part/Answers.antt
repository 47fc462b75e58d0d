use Rattle.std.proofs.Common.{◌≡◌, [], ◌∷◌, ◌++◌, ap, ◌∙◌, subst}
use Rattle.dav_fields_core.specs.AnswerFields.{part_field}
use Rattle.dav_fields_core.specs.Ranges.{part_text}
use Rattle.std.specs.Prelude.{IfOk}
use Rattle.http_server.specs.Response.{fields_of}
use Rattle.dav_files_core.specs.Meta.{meta_of}
use Rattle.dav_fields_core.specs.Getting.{tags_by}
use Rattle.dav_safe_methods_core.specs.Private.KnownFields.{HasKnownFields}
use Rattle.dav_path_core.specs.Segments.{segments}
use Rattle.dav_fields_core.specs.Marking.{IsRead}
use Rattle.dav_fields_core.proofs.ReadMarks.{on_ok}
use Rattle.dav_safe_methods_core.proofs.get.tell_part.Goals as goal

pub returns-clause-bytes : goal.returns-clause-bytes
returns-clause-bytes g c = on_ok c.tell_bytes.result _ _
    (λ read. subst (λ n. IsRead c.args.session.now.stores.stores.map (segments c.args.path.now.bytes) c.args.first n c.tell_bytes.new.response.body.items) c.saturating_sub-count.ensures read)
    c.tell_bytes.ensures.bytes

pub returns-clause-ok : goal.returns-clause-ok
returns-clause-ok g c =
    subst (λ first. IfOk c.tell_bytes.result (λ status. (status ≡ 206) × HasKnownFields first (segments c.args.path.now.bytes) (meta_of c.args.meta.now) (tags_by c.args.standing.now)
    (fields_of c.tell_bytes.new.response)))
    (c.in_ok-add_part.ensures.fields ∙ ap (λ size. fields_of c.args.response.now ++ part_field (part_text c.args.first c.args.end size) ∷ []) c.len.ensures) c.tell_bytes.ensures.ok
