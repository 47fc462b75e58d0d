use Rattle.std.proofs.Common.{[], subst}
use Rattle.std.proofs.lemmas.Result.{IfOk-weaker}
use Rattle.http_server.specs.Response.{fields_of}
use Rattle.dav_files_core.specs.Meta.{meta_of}
use Rattle.dav_fields_core.specs.Getting.{tags_by}
use Rattle.dav_safe_methods_core.proofs.GetMethodLemmas.{folder_known}
use Rattle.dav_path_core.specs.Segments.{segments}
use Rattle.dav_fields_core.specs.Marking.{IsRead}
use Rattle.dav_fields_core.proofs.ReadMarks.{on_ok}
use Rattle.dav_safe_methods_core.proofs.get.tell_whole.Goals as goal

pub returns-clause-bytes : goal.returns-clause-bytes
returns-clause-bytes g c = on_ok c.tell_bytes.result _ _
    (λ read kind. subst (λ n. IsRead c.args.session.now.stores.stores.map (segments c.args.path.now.bytes) 0 n c.tell_bytes.new.response.body.items) c.len-count.ensures read)
    c.tell_bytes.ensures.bytes

pub returns-then-is_dir-clause-ok : goal.returns-then-is_dir-clause-ok
returns-then-is_dir-clause-ok g c =
    IfOk-weaker c.tell_folder.result _ _ (λ status h. (
      h.0,
      folder_known (fields_of c.args.response.now) (segments c.args.path.now.bytes) (meta_of c.args.meta.now) [] (tags_by c.args.standing.now) (fields_of c.tell_folder.new.response)
          (c.is_dir.ensures.0 c.if-is_dir.true) h.1,
    )) c.tell_folder.ensures.ok
