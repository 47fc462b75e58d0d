use Rattle.std.proofs.Common.{[], ◌∷◌}
use Rattle.std.specs.Prelude.{codes}
use Rattle.http_server.specs.Response.{fields_of}
use Rattle.dav_fields_core.specs.AnswerFields.{allow_field}
use Rattle.dav_fields_core.proofs.FieldLemmas.{both_added, constant_added}
use Rattle.dav_fields_core.proofs.fields.add_options.Goals as goal

pub returns-clause-fields : goal.returns-clause-fields
returns-clause-fields c =
    let old = fields_of c.args.response.now in
    let one = fields_of c.add_header.new.self in
    let two = fields_of c.add_header-2.new.self in
    let three = fields_of c.add_header-3.new.self in
    let dav = (codes "dav", codes "1, 2") ∷ [] in
    let allow = allow_field (codes "OPTIONS, GET, HEAD, PUT, DELETE, COPY, MOVE, MKCOL, PROPFIND, PROPPATCH, LOCK, UNLOCK") ∷ [] in
    let via = (codes "ms-author-via", codes "DAV") ∷ [] in
    both_added old one three dav (allow_field (codes "OPTIONS, GET, HEAD, PUT, DELETE, COPY, MOVE, MKCOL, PROPFIND, PROPPATCH, LOCK, UNLOCK") ∷ via)
    (constant_added old one c.from_static.result c.from_static-2.result (codes "dav") (codes "1, 2") c.in_ok-add_header.ensures.headers c.from_static.ensures c.from_static-2.ensures)
    (both_added one two three allow via
    (constant_added one two c.from_static-3.result c.from_static-4.result (codes "allow") _ c.in_ok-add_header-2.ensures.headers c.from_static-3.ensures c.from_static-4.ensures)
    (constant_added two three c.from_static-5.result c.from_static-6.result (codes "ms-author-via") (codes "DAV") c.in_ok-add_header-3.ensures.headers c.from_static-5.ensures c.from_static-6.ensures))
