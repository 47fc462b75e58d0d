use Rattle.std.proofs.Common.{map}
use Rattle.std.proofs.lemmas.Result.{IfOk-weaker}
use Rattle.dav_path_core.specs.Segments.{segments}
use Rattle.dav_files_core.specs.Meta.{meta_of}
use Rattle.dav_files_core.specs.Properties.{property_of}
use Rattle.dav_session_core.specs.Sessions as spec
use Rattle.dav_documents_core.specs.DescriptionViews.{description_of}
use Rattle.dav_safe_methods_core.proofs.DescribingLemmas.{described_as}
use Rattle.dav_safe_methods_core.proofs.describing.describe.Goals as goal

pub returns-clause-ok : goal.returns-clause-ok
returns-clause-ok g c =
    let found = c.in_ok-found.found in
    IfOk-weaker c.described.result _ _
    (λ d told. described_as c.args.prefix.now (spec.live_of g.R.Rng.stream c.args.session.now) (segments c.args.place.now.bytes) (meta_of found.meta) (map property_of found.props.items) found.locks.items (description_of d)
    c.in_ok-found.ensures.meta c.in_ok-found.ensures.props c.in_ok-found.ensures.locks told) c.described.ensures.ok
