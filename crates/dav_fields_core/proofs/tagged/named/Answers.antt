use Rattle.std.proofs.lemmas.Result.{IfOk-weaker}
use Rattle.dav_fields_core.specs.TaggedLists.{base_of}
use Rattle.dav_fields_core.proofs.TaggedLemmas.{named_by}
use Rattle.dav_fields_core.proofs.tagged.named.Goals as goal

pub returns-clause-ok : goal.returns-clause-ok
returns-clause-ok c =
    IfOk-weaker c.path_of.result _ _ (named_by (base_of c.args.base.now c.args.here.now) c.args.url.now c.prefix.result.now c.path.result.now
    (c.is_same_server.ensures.0 c.if-not-is_same_server.false) c.prefix.ensures c.path.ensures.value) c.path_of.ensures.ok
