use Rattle.dav_fields_core.proofs.TaggedLemmas.{none_found, only_memory}
use Rattle.dav_fields_core.proofs.tagged.path_of.Goals as goal

pub returns-in-Err : goal.returns-in-Err
returns-in-Err c = record {
  ok = none_found c.args.prefix.now c.args.text.now c.in-Err.error (λ other path is. other (c.in-Err.ensures.only path is)) c.no_path.result c.no_path.ensures;
  err = only_memory c.in-Err.error c.no_path.result c.no_path.ensures;
}
