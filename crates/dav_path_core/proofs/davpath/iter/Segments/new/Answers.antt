use Rattle.dav_path_core.proofs.paths.SegmentLemmas.{length-segments}
use Rattle.dav_path_core.proofs.davpath.iter.Segments.new.Goals as goal

pub returns-clause-few : goal.returns-clause-few
returns-clause-few c = length-segments c.args.bytes.now
