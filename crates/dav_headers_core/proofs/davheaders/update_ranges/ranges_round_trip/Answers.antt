use Rattle.dav_headers_core.proofs.numbers.RangeLaws.{range_round_trips}
use Rattle.dav_headers_core.proofs.davheaders.update_ranges.ranges_round_trip.Goals as goal

pub returns : goal.returns
returns c range within = range_round_trips range within
