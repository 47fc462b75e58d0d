use Rattle.dav_headers_core.proofs.numbers.TimeoutLaws.{timeouts_round_trip}
use Rattle.dav_headers_core.proofs.davheaders.timeouts.timeouts_round_trip.Goals as goal

pub returns : goal.returns
returns c timeouts some within = timeouts_round_trip timeouts some within
