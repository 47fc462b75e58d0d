use Rattle.std.proofs.Common.{[]}
use Rattle.dav_effects_core.specs.Records.{bytes_of_pieces}
use Rattle.dav_store_core.proofs.compacting.snapshot_round.Goals as goal

pub returns-clause-ok : goal.returns-clause-ok
returns-clause-ok c = (bytes_of_pieces c.in-Ok.pieces, c.in-Ok.ensures.snapshot, c.in_ok-add_record.ensures.adds [] c.new-round.ensures)
