use Rattle.std.proofs.Common.{rules, map}
use Rattle.dav_notes_core.specs.Noting.{note_of}
use Rattle.dav_effects_core.proofs.CostLaws.{record_within}
use Rattle.dav_effects_core.proofs.pieces.write.Goals as goal

pub returns-clause-within : goal.returns-clause-within
returns-clause-within c = record_within (map note_of c.args.notes.now) _ (search rules)
