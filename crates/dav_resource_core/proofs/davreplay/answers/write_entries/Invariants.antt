use Rattle.std.proofs.Common.{map, take}
use Rattle.std.specs.Io.KnownBytes.{Appends}
use Rattle.std.specs.List.{flat_map}
use Rattle.dav_files_core.specs.Listing.{listed_entry}
use Rattle.dav_resource_core.specs.AnswerTexts.{member_text}
use Rattle.dav_resource_core.proofs.davreplay.answers.write_entries.Given as goal

abbrev pub invariant-loop-entry : goal.invariant-loop-entry
invariant-loop-entry g l = Appends (g.O.Write.contents l.initial.output) (g.O.Write.contents l.output) (flat_map member_text (map listed_entry (take l.entry-index l.entries)))
