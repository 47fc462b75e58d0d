use Rattle.std.proofs.Common.{◌≡◌, take, drop}
use Rattle.dav_xml_core.specs.Scanning.{until}
use Rattle.dav_xml_core.proofs.Fronts.{behind_front}
use Rattle.dav_xml_core.proofs.davxml.scan.until.Given as goal

abbrev pub invariant-loop-i : goal.invariant-loop-i
invariant-loop-i l = behind_front (take l.i l.text) (until l.mark (drop l.i l.text)) ≡ until l.mark l.text
