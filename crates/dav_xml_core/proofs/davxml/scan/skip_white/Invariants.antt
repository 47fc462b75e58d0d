use Rattle.std.proofs.Common.{◌≡◌, drop}
use Rattle.dav_xml_core.specs.Scanning.{skip_white}
use Rattle.dav_xml_core.proofs.davxml.scan.skip_white.Given as goal

abbrev pub invariant-loop-i : goal.invariant-loop-i
invariant-loop-i l = skip_white (drop l.i l.text) ≡ skip_white l.text
