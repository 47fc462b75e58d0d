use Rattle.std.proofs.Common.{◌≡◌, ◌≤◌, drop}
use Rattle.dav_xml_core.specs.References.{number_from, radix_of}
use Rattle.dav_xml_core.proofs.davxml.references.number_of.Given as goal

abbrev pub invariant-loop-c : goal.invariant-loop-c
invariant-loop-c l = record { same : number_from l.hex l.number (drop l.c-index l.digits) ≡ number_from l.hex 0 l.digits; fits : l.number ≤ 0x10FFFF; base : l.base ≡ radix_of l.hex }
