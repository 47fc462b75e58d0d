use Rattle.std.proofs.Common.{◌≡◌, ◌++◌, map}
use Rattle.dav_files_core.specs.Properties.{property_of}
use Rattle.dav_snapshots_core.proofs.setting_back.props_again.Given as goal

abbrev pub invariant-adding : goal.invariant-adding
invariant-adding l = map property_of l.again.items ++ l.prop-iterator ≡ l.fn.props
