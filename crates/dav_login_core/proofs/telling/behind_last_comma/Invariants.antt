use Rattle.std.proofs.Common.{◌≡◌, ◌+◌, ◌≤◌, length, take}
use Rattle.std.specs.List.{suffix_len}
use Rattle.dav_login_core.specs.ClientAddresses.{is_other_than_comma}
use Rattle.dav_login_core.proofs.telling.behind_last_comma.Given as goal

abbrev pub invariant-loop-start : goal.invariant-loop-start
invariant-loop-start l = (l.start ≤ length l.text) × (l.start + suffix_len is_other_than_comma l.text ≡ length l.text + suffix_len is_other_than_comma (take l.start l.text))

abbrev pub decreases-loop-start : goal.decreases-loop-start
decreases-loop-start l = l.start
