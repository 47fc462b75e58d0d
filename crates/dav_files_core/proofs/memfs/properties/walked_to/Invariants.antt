use Rattle.std.proofs.Common.{◌≡◌}
use Rattle.std.specs.Ordering.{is_eq}
use Rattle.std.specs.Map.{lookup}
use Rattle.dav_files_core.specs.Resources.{key_cmp}
use Rattle.dav_files_core.proofs.memfs.properties.walked_to.Given as goal

abbrev pub invariant-loop-key : goal.invariant-loop-key
invariant-loop-key l = lookup (λ k. is_eq (key_cmp (l.namespace, l.name) k)) l.map.entries ≡ lookup (λ k. is_eq (key_cmp (l.namespace, l.name) k)) l.key-iterator
