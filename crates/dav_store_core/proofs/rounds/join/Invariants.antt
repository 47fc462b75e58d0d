use Rattle.std.proofs.Common.{◌≡◌, ◌++◌, take}
use Rattle.std.specs.List.{flat_map}
use Rattle.dav_store_core.proofs.rounds.join.Given as goal

-- the bodies so far stand behind the head
abbrev pub invariant-joining : goal.invariant-joining
invariant-joining l = l.head.items ≡ l.fn.head.items ++ flat_map (λ body. body) (take l.body-index l.bodies)
