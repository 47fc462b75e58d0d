use Rattle.std.proofs.Common.{ℕ, ◌+◌, map}
use Rattle.dav_path_core.specs.Segments.{segments}
use Rattle.uses.specs.Sizes.{HaveSize}
use Rattle.uses.proofs.sizes.size_of_all.Given as goal

-- the folders at first have the size so far and what the folders that are left have
abbrev pub invariant-loop : goal.invariant-loop
invariant-loop g l = (more : ℕ) → HaveSize (g.F.DavFileSystem.contents l.fs) (map (λ p. segments p.bytes) l.waiting.items) more
    → HaveSize (g.F.DavFileSystem.contents l.fs) (map (λ p. segments p.bytes) l.initial.waiting.items) (l.size + more)
