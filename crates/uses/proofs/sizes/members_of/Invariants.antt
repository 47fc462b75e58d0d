use Rattle.std.proofs.Common.{ℕ, ◌+◌, map}
use Rattle.dav_path_core.specs.Segments.{segments}
use Rattle.uses.specs.Sizes.{HaveSize, member_paths}
use Rattle.uses.proofs.sizes.members_of.Given as goal

-- the members so far have the length so far and what the folders among them have
abbrev pub invariant-loop-member : goal.invariant-loop-member
invariant-loop-member g l = (size : ℕ) → HaveSize (g.F.DavFileSystem.contents l.fs) (map (λ p. segments p.bytes) l.folders.items) size
    → HaveSize (g.F.DavFileSystem.contents l.fs) (member_paths (segments l.folder.bytes) (map g.F.Entry.DavDirEntry.listed l.yielded)) (l.length + size)
