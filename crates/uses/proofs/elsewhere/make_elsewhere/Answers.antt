use Rattle.dav_path_core.specs.Segments.{segments}
use Rattle.uses.proofs.MadeThenMoved.{stands_elsewhere}
use Rattle.uses.proofs.elsewhere.make_elsewhere.Goals as goal

pub returns : goal.returns
returns g c =
    stands_elsewhere (g.F.DavFileSystem.contents c.args.files.now) (g.F.DavFileSystem.contents c.create_dir.new.self) (g.F.DavFileSystem.contents c.rename.new.self)
    (segments c.args.first.now.bytes) (segments c.args.second.now.bytes) c.args.now.0 c.rename.result c.in_ok-create_dir.ensures.ok c.rename.ensures.ok
