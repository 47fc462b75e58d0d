use Rattle.dav_path_core.specs.Segments.{segments}
use Rattle.uses.proofs.SizeLemmas.{last_listed}
use Rattle.uses.proofs.sizes.list_last.Goals as goal

pub returns-in-Some : goal.returns-in-Some
returns-in-Some g c = λ size.
    last_listed (g.F.DavFileSystem.contents c.args.fs.now) (λ p. segments p.bytes)
    c.args.waiting.now.items c.pop.new.self.items c.in_ok-length-in-Some.folders.items c.append.new.self.items c.in-Some.folder c.in_ok-length-in-Some.length size
    c.in-Some.ensures.items c.in_ok-append-in-Some.ensures.items c.in_ok-length-in-Some.ensures
