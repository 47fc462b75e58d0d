use Rattle.std.proofs.Common.{◌+◌, sym, subst}
use Rattle.dav_path_core.specs.Segments.{segments}
use Rattle.uses.specs.Sizes.{HasSize, file}
use Rattle.uses.proofs.SizeLemmas.{not_folder, whole_size}
use Rattle.uses.proofs.sizes.size_below.Goals as goal

pub returns-then-not-is_dir : goal.returns-then-not-is_dir
returns-then-not-is_dir g c =
    let m = g.F.DavFileSystem.contents c.args.fs.now in
    let meta = g.F.Meta.DavMetaData.told c.in_ok-meta.meta in
    let kind = not_folder meta.kind c.is_dir.result c.is_dir.ensures c.if-not-is_dir.true in
    subst (HasSize m (segments c.args.path.now.bytes)) (sym c.len.ensures) (file (segments c.args.path.now.bytes) meta c.in_ok-meta.ensures.ok kind)

pub returns : goal.returns
returns g c =
    whole_size (g.F.DavFileSystem.contents c.args.fs.now) c.sum_of.result (segments c.args.path.now.bytes) (c.in_ok-length.length + c.in_ok-size_of_all.field-0)
    c.sum_of.ensures (c.in_ok-length.ensures c.in_ok-size_of_all.field-0 c.in_ok-size_of_all.ensures)
