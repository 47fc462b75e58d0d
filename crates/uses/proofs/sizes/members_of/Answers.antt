use Rattle.std.proofs.Common.{◌+◌, length, sym, ap, ◌∙◌, subst, arith}
use Rattle.std.proofs.lemmas.Iterator.Adapters.{YieldsList-from_vec}
use Rattle.std.proofs.lemmas.Iterator.Consumers.{YieldsList-turn, YieldsList-end}
use Rattle.dav_path_core.specs.Segments.{segments}
use Rattle.uses.proofs.SizeLemmas.{Known, folder_counts, known_at, length_counts, listing_has, listing_known, none_yet, not_folder}
use Rattle.uses.proofs.sizes.members_of.Goals.{then-is_dir+in_ok-path_of_member+in_ok-push, else-is_dir+in_ok-length}
use Rattle.uses.proofs.sizes.members_of.Goals as goal

pub loop-member-init : goal.loop-member-init
loop-member-init g c = λ size. none_yet (g.F.DavFileSystem.contents c.args.fs.now) g.F.Entry.DavDirEntry.listed (segments c.args.folder.now.bytes) (λ p. segments p.bytes) c.new-folders.result.items size c.new-folders.ensures.items

pub loop-member-preserved : goal.loop-member-preserved
loop-member-preserved g c = λ size.
    let m = g.F.DavFileSystem.contents c.args.fs.now in
    let told = g.F.Entry.DavDirEntry.listed in
    let p = segments c.args.folder.now.bytes in
    let items = c.in_ok-member-items.member-items.items in
    let taken = c.into_iter-member-iterator.ensures.into_iter_gives in
    let all = YieldsList-from_vec items taken.0 (omega (arith, taken.1, c.in_ok-member-items.member-items.ok.0)) in
    let t = YieldsList-turn all c.loop-member.yielded c.loop-member.member-iterator c.loop-member.yielded_by c.next.result c.next.new.self c.in-Some.member c.in-Some.is c.next.ensures.steps in
    let known = subst (λ e. Known m p (told e)) (sym t.1) (known_at m told p items (listing_known m p _ c.in_ok-member-items.ensures.ok) (length c.loop-member.yielded) c.in-Some.member t.0) in
    let meta = g.F.Entry.Meta.DavMetaData.told c.in_ok-meta.meta in
    elim c.if-is_dir.branch [
      | then-is_dir+in_ok-path_of_member+in_ok-push w ↦
          folder_counts m told p (λ p. segments p.bytes) c.loop-member.yielded c.in-Some.member c.loop-member.folders.items w.push.new.self.items c.if-is_dir.folders.items w.in_ok-path_of_member.field-0 w.name.result.now c.loop-member.length c.if-is_dir.length size
          (ap (λ v. v.items) w.folders-is) w.in_ok-push.ensures.items w.in_ok-path_of_member.ensures w.name.ensures w.length-is c.loop-member.invariant
      | else-is_dir+in_ok-length w ↦
          length_counts m told p (λ p. segments p.bytes) c.loop-member.yielded c.in-Some.member c.loop-member.folders.items c.if-is_dir.folders.items meta c.loop-member.length c.if-is_dir.length size w.len.result
          (ap (λ v. v.items) w.folders-is) c.in_ok-meta.ensures.told known (not_folder meta.kind c.is_dir.result c.is_dir.ensures w.if-is_dir.false) w.len.ensures (w.length-is ∙ w.in_ok-length.ensures) c.loop-member.invariant
    ]

pub returns : goal.returns
returns g c = λ size have.
    let items = c.in_ok-member-items.member-items.items in
    let taken = c.into_iter-member-iterator.ensures.into_iter_gives in
    let all = YieldsList-from_vec items taken.0 (omega (arith, taken.1, c.in_ok-member-items.member-items.ok.0)) in
    let t = YieldsList-end all c.loop-member.yielded c.loop-member.member-iterator c.loop-member.yielded_by c.next.result c.next.new.self c.in-None.is c.next.ensures.steps in
    listing_has (g.F.DavFileSystem.contents c.args.fs.now) g.F.Entry.DavDirEntry.listed (segments c.args.folder.now.bytes) c.loop-member.yielded items (c.loop-member.length + size) t.0 c.in_ok-member-items.ensures.ok
    (c.loop-member.invariant size have)
