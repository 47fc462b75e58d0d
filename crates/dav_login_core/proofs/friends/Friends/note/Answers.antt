use Rattle.std.proofs.Common.{is_ok}
use Rattle.dav_login_core.proofs.DigestLemmas.{lets_in}
use Rattle.dav_login_core.proofs.friends.Friends.note.Goals as goal

pub returns : goal.returns
returns c = lets_in (is_ok c.push_back-kept.result) c.args.self.now.let_in.items c.take_out.new.self.let_in.items c.make_room.new.self.let_in.items _ c.args.label c.args.now c.take_out.ensures c.make_room.ensures.let_in c.push_back-kept.ensures.items
