use Rattle.std.proofs.Common.{arith}
use Rattle.dav_users_core.proofs.CryptLemmas.{letters_on}
use Rattle.dav_users_core.proofs.letters.add_letters.Goals as goal

pub adding-preserved : goal.adding-preserved
adding-preserved c = record {
  items = letters_on c.args.count c.adding.counter c.adding.rest c.adding.text.items c.push.new.self.items _ c.adding-test.true c.adding.invariant.items c.push.ensures.items;
  len = omega (arith, c.push.ensures.len, c.adding.invariant.len);
}
