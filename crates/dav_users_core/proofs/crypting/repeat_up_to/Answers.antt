use Rattle.dav_users_core.proofs.CryptLemmas.{filled_once}
use Rattle.dav_users_core.proofs.crypting.repeat_up_to.Goals as goal

pub filling-preserved : goal.filling-preserved
filling-preserved c = record {
  items = filled_once c.args.count c.filling.counter c.args.bytes.now c.filling.text.items c.fill.new.text.items c.filling.invariant.items c.fill.ensures.items;
  len = c.fill.ensures.len;
}
