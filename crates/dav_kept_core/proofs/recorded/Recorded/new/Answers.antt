use Rattle.std.proofs.Common.{[], refl, sym, append-nil}
use Rattle.dav_handler_core.specs.ServerViews.{server}
use Rattle.dav_kept_core.specs.KeptServers.{stores_in}
use Rattle.dav_kept_core.proofs.recorded.Recorded.new.Goals as goal

pub returns : goal.returns
returns g c = λ records last stand le fresh. record {
  old = records;
  start = stores_in (server g.R.Rng.stream c.args.timed.dav);
  from = last;
  stand = stand;
  calls = [];
  made = [];
  are = tt;
  all = sym (append-nil records);
  leads = (le, refl);
  fresh = fresh;
}
