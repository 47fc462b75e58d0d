use Rattle.dav_kept_core.specs.KeptServers.{BeginsKept, ClockedKept, ListedKept, RepliesKept, StandsForServer, kept_server}
use Rattle.kept_frames.proofs.KeptViews.{late_to}
use Rattle.dav_kept_core.proofs.serving.serve_store_late.Goals as goal

-- the service is seen as a server that is kept
pub returns : goal.returns
returns g c =
    let see = kept_server g.R.Rng.stream in
    let tells = g.C.Clock.tells in
    record {
      kept = λ records has settled stands.
          late_to see (λ s n s'. BeginsKept tells (see s) n (see s')) (λ s request response s'. RepliesKept (see s) request response (see s')) (λ s moment s'. ClockedKept (see s) moment (see s'))
          (λ s file s'. ListedKept (see s) file (see s'))
          (λ records s. StandsForServer records (see s)) (BeginsKept tells) RepliesKept ClockedKept ListedKept StandsForServer (λ s n s' x. x) (λ s request response s' x. x) (λ s moment s' x. x) (λ s file s' x. x) (λ records s x. x)
          g.D.Disk.seen g.D.Disk.may_leave g.D.Disk.is_clean g.O.Write.contents c.serve_late.result c.args.clients.now c.serve_late.new.clients c.args.server.now.service c.serve_late.new.service.service
          c.args.journal.now c.serve_late.new.journal _ _ c.args.output.now c.serve_late.new.output (c.serve_late.ensures.kept records has settled stands);
    }
