use Rattle.dav_kept_core.specs.BareServers.{as_served}
use Rattle.dav_kept_core.proofs.BareRuns.{run_served, served_so_far}
use Rattle.dav_kept_core.proofs.run_laws.kept_runs_are_served.Goals as goal

pub returns : goal.returns
returns g c =
    let tells = g.C.Clock.tells in
    let contents = g.O.Write.contents in
    record {
      served = λ result c c' s s' j j' input input' o o' x. run_served tells result c c' s s' input input' (contents o) (contents o') x.run;
      failed = λ fault result c c' s s' j j' input input' o o' x.
          served_so_far tells fault result c c' (as_served s) (as_served s') input input' (contents o) (contents o') (run_served tells result c c' s s' input input' (contents o) (contents o') x.run);
      late = λ result c c' s s' j j' input input' o o' x. run_served tells result c c' s s' input input' (contents o) (contents o') x.run;
      late_failed = λ fault result c c' s s' j j' input input' o o' x.
          served_so_far tells fault result c c' (as_served s) (as_served s') input input' (contents o) (contents o') (run_served tells result c c' s s' input input' (contents o) (contents o') x.run);
    }
