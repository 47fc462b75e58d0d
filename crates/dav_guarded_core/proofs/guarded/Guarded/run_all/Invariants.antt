use Rattle.std.proofs.Common.{◌≡◌, ◌≤◌, take, map, length, vec_len, vec_capacity}
use Rattle.dav_files_core.specs.Resources.{IsResourceMap}
use Rattle.dav_locks_core.specs.Exclusive.{Exclusive}
use Rattle.dav_guarded_core.specs.Step.{Run}
use Rattle.dav_guarded_core.specs.Served.{request_of, answer_of}
use Rattle.dav_guarded_core.specs.Stores.{state_of}
use Rattle.dav_guarded_core.proofs.guarded.Guarded.run_all.Given as goal

-- the answers so far are those of a run of the requests so far
abbrev pub invariant-loop-request : goal.invariant-loop-request
invariant-loop-request g l = record {
  ran : Run (state_of l.fn.self (g.R.Rng.stream l.fn.rng)) (map request_of (take l.request-index l.requests)) (map answer_of l.answers.items) (state_of l.self (g.R.Rng.stream l.rng));
  count : vec_len l.answers ≡ l.request-index;
  room : length l.requests ≤ vec_capacity l.answers;
  exclusive : Exclusive l.self.locks;
  shape : IsResourceMap l.self.map;
}
