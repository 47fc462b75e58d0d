use Rattle.std.proofs.Common.{refl}
use Rattle.std.specs.Prelude.{None, map, string_bytes}
use Rattle.dav_path_core.specs.Segments.{segments}
use Rattle.dav_resource_core.specs.Requests.{Command, Request}
use Rattle.dav_resource_core.specs.Served.{request_of, answer_of}
use Rattle.dav_resource_core.specs.Stores.{state_of}
use Rattle.uses.proofs.Asking.{asked_alone, asked_before}
use Rattle.uses.proofs.handling.found_at.Given.{Over}
use Rattle.uses.proofs.handling.found_at.Goals as goal

-- the question
abbrev asked : (g : Over) → goal.Joined-asked-2 g → Request
asked g c = record {
  principal = None;
  tokens = map string_bytes c.new.result.items;
  now = c.args.request.now.now.0;
  command = Command.Meta (segments c.in_ok-path.path.bytes);
}

pub returns-clause-start : goal.returns-clause-start
returns-clause-start g c =
    asked_before (state_of c.args.stores.now (g.R.Rng.stream c.args.rng.now)) (state_of c.apply-answer.new.self (g.R.Rng.stream c.apply-answer.new.rng))
    (request_of c.args.request.now) (asked g c) (segments c.in_ok-path.path.bytes) (answer_of c.apply-answer.result) refl refl c.apply-answer.ensures.step

pub returns-clause-map : goal.returns-clause-map
returns-clause-map g c =
    (asked_alone (state_of c.args.stores.now (g.R.Rng.stream c.args.rng.now)) (state_of c.apply-answer.new.self (g.R.Rng.stream c.apply-answer.new.rng))
    (asked g c) (segments c.in_ok-path.path.bytes) (answer_of c.apply-answer.result) refl c.apply-answer.ensures.step).map_is
