use Rattle.std.proofs.Common.{◌≡◌, ◌+◌, ◌<◌, ◌++◌, List, map, length, string_bytes, sym, ap, ◌∙◌, subst, arith}
use Rattle.std.proofs.lemmas.Bool.{true≢false}
use Rattle.dav_path_core.specs.Fronts.{Path, is_front, parent}
use Rattle.dav_path_core.specs.PathText.{PathText}
use Rattle.dav_path_core.specs.Segments.{segments}
use Rattle.dav_path_core.proofs.paths.FrontLemmas.{is_front-refl, is_front-trans}
use Rattle.dav_locks_core.specs.Lock.{Lock}
use Rattle.dav_locks_core.specs.Locks.{discovered_locks}
use Rattle.dav_guarded_core.specs.Step.{State}
use Rattle.dav_session_core.specs.Callers.{live}
use Rattle.dav_session_core.specs.Granting.{AreAbove}
use Rattle.dav_session_core.specs.Sessions as spec
use Rattle.dav_session_core.proofs.ConditionLemmas.{same_state}
use Rattle.dav_session_core.proofs.Looking.{as_looks, looks_none, looks_on}
use Rattle.dav_session_core.proofs.GrantLemmas.{TokensSoFar, no_tokens_yet, only_more, tokens_up, tokens_whole}
use Rattle.dav_path_core.proofs.paths.AbovePaths.{one_less, parent_front}
use Rattle.dav_session_core.proofs.session.Session.tokens_above.Goals as goal

pub loop-init : goal.loop-init
loop-init g c =
    let who = spec.caller c.args.self.now in
    let start = spec.state g.R.Rng.stream c.args.self.now in
    let p = segments c.args.path.now.bytes in
    let here : segments c.in_ok-here.here.bytes ≡ p = ap (λ (path : PathText). segments path.bytes) c.in_ok-here.ensures in
    record {
      looks = looks_none g.R.Rng.stream c.args.self.now;
      left = omega (arith, ap length here);
      tokens = subst (λ (q : Path). TokensSoFar (live who.now start) p q (map string_bytes c.new-tokens.result.items)) (sym here)
          (no_tokens_yet (live who.now start) p (map string_bytes c.new-tokens.result.items));
      front = ap (λ (q : Path). is_front q p) here ∙ is_front-refl p;
      only = subst (λ (tokens : List _). AreAbove (live who.now start) p (map string_bytes tokens)) (sym c.new-tokens.ensures.items) (λ token none. absurd (true≢false (sym none)));
    }

pub loop-preserved : goal.loop-preserved
loop-preserved g c =
    let who = spec.caller c.args.self.now in
    let start = spec.state g.R.Rng.stream c.args.self.now in
    let s = live who.now start in
    let p = segments c.args.path.now.bytes in
    let here = segments c.loop.here.bytes in
    let up : segments c.in_ok-here-2.here.bytes ≡ parent here = c.in_ok-here-2.ensures.above in
    let same = same_state who start (spec.caller c.loop.self) (spec.state g.R.Rng.stream c.loop.self) (as_looks c.loop.invariant.looks) in
    let added = c.in_ok-add_tokens_at.ensures.ok ∙ ap (λ (t : State). map string_bytes c.loop.tokens.items ++ map (λ (l : Lock). l.token) (discovered_locks t.locks here)) same in
    record {
      looks = looks_on c.loop.invariant.looks c.add_tokens_at.ensures.looks;
      left = ap (λ (q : Path). length q + (c.loop.counter + 1)) up ∙ one_less here c.loop.counter (length p) c.loop.invariant.left (subst (λ n. c.loop.counter < n) c.depth_of-end.ensures c.loop-test.true);
      tokens = subst (λ (q : Path). TokensSoFar s p q (map string_bytes c.add_tokens_at.new.tokens.items)) (sym up)
          (tokens_up s p here (map string_bytes c.loop.tokens.items) (map string_bytes c.add_tokens_at.new.tokens.items) added c.loop.invariant.tokens);
      front = ap (λ (q : Path). is_front q p) up ∙ is_front-trans (parent here) here p (parent_front here) c.loop.invariant.front;
      only = only_more s p here (map string_bytes c.loop.tokens.items) (map string_bytes c.add_tokens_at.new.tokens.items) c.loop.invariant.front added c.loop.invariant.only;
    }

pub returns-clause-ok : goal.returns-clause-ok
returns-clause-ok g c =
    let who = spec.caller c.args.self.now in
    let start = spec.state g.R.Rng.stream c.args.self.now in
    let here = segments c.loop.here.bytes in
    let same = same_state who start (spec.caller c.loop.self) (spec.state g.R.Rng.stream c.loop.self) (as_looks c.loop.invariant.looks) in
    let added = c.in_ok-add_tokens_at-2.ensures.ok ∙ ap (λ (t : State). map string_bytes c.loop.tokens.items ++ map (λ (l : Lock). l.token) (discovered_locks t.locks here)) same in
    tokens_whole (live who.now start) (segments c.args.path.now.bytes) here (map string_bytes c.loop.tokens.items) (map string_bytes c.add_tokens_at-2.new.tokens.items)
    (omega (arith, c.loop.invariant.left, c.loop-test.false, c.depth_of-end.ensures)) added c.loop.invariant.tokens

pub returns-clause-only : goal.returns-clause-only
returns-clause-only g c =
    let who = spec.caller c.args.self.now in
    let start = spec.state g.R.Rng.stream c.args.self.now in
    let here = segments c.loop.here.bytes in
    let same = same_state who start (spec.caller c.loop.self) (spec.state g.R.Rng.stream c.loop.self) (as_looks c.loop.invariant.looks) in
    let added = c.in_ok-add_tokens_at-2.ensures.ok ∙ ap (λ (t : State). map string_bytes c.loop.tokens.items ++ map (λ (l : Lock). l.token) (discovered_locks t.locks here)) same in
    only_more (live who.now start) (segments c.args.path.now.bytes) here (map string_bytes c.loop.tokens.items) (map string_bytes c.add_tokens_at-2.new.tokens.items)
    c.loop.invariant.front added c.loop.invariant.only

pub returns-in_err-add_tokens_at-clause-looks : goal.returns-in_err-add_tokens_at-clause-looks
returns-in_err-add_tokens_at-clause-looks g c = looks_on c.loop.invariant.looks c.add_tokens_at.ensures.looks

pub returns-in_err-here-2-clause-looks : goal.returns-in_err-here-2-clause-looks
returns-in_err-here-2-clause-looks g c = looks_on c.loop.invariant.looks c.add_tokens_at.ensures.looks

pub returns-in_err-add_tokens_at-2-clause-looks : goal.returns-in_err-add_tokens_at-2-clause-looks
returns-in_err-add_tokens_at-2-clause-looks g c = looks_on c.loop.invariant.looks c.add_tokens_at-2.ensures.looks

pub returns-clause-looks : goal.returns-clause-looks
returns-clause-looks g c = looks_on c.loop.invariant.looks c.add_tokens_at-2.ensures.looks
