use Rattle.std.proofs.Common.{◌≡◌, ◌∙◌, false, map, string_bytes, sym, ap}
use Rattle.dav_path_core.specs.Segments.{segments}
use Rattle.dav_fields_core.specs.IfTokens.{is_among}
use Rattle.dav_session_core.specs.Sessions as spec
use Rattle.dav_session_core.proofs.GrantLemmas.{not_above}
use Rattle.dav_methods_core.proofs.LockLemmas.{back}
use Rattle.dav_methods_core.proofs.methods.lock.forget.Goals as goal

pub returns-then-not-is_among-clause-left : goal.returns-then-not-is_among-clause-left
returns-then-not-is_among-clause-left g c = λ s l once is path named have only.
    let p = segments c.args.path.bytes in
    let above = map string_bytes c.args.above.now in
    let none : is_among above (string_bytes c.args.token) ≡ false = sym (c.is_among.ensures ∙ ap (is_among above) c.deref.ensures) ∙ c.if-not-is_among.true in
    back s (spec.caller c.args.session.now) p once (spec.state g.R.Rng.stream c.take_back.new.self)
    (c.take_back.ensures.taken s l is path named (not_above s p above (string_bytes c.args.token) have none))
