use Rattle.std.proofs.Common.{Result, Ok, Err, OnOk, OnErr, inl, inr}
use Rattle.dav_handler_core.proofs.serving.close_behind_refused.Goals as goal

either : {A E : Type 0} {P Q R : Type 0} (r : Result A E) → OnOk r P → OnErr r Q → (P → R) → (Q → R) → R
either (Ok a) p q f g = f p
either (Err e) p q f g = g q

pub returns : goal.returns
returns c = record {
  status = c.add_header-added.ensures.status;
  body = c.add_header-added.ensures.body;
  fields = either c.add_header-added.result c.add_header-added.ensures.headers c.add_header-added.ensures.kept
      (λ added. inr (c.is_long_refusal.ensures c.if-not-is_long_refusal.false, rw (c.from_static-name.ensures, c.from_static.ensures) at added)) (λ same. inl same);
}
