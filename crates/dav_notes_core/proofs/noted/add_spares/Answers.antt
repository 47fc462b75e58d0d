use Rattle.std.proofs.Common.{◌≡◌, inl, inr, length, arith, ap, ◌∙◌}
use Rattle.dav_notes_core.proofs.NotedLemmas.{copies_more, grown, no_more}
use Rattle.dav_notes_core.proofs.noted.add_spares.Goals as goal

pub loop-init : goal.loop-init
loop-init c =
    let many : c.len-counter.result ≡ length c.args.spares.now.items = omega (arith, c.len-counter.ensures, c.args.spares.now.ok.0) in
    record {
      copies = c.requires;
      many = omega (arith, many);
      most = inl many;
    }

pub returns-in_err-spare-clause-most : goal.returns-in_err-spare-clause-most
returns-in_err-spare-clause-most c = inr (omega (arith, c.loop.invariant.many, c.loop-test.true))

pub returns-in_err-push-clause-most : goal.returns-in_err-push-clause-most
returns-in_err-push-clause-most c = inr (omega (arith, c.loop.invariant.many, c.loop-test.true, ap length c.in_err-push.ensures.items))

pub returns-clause-most : goal.returns-clause-most
returns-clause-most c = no_more (length c.loop.spares.items) c.loop.counter (length c.args.spares.now.items) c.args.count c.loop.invariant.many c.loop.invariant.most

pub loop-preserved : goal.loop-preserved
loop-preserved c = record {
  copies = rw c.in_ok-push.ensures.items (copies_more c.args.who.now c.loop.spares.items c.in_ok-spare.spare c.loop.invariant.copies c.in_ok-spare.ensures);
  many = ap length c.in_ok-push.ensures.items ∙ grown c.loop.spares.items c.in_ok-spare.spare c.loop.counter c.loop.invariant.many;
  most = inr (omega (arith, c.loop-test.true));
}
