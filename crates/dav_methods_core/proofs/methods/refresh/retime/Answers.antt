use Rattle.std.proofs.Common.{◌<◌, get_or, length, sym, ap, ◌∙◌, arith}
use Rattle.std.specs.Prelude.{bytes_eq}
use Rattle.dav_locks_core.specs.Lock.{Lock}
use Rattle.dav_methods_core.specs.RefreshMethod.{told_with}
use Rattle.dav_session_core.proofs.RefreshLemmas.{replaced_more}
use Rattle.dav_methods_core.proofs.RefreshMethodLemmas.{told_one, told_other}
use Rattle.dav_methods_core.proofs.methods.refresh.retime.Goals as goal
use Rattle.dav_methods_core.proofs.methods.refresh.retime.Goals.{then-eq, else-eq}

pub loop-lock-preserved : goal.loop-lock-preserved
loop-lock-preserved c =
    let token = c.args.token.now in
    let timeout = c.args.timeout in
    let now = c.args.now.0 in
    let locks = c.loop-lock.lock-items in
    let i = c.loop-lock.lock-index in
    let within : i < length locks = omega arith in
    let same = c.lock.view_is ∙ sym c.lock-item.is in
    let tested = ap (λ t. bytes_eq t token) (sym c.as_str.ensures.value) ∙ sym c.eq.ensures in
    elim c.if-eq.branch [
      | then-eq w ↦
          rw w.lock-items-is (replaced_more (told_with now token timeout) locks i c.lock-item.result _ within c.lock-item.is
          (w.give_end.ensures ∙ told_one now token timeout (get_or locks i c.lock-item.result) c.lock-item.result (sym c.lock-item.is)
          (ap (λ (l : Lock). bytes_eq l.token token) (sym c.lock.view_is) ∙ tested ∙ w.if-eq.true)) ∙ c.loop-lock.invariant)
      | else-eq w ↦
          rw w.lock-items-is (replaced_more (told_with now token timeout) locks i c.lock-item.result _ within c.lock-item.is
          (sym c.lock.view_is ∙ told_other now token timeout _ c.lock-item.result same (tested ∙ w.if-eq.false)) ∙ c.loop-lock.invariant)
    ]
