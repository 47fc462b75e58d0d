use Rattle.std.proofs.Common.{◌≡◌, ◌<◌, ◌-◌, ◌+◌, ℕ, suc, ap, sym, ◌∙◌, arith}
use Rattle.std.specs.FinMap.{len}
use Rattle.dav_path_core.specs.Walking.{climbs}
use Rattle.dav_path_core.proofs.walks.WalkLemmas.{climbs-top, climbs-aside, climbs-up, climbs-out}
use Rattle.dav_path_core.proofs.tree.Tree.next_beside.Goals as goal

one_left : (n m i : ℕ) → m ≡ n → i < m → n - i ≡ suc (n - (i + 1))
one_left n m i e h = omega (arith, e, h)

pub loop-turn-init : goal.loop-turn-init
loop-turn-init g c =
    let t = c.args.self.now in
    let e : len t.keyed.nodes ≡ len t.keyed.nodes - 0 = omega arith in
    ap (λ m. climbs t c.args.top m c.args.id) e

pub returns-then-at-top : goal.returns-then-at-top
returns-then-at-top g c =
    let t = c.args.self.now in
    let e = one_left (len t.keyed.nodes) c.node_count-turn-end.result c.loop-turn._turn c.node_count-turn-end.ensures.count c.loop-turn-test.true in
    sym (c.loop-turn.invariant ∙ ap (λ m. climbs t c.args.top m c.loop-turn.at) e ∙ climbs-top t c.args.top _ c.loop-turn.at c.if-at-top.true)

pub returns-in-Some : goal.returns-in-Some
returns-in-Some g c =
    let t = c.args.self.now in
    let e = one_left (len t.keyed.nodes) c.node_count-turn-end.result c.loop-turn._turn c.node_count-turn-end.ensures.count c.loop-turn-test.true in
    sym (c.loop-turn.invariant ∙ ap (λ m. climbs t c.args.top m c.loop-turn.at) e
    ∙ climbs-aside t c.args.top _ c.loop-turn.at c.in-Some.sibling c.if-at-top.false (sym c.after.ensures ∙ c.in-Some.is))

pub returns-in_err-at : goal.returns-in_err-at
returns-in_err-at g c =
    let t = c.args.self.now in
    let e = one_left (len t.keyed.nodes) c.node_count-turn-end.result c.loop-turn._turn c.node_count-turn-end.ensures.count c.loop-turn-test.true in
    c.from_residual.ensures
    ∙ sym (c.loop-turn.invariant ∙ ap (λ m. climbs t c.args.top m c.loop-turn.at) e
    ∙ climbs-out t c.args.top _ c.loop-turn.at c.if-at-top.false (sym c.after.ensures ∙ c.in_default.is) (sym c.in_err-at.ensures.parent))

pub loop-turn-preserved : goal.loop-turn-preserved
loop-turn-preserved g c =
    let t = c.args.self.now in
    let e = one_left (len t.keyed.nodes) c.node_count-turn-end.result c.loop-turn._turn c.node_count-turn-end.ensures.count c.loop-turn-test.true in
    c.loop-turn.invariant ∙ ap (λ m. climbs t c.args.top m c.loop-turn.at) e
    ∙ climbs-up t c.args.top _ c.loop-turn.at c.in_ok-at.at c.if-at-top.false (sym c.after.ensures ∙ c.in_default.is) (sym c.in_ok-at.ensures.parent)

pub returns : goal.returns
returns g c =
    let t = c.args.self.now in
    let e : len t.keyed.nodes - c.loop-turn._turn ≡ 0 = omega (arith, c.node_count-turn-end.ensures.count, c.loop-turn-test.false) in
    sym (c.loop-turn.invariant ∙ ap (λ m. climbs t c.args.top m c.loop-turn.at) e)
