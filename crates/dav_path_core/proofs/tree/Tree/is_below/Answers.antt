use Rattle.std.proofs.Common.{◌≡◌, ◌<◌, ◌-◌, ◌+◌, ℕ, suc, ap, sym, ◌∙◌, arith}
use Rattle.dav_path_core.specs.Keyed.{meets, parent_number}
use Rattle.dav_path_core.proofs.trees.KeyedDepth.{meets-here, meets-up, meets-top, climb_start, climb_next, climb_ends}
use Rattle.dav_path_core.proofs.children.Links.{shape_of}
use Rattle.dav_path_core.proofs.tree.Tree.is_below.Goals as goal

one_left : (n m i : ℕ) → m ≡ n → i < m → n - i ≡ suc (n - (i + 1))
one_left n m i e h = omega (arith, e, h)

pub loop-turn-init : goal.loop-turn-init
loop-turn-init g c =
    let e : c.args.self.now.keyed.next ≡ c.args.self.now.keyed.next - 0 = omega arith in
    (ap (λ m. meets (parent_number c.args.self.now.keyed) m c.args.id c.args.from) e, climb_start g.K.PartialEq.eq c.args.self.now.keyed (shape_of c.self.invariant c.self.view_is).tree c.args.from c.requires)

pub returns-then-at-id : goal.returns-then-at-id
returns-then-at-id g c =
    let e = one_left c.args.self.now.keyed.next c.self.inside.next c.loop-turn._turn (ap (λ t. t.keyed.next) c.self.view_is) c.loop-turn-test.true in
    sym (c.loop-turn.invariant.0 ∙ ap (λ m. meets (parent_number c.args.self.now.keyed) m c.args.id c.loop-turn.at) e ∙ meets-here (parent_number c.args.self.now.keyed) _ c.args.id c.loop-turn.at c.if-at-id.true)

pub loop-turn-preserved : goal.loop-turn-preserved
loop-turn-preserved g c =
    let e = one_left c.args.self.now.keyed.next c.self.inside.next c.loop-turn._turn (ap (λ t. t.keyed.next) c.self.view_is) c.loop-turn-test.true in (
      c.loop-turn.invariant.0 ∙ ap (λ m. meets (parent_number c.args.self.now.keyed) m c.args.id c.loop-turn.at) e
          ∙ meets-up (parent_number c.args.self.now.keyed) _ c.args.id c.loop-turn.at c.in-Some.parent c.if-at-id.false (sym c.in-Some.ensures.parent),
      climb_next g.K.PartialEq.eq c.args.self.now.keyed (shape_of c.self.invariant c.self.view_is).tree c.loop-turn.at c.loop-turn._turn c.in-Some.parent c.loop-turn.invariant.1 (sym c.in-Some.ensures.parent),
    )

pub returns-in-None : goal.returns-in-None
returns-in-None g c =
    let e = one_left c.args.self.now.keyed.next c.self.inside.next c.loop-turn._turn (ap (λ t. t.keyed.next) c.self.view_is) c.loop-turn-test.true in
    sym (c.loop-turn.invariant.0 ∙ ap (λ m. meets (parent_number c.args.self.now.keyed) m c.args.id c.loop-turn.at) e
    ∙ meets-top (parent_number c.args.self.now.keyed) _ c.args.id c.loop-turn.at c.if-at-id.false (sym c.in-None.ensures.parent))

pub unreachable-requires : goal.unreachable-requires
unreachable-requires g c =
    let short = climb_ends g.K.PartialEq.eq c.args.self.now.keyed (shape_of c.self.invariant c.self.view_is).tree c.loop-turn.at c.loop-turn._turn c.loop-turn.invariant.1 in
    absurd (omega (arith, short, c.loop-turn-test.false, ap (λ t. t.keyed.next) c.self.view_is))
