-- A walk below a node meets each number there once.
use Rattle.std.proofs.Common.{◌≡◌, ◌≢◌, ◌⊎◌, inl, inr, ℕ, zero, suc, ◌+◌, ◌<◌, ◌≤◌, Bool, List, [], ◌∷◌, length, Option, Some, None, MatchOption, if◌then◌else◌, refl, sym, ap, ◌∙◌, subst, arith, eqb}
use Rattle.std.specs.List.{IsDistinct}
use Rattle.std.specs.FinMap.{len}
use Rattle.std.specs.Option.{option_or}
use Rattle.std.proofs.lemmas.Bool.{cases_eq, eq-eqb, ne_eqb}
use Rattle.dav_path_core.specs.Keyed.{Under, here, below, LeadsToRoot, parent_number, IsKnown, IsIn}
use Rattle.dav_path_core.specs.TreeValue.{TreeValue, first, after, IsTreeValue}
use Rattle.dav_path_core.proofs.children.Chains.{in_here, in_later, in_cases, more_distinct, no_distinct}
use Rattle.dav_path_core.proofs.trees.Counting.{at_most_count, way_short}
use Rattle.dav_path_core.proofs.trees.Cutting.{Under-trans}
use Rattle.dav_path_core.proofs.trees.KeyedDepth.{depth, top as no_parent_above, one_up}
use Rattle.dav_path_core.proofs.trees.Trees.{none≢some, same_some, known_from_parent}
use Rattle.dav_path_core.proofs.children.Walks.{parent_known}
use Rattle.dav_path_core.specs.Walking.{right_behind, further, Later, beside, above, ToCome, WalkGoesOn, IsWalkOver, climbs, following}
use Rattle.dav_path_core.proofs.walks.AboveLemmas.{Under-up, Under-step, one_above, not_below_child}
use Rattle.dav_path_core.proofs.walks.SiblingLemmas.{first_is_child, child_from_first, no_first, follows_parent, Follows-next, Follows-none}

-- ---- where a walk goes on, by cases

module _ {K D : Type 0} (t : TreeValue K D) (top : ℕ) where
  module _ (m n : ℕ) where
    abbrev up_from : Option ℕ → Option ℕ
    up_from o = elim o [ None ↦ None | Some p ↦ climbs t top m p ]

    abbrev at_top : Bool → Option ℕ
    at_top b = if b then None else option_or (after t n) (up_from (parent_number t.keyed n))

    pub climbs-top : n ≡ top → climbs t top (suc m) n ≡ None
    climbs-top is = ap at_top (eq-eqb n top is)

    pub climbs-aside : (s : ℕ) → n ≢ top → after t n ≡ Some s → climbs t top (suc m) n ≡ Some s
    climbs-aside s ne e = ap at_top (ne_eqb n top ne) ∙ ap (λ o. option_or o (up_from (parent_number t.keyed n))) e

    pub climbs-up : (p : ℕ) → n ≢ top → after t n ≡ None → parent_number t.keyed n ≡ Some p → climbs t top (suc m) n ≡ climbs t top m p
    climbs-up p ne e f = ap at_top (ne_eqb n top ne) ∙ ap (λ o. option_or o (up_from (parent_number t.keyed n))) e ∙ ap up_from f

    pub climbs-out : n ≢ top → after t n ≡ None → parent_number t.keyed n ≡ None → climbs t top (suc m) n ≡ None
    climbs-out ne e f = ap at_top (ne_eqb n top ne) ∙ ap (λ o. option_or o (up_from (parent_number t.keyed n))) e ∙ ap up_from f

  pub following-down : (n c : ℕ) → first t n ≡ Some c → following t top n ≡ Some c
  following-down n c e = ap (λ o. option_or o (climbs t top (len t.keyed.nodes) n)) e

  pub following-up : (n : ℕ) → first t n ≡ None → following t top n ≡ climbs t top (len t.keyed.nodes) n
  following-up n e = ap (λ o. option_or o (climbs t top (len t.keyed.nodes) n)) e

-- ---- what a walk keeps

module _ {K D : Type 0} (t : TreeValue K D) (top : ℕ) where
  -- the walk has met all at and below `at`, which is n or above it
  pub record ClimbsTo (n at turn : ℕ) : Type 0 where
    pub under : Under (parent_number t.keyed) top at
    pub over : Under (parent_number t.keyed) at n
    pub known : IsKnown t.keyed at
    pub leads : LeadsToRoot (parent_number t.keyed) at
    pub short_yet : depth leads + turn < len t.keyed.nodes
    pub rest : (q : ℕ) → ToCome t top n q → (q ≡ n) ⊎ Later t top at q
    pub back : (q : ℕ) → Later t top at q → ToCome t top n q

  -- a walk that stands at n and has met those before
  pub record Met (met : List ℕ) (n : ℕ) : Type 0 where
    pub under : Under (parent_number t.keyed) top n
    pub known : IsKnown t.keyed n
    pub once : IsDistinct eqb met
    pub all_known : (q : ℕ) → IsIn q met → IsKnown t.keyed q
    pub gone_by : (q : ℕ) → IsIn q met → ToCome t top n q → ⊥
    pub so_far : (q : ℕ) → Under (parent_number t.keyed) top q → IsIn q met ⊎ ToCome t top n q

  -- the same after so many turns; P holds of what it has met
  pub record Walked (P : ℕ → Type 0) (n turn : ℕ) : Type 0 where
    pub under : Under (parent_number t.keyed) top n
    pub met : List ℕ
    pub stands : Met met n
    pub count : length met ≡ turn
    pub each : (q : ℕ) → IsIn q met → P q

module _ {K D : Type 0} {eq : K → K → Bool} (t : TreeValue K D) (shape : IsTreeValue eq t) (top : ℕ) where
  -- ---- what is to come and what stands at or below a number are apart

  cycle : (n p : ℕ) → parent_number t.keyed n ≡ Some p → Under (parent_number t.keyed) n p → ⊥
  cycle = not_below_child eq t.keyed shape.tree

  -- two children of one node have nothing below both
  apart : (n s p q : ℕ) → parent_number t.keyed n ≡ Some p → parent_number t.keyed s ≡ Some p → s ≢ n → Under (parent_number t.keyed) n q → Under (parent_number t.keyed) s q → ⊥
  apart n s p q np sp ne u v = elim (one_above u v) [
    | inl w ↦ cycle n p np (Under-up w (λ e. ne (sym e)) sp)
    | inr w ↦ cycle s p sp (Under-up w ne np)
  ]

  pub not_later : (n q : ℕ) → Under (parent_number t.keyed) top n → Under (parent_number t.keyed) n q → Later t top n q → ⊥
  not_later n q at u (beside {s = s} ne g v) =
      let w = Under-step at ne in
      let b = follows_parent eq t shape n s w.0 w.1 g in
      apart n s w.0 q w.1 b.0 b.1 u v
  not_later n q at u (above {p = p} ne e l) =
      let w = Under-step at ne in
      let same : w.0 ≡ p = same_some w.0 p (sym w.1 ∙ e) in
      not_later p q (subst (λ v. Under (parent_number t.keyed) top v) same w.2) (Under-trans (below e here) u) l

  -- ---- down to the first child

  module _ (n c : ℕ) (at : Under (parent_number t.keyed) top n) (known : IsKnown t.keyed n) (is_first : first t n ≡ Some c) where
    child : parent_number t.keyed c ≡ Some n
    child = first_is_child eq t shape n c known is_first

    -- no child of n is the top
    below_top : (s : ℕ) → parent_number t.keyed s ≡ Some n → s ≢ top
    below_top s e is = cycle s n e (subst (λ v. Under (parent_number t.keyed) v n) (sym is) at)

    -- below n stands n itself, or what is at or below a child
    rest_below : (q : ℕ) → Under (parent_number t.keyed) n q → (q ≡ n) ⊎ ToCome t top c q
    rest_below q here = inl refl
    rest_below q (below {p = p} e u) = elim (cases_eq p n) [
      | inl is ↦ elim (child_from_first eq t shape n c q is_first (e ∙ ap (λ (x : ℕ). Some x) is)) [
        | inl one ↦ inr (inl (subst (λ v. Under (parent_number t.keyed) v q) one here))
        | inr g ↦ inr (inr (beside (below_top c child) g here))
      ]
      | inr ne ↦ elim (rest_below p u) [
        | inl is ↦ absurd (ne is)
        | inr (inl v) ↦ inr (inl (below e v))
        | inr (inr l) ↦ inr (inr (Later-below p q e l))
      ]
    ]
      where
        Later-below : {m : ℕ} → (p q : ℕ) → parent_number t.keyed q ≡ Some p → Later t top m p → Later t top m q
        Later-below p q e (beside ne g v) = beside ne g (below e v)
        Later-below p q e (above ne f l) = above ne f (Later-below p q e l)

    back_up : (q : ℕ) → ToCome t top c q → ToCome t top n q
    back_up q (inl u) = inl (Under-trans (below child here) u)
    back_up q (inr (beside {s = s} ne g v)) = inl (Under-trans (below (follows_parent eq t shape c s n child g).0 here) v)
    back_up q (inr (above {p = p} ne e l)) = inr (subst (λ v. Later t top v q) (same_some p n (sym e ∙ child)) l)

    passed_parent : ToCome t top c n → ⊥
    passed_parent (inl u) = cycle c n child u
    passed_parent (inr (beside {s = s} ne g v)) = cycle s n (follows_parent eq t shape c s n child g).0 v
    passed_parent (inr (above {p = p} ne e l)) = not_later n n at here (subst (λ v. Later t top v n) (same_some p n (sym e ∙ child)) l)

    pub goes_down : WalkGoesOn t top n c
    goes_down = record {
      under = below child at;
      known = known_from_parent t.keyed c n child;
      rest = λ q w. elim w [ inl u ↦ rest_below q u | inr l ↦ inr (inr (above (below_top c child) child l)) ];
      back = back_up;
      passed = passed_parent;
    }

  -- ---- up to a sibling

  pub climb_from : (n : ℕ) → Under (parent_number t.keyed) top n → IsKnown t.keyed n → first t n ≡ None → ClimbsTo t top n n 0
  climb_from n at known leaf =
      let l = shape.tree.attached n known in
      record {
        under = at;
        over = here;
        known = known;
        leads = l;
        short_yet = omega (arith, way_short eq t.keyed shape.tree n l);
        rest = λ q w. elim w [ inl u ↦ inl (alone q u) | inr l ↦ inr l ];
        back = λ q l. inr l;
      }
    where
      alone : (q : ℕ) → Under (parent_number t.keyed) n q → q ≡ n
      alone q here = refl
      alone q (below {p = p} e u) = let is = alone p u in absurd (no_first eq t shape n q leaf (e ∙ ap (λ (x : ℕ). Some x) is))

  module _ (n at turn : ℕ) (c : ClimbsTo t top n at turn) where
    pub climb_over : at ≡ top → IsWalkOver t top n
    climb_over is q w = elim (c.rest q w) [
      | inl e ↦ e
      | inr (beside ne g v) ↦ absurd (ne is)
      | inr (above ne e l) ↦ absurd (ne is)
    ]

    pub climb_fits : turn < len t.keyed.nodes
    climb_fits = omega (arith, c.short_yet)

    module _ (ne : at ≢ top) where
      up_one : (p : ℕ) × (parent_number t.keyed at ≡ Some p) × Under (parent_number t.keyed) top p
      up_one = Under-step c.under ne

      pub climb_up : (p : ℕ) → after t at ≡ None → parent_number t.keyed at ≡ Some p → ClimbsTo t top n p (turn + 1)
      climb_up p last e =
          let same : up_one.0 ≡ p = same_some up_one.0 p (sym up_one.1 ∙ e) in
          let r = one_up (parent_number t.keyed) (no_parent_above eq t.keyed shape.tree) c.leads e in
          record {
            under = subst (λ v. Under (parent_number t.keyed) top v) same up_one.2;
            over = Under-trans (below e here) c.over;
            known = parent_known eq t.keyed shape.tree at p e;
            leads = r.0;
            short_yet = omega (arith, r.1, c.short_yet);
            rest = λ q w. elim (c.rest q w) [
              | inl i ↦ inl i
              | inr (beside {s = s} apart_yet g v) ↦ absurd (Follows-none eq t shape at s last g)
              | inr (above {p = r} apart_yet f l) ↦ inr (subst (λ v. Later t top v q) (same_some r p (sym f ∙ e)) l)
            ];
            back = λ q l. c.back q (above ne e l);
          }

      module _ (s : ℕ) (next : after t at ≡ Some s) where
        beside_at : (parent_number t.keyed s ≡ Some up_one.0) × (s ≢ at)
        beside_at = follows_parent eq t shape at s up_one.0 up_one.1 (right_behind next)

        not_top : s ≢ top
        not_top is = cycle s up_one.0 beside_at.0 (subst (λ v. Under (parent_number t.keyed) v up_one.0) (sym is) up_one.2)

        later_next : (q : ℕ) → Later t top at q → ToCome t top s q
        later_next q (beside {s = r} apart_yet g v) = elim (Follows-next eq t shape at s r next g) [
          | inl is ↦ inl (subst (λ w. Under (parent_number t.keyed) w q) is v)
          | inr more ↦ inr (beside not_top more v)
        ]
        later_next q (above {p = p} apart_yet e l) = inr (above not_top (beside_at.0 ∙ sym up_one.1 ∙ e) l)

        next_later : (q : ℕ) → ToCome t top s q → Later t top at q
        next_later q (inl u) = beside ne (right_behind next) u
        next_later q (inr (beside apart_yet g v)) = beside ne (further next g) v
        next_later q (inr (above {p = p} apart_yet e l)) = above ne (up_one.1 ∙ sym beside_at.0 ∙ e) l

        pub goes_aside : WalkGoesOn t top n s
        goes_aside = record {
          under = below beside_at.0 up_one.2;
          known = known_from_parent t.keyed s up_one.0 beside_at.0;
          rest = λ q w. elim (c.rest q w) [ inl i ↦ inl i | inr l ↦ inr (later_next q l) ];
          back = λ q w. c.back q (next_later q w);
          passed = λ w. not_later at n c.under c.over (next_later n w);
        }

  -- ---- what is found

  abbrev pub Finds : ℕ → Option ℕ → Type 0
  Finds n o = MatchOption o (IsWalkOver t top n) (λ m. WalkGoesOn t top n m)

  climbs-found : (m n at turn : ℕ) → ClimbsTo t top n at turn → m + turn ≡ len t.keyed.nodes → Finds n (climbs t top m at)
  climbs-found zero n at turn c fuel = absurd (omega (arith, climb_fits n at turn c, fuel))
  climbs-found (suc m) n at turn c fuel = elim (cases_eq at top) [
    | inl is ↦ subst (Finds n) (sym (climbs-top t top m at is)) (climb_over n at turn c is)
    | inr ne ↦ elim (after t at) as (λ o. after t at ≡ o → Finds n (climbs t top (suc m) at)) [
      | Some s ↦ λ e. subst (Finds n) (sym (climbs-aside t top m at s ne e)) (goes_aside n at turn c ne s e)
      | None ↦ λ e.
          let p = up_one n at turn c ne in
          subst (Finds n) (sym (climbs-up t top m at p.0 ne e p.1)) (climbs-found m n p.0 (turn + 1) (climb_up n at turn c ne p.0 e p.1) (omega (arith, fuel)))
    ] refl
  ]

  pub following-found : (n : ℕ) → Under (parent_number t.keyed) top n → IsKnown t.keyed n → Finds n (following t top n)
  following-found n at known =
      elim (first t n) as (λ o. first t n ≡ o → Finds n (following t top n)) [
        | Some c ↦ λ e. subst (Finds n) (sym (following-down t top n c e)) (goes_down n c at known e)
        | None ↦ λ e. subst (Finds n) (sym (following-up t top n e)) (climbs-found (len t.keyed.nodes) n n 0 (climb_from n at known e) (omega arith))
      ] refl

  -- ---- the walk as a whole

  pub met_none : IsKnown t.keyed top → Met t top [] top
  met_none known = record {
    under = here;
    known = known;
    once = no_distinct;
    all_known = λ q i. absurd (nothing q i);
    gone_by = λ q i. absurd (nothing q i);
    so_far = λ q u. inr (inl u);
  }
    where
      nothing : (q : ℕ) → IsIn q [] → ⊥
      nothing q i = cc

  module _ (met : List ℕ) (n : ℕ) (w : Met t top met n) where
    pub met_once : IsDistinct eqb (n ∷ met)
    met_once = more_distinct n met (λ i. w.gone_by n i (inl here)) w.once

    pub met_known : (q : ℕ) → IsIn q (n ∷ met) → IsKnown t.keyed q
    met_known q i = elim (in_cases q n met i) [ inl is ↦ subst (IsKnown t.keyed) (sym is) w.known | inr later ↦ w.all_known q later ]

    pub met_few : length (n ∷ met) ≤ len t.keyed.nodes
    met_few = at_most_count t.keyed (n ∷ met) met_once met_known

    pub met_on : (m : ℕ) → WalkGoesOn t top n m → Met t top (n ∷ met) m
    met_on m g = record {
      under = g.under;
      known = g.known;
      once = met_once;
      all_known = met_known;
      gone_by = λ q i c. elim (in_cases q n met i) [
        | inl is ↦ g.passed (subst (λ v. ToCome t top m v) is c)
        | inr later ↦ w.gone_by q later (g.back q c)
      ];
      so_far = λ q u. elim (w.so_far q u) [
        | inl before ↦ inl (in_later q n met before)
        | inr c ↦ elim (g.rest q c) [ inl same ↦ inl (subst (λ v. IsIn v (n ∷ met)) (sym same) (in_here n met)) | inr more ↦ inr more ]
      ];
    }

    pub met_all : IsWalkOver t top n → (q : ℕ) → Under (parent_number t.keyed) top q → IsIn q (n ∷ met)
    met_all over q u = elim (w.so_far q u) [
      | inl before ↦ in_later q n met before
      | inr c ↦ subst (λ v. IsIn v (n ∷ met)) (sym (over q c)) (in_here n met)
    ]

    -- what is above n has been met
    pub parent_met : (p : ℕ) → n ≢ top → parent_number t.keyed n ≡ Some p → IsIn p met
    parent_met p ne e = elim (w.so_far p (Under-up w.under (λ i. ne (sym i)) e)) [
      | inl before ↦ before
      | inr (inl u) ↦ absurd (cycle n p e u)
      | inr (inr (beside {s = s} apart_yet g v)) ↦ absurd (cycle s p (follows_parent eq t shape n s p e g).0 v)
      | inr (inr (above {p = r} apart_yet f l)) ↦
          absurd (not_later p p (Under-up w.under (λ i. ne (sym i)) e) here (subst (λ v. Later t top v p) (same_some r p (sym f ∙ e)) l))
    ]

  module _ (P : ℕ → Type 0) where
    pub walk_from : IsKnown t.keyed top → Walked t top P top 0
    walk_from known = record { under = here; met = []; stands = met_none known; count = refl; each = λ q i. cc }

    module _ (n turn : ℕ) (w : Walked t top P n turn) where
      pub walk_fits : turn < len t.keyed.nodes
      walk_fits = omega (arith, met_few w.met n w.stands, w.count)

      -- it holds of n
      module _ (is : P n) where
        each_yet : (q : ℕ) → IsIn q (n ∷ w.met) → P q
        each_yet q i = elim (in_cases q n w.met i) [ inl same ↦ subst P (sym same) is | inr later ↦ w.each q later ]

        pub walk_on : (m : ℕ) → WalkGoesOn t top n m → Walked t top P m (turn + 1)
        walk_on m g = record { under = g.under; met = n ∷ w.met; stands = met_on w.met n w.stands m g; count = omega (arith, w.count); each = each_yet }

        pub walk_over : IsWalkOver t top n → (q : ℕ) → Under (parent_number t.keyed) top q → P q
        walk_over over q u = each_yet q (met_all w.met n w.stands over q u)

  -- what follows from it holds too
  pub walk_weaker : (P Q : ℕ → Type 0) → ((q : ℕ) → P q → Q q) → (n turn : ℕ) → Walked t top P n turn → Walked t top Q n turn
  walk_weaker P Q weaker n turn w = record { under = w.under; met = w.met; stands = w.stands; count = w.count; each = λ q i. weaker q (w.each q i) }
