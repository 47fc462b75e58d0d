-- The orders of segments and of paths tell apart what differs.
use Rattle.std.proofs.Common.{◌≡◌, ◌≢◌, true, false, refl, sym, ap, ◌∙◌}
use Rattle.std.specs.Ordering.{eq_by_cmp, is_eq}
use Rattle.std.specs.declared.cmp.Ordering.{Ordering}
use Rattle.std.specs.declared.cmp.Ordering.TheVariants.{Less, Equal, Greater}
use Rattle.std.specs.Cmp.{IsTotalOrder, nat_cmp_total, tied_itself}
use Rattle.std.specs.Cmp.Lexicographic.{lists_total}
use Rattle.std.specs.FinMap.{IsAntisymmetric, nat_cmp-IsAntisymmetric, slice_cmp-IsAntisymmetric}
use Rattle.std.proofs.lemmas.Bool.{true≢false}
use Rattle.dav_path_core.specs.Fronts.{segment_cmp, path_cmp}

pub segment_total : IsTotalOrder segment_cmp
segment_total = lists_total nat_cmp_total

pub path_total : IsTotalOrder path_cmp
path_total = lists_total segment_total

pub segment_exact : IsAntisymmetric segment_cmp
segment_exact = slice_cmp-IsAntisymmetric nat_cmp-IsAntisymmetric

pub path_exact : IsAntisymmetric path_cmp
path_exact = slice_cmp-IsAntisymmetric segment_exact

-- a test of equality by an order
pub eq_by_cmp_same : {K : Type 0} {R : K → K → Ordering} → IsTotalOrder R → (x : K) → eq_by_cmp R x x ≡ true
eq_by_cmp_same o x = ap is_eq (tied_itself o x)

pub eq_by_cmp_true : {K : Type 0} {R : K → K → Ordering} → IsAntisymmetric R → (x y : K) → eq_by_cmp R x y ≡ true → x ≡ y
eq_by_cmp_true {R = R} same x y h =
    elim (R x y) as (λ r. R x y ≡ r → is_eq r ≡ true → x ≡ y) [
      | Less ↦ λ e h. absurd (cc)
      | Equal ↦ λ e h. same x y e
      | Greater ↦ λ e h. absurd (cc)
    ] refl h

pub eq_by_cmp_false : {K : Type 0} {R : K → K → Ordering} → IsTotalOrder R → (x y : K) → eq_by_cmp R x y ≡ false → x ≢ y
eq_by_cmp_false {R = R} o x y h e = true≢false (sym (eq_by_cmp_same o x) ∙ ap (eq_by_cmp R x) e ∙ h)
