-- A list of an `If` speaks of one path, and an `If` either holds or doesn't.
use Rattle.std.proofs.Common.{◌≡◌, inl, inr, Bool, true, false, List, [], ◌∷◌, Option, Some, None}
use Rattle.std.proofs.Common.{refl, sym, ap, ◌∙◌}
use Rattle.std.proofs.lemmas.Bool.{false≢true}
use Rattle.url.specs.Parts.{Parts}
use Rattle.dav_path_core.specs.Fronts.{Path}
use Rattle.dav_path_core.specs.PathText.{PathText}
use Rattle.dav_path_core.specs.Segments.{segments}
use Rattle.dav_headers_core.specs.IfValues.{Located}
use Rattle.dav_guarded_core.specs.Step.{State}
use Rattle.dav_fields_core.specs.TaggedLists.{Base, IsNamed, SpeaksOf, spread_tags}
use Rattle.dav_fields_core.proofs.OnePathLaws.{one_path}
use Rattle.dav_session_core.specs.Conditions.{IfIs, NoneHolds, OneHolds, conditions_hold}

one_named : (base : Base) (url : Parts) (p q : Path) → IsNamed base url p → IsNamed base url q
    → p ≡ q
one_named base url p q h k =
    h.at ∙ ap (λ (path : PathText). segments path.bytes)
    (one_path base.prefix url.path h.path k.path h.path_of k.path_of) ∙ sym k.at

pub one_spoken : (base : Base) (here : Path) (tag : Option Parts) (a b : Option Path)
    → SpeaksOf base here tag a → SpeaksOf base here tag b → a ≡ b
one_spoken base here None a b h k = h ∙ sym k
one_spoken base here (Some url) None None h k = refl
one_spoken base here (Some url) None (Some q) h k = absurd (h q k)
one_spoken base here (Some url) (Some p) None h k = absurd (k p h)
one_spoken base here (Some url) (Some p) (Some q) h k = ap Some (one_named base url p q h k)

not_both : (s : State) (base : Base) (here : Path) (lists : List Located)
    → OneHolds s base here lists → NoneHolds s base here lists → ⊥
not_both s base here [] h k = h
not_both s base here (l ∷ lists) (inl h) k =
    false≢true (sym k.0.2 ∙ ap (λ at. conditions_hold s at l.conditions)
    (one_spoken base here l.tag k.0.0 h.0 k.0.1 h.1) ∙ h.2)
not_both s base here (l ∷ lists) (inr h) k = not_both s base here lists h k.1

pub one_truth : (s : State) (base : Base) (here : Path) (lists : List Located)
    (holds also : Bool) → IfIs s base here lists holds → IfIs s base here lists also
    → holds ≡ also
one_truth s base here lists true true h k = refl
one_truth s base here lists true false h k =
    absurd (not_both s base here (spread_tags lists) h k)
one_truth s base here lists false true h k =
    absurd (not_both s base here (spread_tags lists) k h)
one_truth s base here lists false false h k = refl
