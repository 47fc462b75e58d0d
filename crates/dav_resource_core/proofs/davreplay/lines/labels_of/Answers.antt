use Rattle.std.proofs.Common.{◌≡◌, sym, ap, ◌∙◌, ℕ, Bool, true, false, List, inr, refl, Bor}
use Rattle.std.specs.List.{list_all, slice_split}
use Rattle.std.proofs.lemmas.List.Folds.{list_all-map}
use Rattle.dav_headers_core.specs.Optional.{when}
use Rattle.dav_headers_core.specs.CommaPieces.{is_comma}
use Rattle.dav_resource_core.specs.RequestLines.{is_dash, is_label, labels_word}
use Rattle.dav_resource_core.proofs.davreplay.lines.labels_of.Goals as goal

tested : (word : List ℕ) (labels : List (List ℕ)) (t : Bool) → is_dash word ≡ false → labels ≡ slice_split is_comma word → list_all is_label labels ≡ t → labels_word word ≡ when t labels
unfolding labels_word
tested word labels t some split e = rw (some, ← split, e) refl

pub returns-then-are_labels : goal.returns-then-are_labels
returns-then-are_labels c =
    let items = c.in_ok-labels.labels.items in
    tested c.args.word.now _ true (sym c.eq.ensures ∙ c.if-eq.false) c.in_ok-labels.ensures (list_all-map is_label (λ (l : Bor (List ℕ)). l.now) items ∙ sym (ap (list_all (λ (l : Bor (List ℕ)). is_label l.now)) c.deref.ensures.value) ∙ sym c.are_labels.ensures ∙ c.if-are_labels.true)

pub returns : goal.returns
returns c =
    let items = c.in_ok-labels.labels.items in
    inr (refl, tested c.args.word.now _ false (sym c.eq.ensures ∙ c.if-eq.false) c.in_ok-labels.ensures (list_all-map is_label (λ (l : Bor (List ℕ)). l.now) items ∙ sym (ap (list_all (λ (l : Bor (List ℕ)). is_label l.now)) c.deref.ensures.value) ∙ sym c.are_labels.ensures ∙ c.if-are_labels.false))
