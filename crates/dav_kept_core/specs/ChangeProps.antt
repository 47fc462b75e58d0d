-- That notes are of changes is a proposition.
use Rattle.std.specs.Prelude.{◌≡◌, List, false}
use Rattle.std.specs.List.{AllByRecursion-prop}
use Rattle.std.proofs.Math.Bool.{Bool-set}
use Rattle.dav_notes_core.specs.Changes.{is_look}
use Rattle.dav_notes_core.specs.Noting.{AreChanges, Noted}

pub changes_prop : (notes : List Noted) → IsProp (AreChanges notes)
changes_prop notes = AllByRecursion-prop (λ (n : Noted). is_look n.request.command ≡ false) (λ n. Bool-set (is_look n.request.command) false) notes
