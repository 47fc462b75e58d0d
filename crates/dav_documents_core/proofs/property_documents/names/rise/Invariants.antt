use Rattle.std.proofs.Common.{◌≡◌}
use Rattle.std.specs.declared.cmp.Ordering.TheVariants.{Less}
use Rattle.std.specs.List.{AllAdjacentBelow}
use Rattle.dav_documents_core.specs.Private.Rising.{order, property_key}
use Rattle.dav_documents_core.proofs.property_documents.names.rise.Given as goal

-- those so far rise
abbrev pub invariant-loop-place : goal.invariant-loop-place
invariant-loop-place l = AllAdjacentBelow (λ p q. order p (property_key q) ≡ Less) l.props l.place
