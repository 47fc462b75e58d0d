-- Over a run of a server the moments along a path tell whether another file stands there.
use Rattle.std.proofs.Common.{◌≡◌, ◌⊎◌, inl, inr, ℕ, ◌<◌, ◌≤◌, refl, ◌∙◌, ap, subst, arith}
use Rattle.dav_path_core.specs.Fronts.{Path}
use Rattle.dav_path_core.proofs.lists.FinMaps.{one_some}
use Rattle.dav_files_core.specs.Resources.{IsResourceMap, Resource, at_path}
use Rattle.dav_handler_core.specs.KeptDocuments.{IsNew, KeepsElements}
use Rattle.dav_handler_core.specs.PathMoments.{DatesTellFiles, IsAlong, IsFileAt, MomentsTellFiles}
use Rattle.dav_handler_core.specs.Server.{Server}
use Rattle.dav_handler_core.specs.TagHistories.{Becomes, HasFile, HasNoFiles}
use Rattle.dav_handler_core.specs.TagHistories.Becomes.{itself, by_clock, by_answer, by_restart}
use Rattle.dav_handler_core.proofs.KeptStoreLaws.{begins_kept, run_keeps}
use Rattle.dav_handler_core.proofs.TagLaws.{Dates, answer_dates, begins, clock_dates, goes_on, new_stores, restart_dates}

-- each file of the later server stood at its path in the earlier one with its bytes, or a moment along the path is later
record FilesSince (s s' : Server) : Type 0 where
  moments : s.last ≤ s'.last
  files : (p : Path) (other : Resource) → IsFileAt s'.state.map p other
      → ((old : Resource) × IsFileAt s.state.map p old × (other.node.bytes ≡ old.node.bytes)) ⊎ ((n : ℕ) × (s.last < n) × IsAlong s'.state.map p n)

since_more : (s mid after : Server) → IsResourceMap mid.state.map → FilesSince s mid → Dates mid after → FilesSince s after
since_more s mid after shape x h = record {
  moments = omega (arith, x.moments, h.moments);
  files = λ p other here. elim (h.places shape p other here) [
    | inl stood ↦ elim (x.files p stood.0 stood.1) [
      | inl first ↦ inl (first.0, first.1, stood.2 ∙ first.2)
      | inr late ↦ inr (late.0, late.1, stood.3 late.0 late.2)
    ]
    | inr new ↦ inr (after.last, omega (arith, x.moments, new.0), new.1)
  ];
}

since : (s s' : Server) → KeepsElements s → Becomes s s' → FilesSince s s'
since s s' kept itself = record { moments = omega arith; files = λ p other here. inl (other, here, refl) }
since s s' kept (by_clock mid now h) = since_more s mid (record mid { clock = now }) (run_keeps s mid kept h).shape (since s mid kept h) (clock_dates mid now)
since s s' kept (by_answer mid after request response h answer) =
    since_more s mid after (run_keeps s mid kept h).shape (since s mid kept h) (answer_dates mid after request response answer)
since s s' kept (by_restart mid after h again) = since_more s mid after (run_keeps s mid kept h).shape (since s mid kept h) (restart_dates mid after again)

pub moments_tell : (begun s s' : Server) → IsNew begun → Becomes begun s → Becomes s s' → MomentsTellFiles s s'
moments_tell begun s s' new before run p file other here there = elim ((since s s' (run_keeps begun s (begins_kept begun new) before) run).files p other there) [
  | inl old ↦ inl (old.2 ∙ ap (λ (r : Resource). r.node.bytes) (one_some (at_path s.state.map p) old.0 file old.1.0 here.0))
  | inr late ↦ inr late
]

no_files : (s : Server) → IsNew s → HasNoFiles s.state.map
no_files s h file has = new_stores h.now file (subst (λ m. HasFile m file) h.map has)

pub dates_tell : (begun s s' : Server) → IsNew begun → Becomes begun s → Becomes s s' → DatesTellFiles s s'
dates_tell begun s s' new before run p file other date here there told none_later = elim (moments_tell begun s s' new before run p file other here there) [
  | inl same ↦ same
  | inr late ↦
      let last = (goes_on begun s (begins begun (no_files begun new)) before).none_later file (p, here.0, here.1) in
      absurd (omega (arith, late.1, last, told, none_later late.0 late.2))
]
