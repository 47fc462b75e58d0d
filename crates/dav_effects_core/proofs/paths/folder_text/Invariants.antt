use Rattle.std.proofs.Common.{◌≡◌, ◌++◌, ◌∷◌, []}
use Rattle.std.specs.List.{flat_map}
use Rattle.dav_path_core.specs.Segments.{segments}
use Rattle.dav_path_core.specs.PathText.{folder_bytes}
use Rattle.dav_effects_core.proofs.paths.folder_text.Given as goal

-- what is written, with what is left behind it, is the whole
abbrev pub invariant-adding : goal.invariant-adding
invariant-adding l = l.text.items ++ flat_map (λ s. s ++ 47 ∷ []) (segments l.segment-iterator) ≡ folder_bytes (segments l.path.bytes)
