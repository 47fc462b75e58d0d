-- Worked rows of files whose tags don't tell their bytes.
use Rattle.std.proofs.Common.{◌≡◌, refl, ap, sym, subst, ◌∙◌, ℕ, List, [], ◌∷◌, length, arith}
use Rattle.std.specs.Prelude.{codes}
use Rattle.std.specs.FinMap.{empty, insert}
use Rattle.dav_path_core.specs.Fronts.{Path}
use Rattle.dav_path_core.proofs.lists.FinMaps.{get_same, get_other}
use Rattle.dav_path_core.proofs.lists.Orders.{path_total, path_exact}
use Rattle.dav_files_core.specs.Outcomes.{new_file}
use Rattle.dav_files_core.specs.Resources.{Resource, ResourceMap}
use Rattle.dav_handler_core.specs.Server.{Server}
use Rattle.dav_fields_core.specs.FileTags.{tag_of}
use Rattle.dav_handler_core.specs.TagHistories.{HasFile, HasNoFiles, MomentsTell}

-- /a
abbrev p : Path
p = codes "a" ∷ []

-- /folder/b
abbrev q : Path
q = codes "folder" ∷ codes "b" ∷ []

abbrev a : Resource
a = record { number = 2; node = new_file (1 ∷ []) 5 }

abbrev b : Resource
b = record { number = 3; node = new_file (2 ∷ []) 5 }

-- both files, of one moment and of one length
abbrev both : ResourceMap
both = record { entries = insert (insert empty p a) q b; next = 4 }

a_there : HasFile both a
a_there = (
  p,
  get_other path_total path_exact (insert empty p a) q b p (λ same. absurd (omega (arith, ap (λ (x : Path). length x) same)))
      ∙ get_same path_total path_exact empty p a,
  refl,
)

b_there : HasFile both b
b_there = (q, get_same path_total path_exact (insert empty p a) q b, refl)

not_empty : HasNoFiles both → ⊥
not_empty none = none a a_there

-- they have one tag
one_tag : tag_of a ≡ tag_of b
one_tag = refl

-- so no server has both
one_moment : (s : Server) → s.state.map ≡ both → MomentsTell s → ⊥
one_moment s is tell =
    let same : ◌≡◌ {A = List ℕ} (1 ∷ []) (2 ∷ []) = tell.same_bytes a b (subst (λ m. HasFile m a) (sym is) a_there) (subst (λ m. HasFile m b) (sym is) b_there) refl in
    absurd (cc)

-- nor has a server of moment 4 one of them
too_late : (s : Server) → s.state.map ≡ both → s.last ≡ 4 → MomentsTell s → ⊥
too_late s is last tell = absurd (omega (arith, tell.none_later a (subst (λ m. HasFile m a) (sym is) a_there), last))
