-- What is told of what stands at a path, by what questions about it tell.
use Rattle.std.proofs.Common.{◌≡◌, ℕ, true, List, [], ◌∷◌, map, Option, Some, None, Ok, refl, sym, ap, ◌∙◌, subst}
use Rattle.std.specs.Prelude.{ok_or, option_map}
use Rattle.std.specs.FinMap.{values}
use Rattle.dav_path_core.specs.Fronts.{Path}
use Rattle.dav_files_core.specs.Finding.{refusal_at}
use Rattle.dav_files_core.specs.Meta.{Meta, meta_at}
use Rattle.dav_files_core.specs.Outcomes.{◌>>=◌}
use Rattle.dav_files_core.specs.Properties.{get_props, shown_property}
use Rattle.dav_files_core.specs.Resources.{Property, Resource, ResourceMap, at_path}
use Rattle.dav_locks_core.specs.Lock.{Lock}
use Rattle.dav_locks_core.specs.Locks.{discovered_locks}
use Rattle.dav_guarded_core.specs.Step.{State}
use Rattle.dav_safe_methods_core.specs.PropertyAnswers.{Describes, IsDescribed}
use Rattle.dav_documents_core.specs.PropertyDocuments.{Description}

all_shown : (props : List Property) → map (shown_property true) props ≡ props
all_shown [] = refl
all_shown (p ∷ props) = ap (λ (rest : List Property). p ∷ rest) (all_shown props)

-- properties that are listed are those of the resource
props_of : (m : ResourceMap) (p : Path) (r : Resource) (props : List Property) → at_path m p ≡ Some r → get_props m p true ≡ Ok props → props ≡ values r.node.props
props_of m p r props here listed = by (at_path m p) here listed
  where
    by : (o : Option Resource) → o ≡ Some r → (ok_or o (refusal_at m p) >>= λ q. Ok (map (shown_property true) (values q.node.props))) ≡ Ok props → props ≡ values r.node.props
    by (Some q) same h =
        let one : q ≡ r = cc in
        let told : map (shown_property true) (values q.node.props) ≡ props = cc in
        sym told ∙ all_shown (values q.node.props) ∙ ap (λ (x : Resource). values x.node.props) one
    by None same h = absurd (cc)

-- what stands there, by what is known of it
found_as : (o : Option Resource) (known : Meta) → Some known ≡ option_map (λ (r : Resource). meta_at r.node) o → (r : Resource) × (o ≡ Some r) × (known ≡ meta_at r.node)
found_as (Some r) known h = let same : known ≡ meta_at r.node = cc in (r, refl, same)
found_as None known h = absurd (cc)

pub described_as : (prefix : List ℕ) (s : State) (p : Path) (known : Meta) (props : List Property) (locks : List Lock) (d : Description)
    → Some known ≡ option_map (λ (r : Resource). meta_at r.node) (at_path s.map p) → get_props s.map p true ≡ Ok props → locks ≡ discovered_locks s.locks p
    → IsDescribed prefix p known props locks d → Describes prefix s p d
described_as prefix s p known props locks d found listed covering described =
    let stands = found_as (at_path s.map p) known found in
    record {
      resource = stands.0;
      here = stands.1;
      described = subst (λ k. IsDescribed prefix p k (values stands.0.node.props) (discovered_locks s.locks p) d) stands.2
          (subst (λ ls. IsDescribed prefix p known (values stands.0.node.props) ls d) covering
          (subst (λ ps. IsDescribed prefix p known ps locks d) (props_of s.map p stands.0 props stands.1 listed) described));
    }
