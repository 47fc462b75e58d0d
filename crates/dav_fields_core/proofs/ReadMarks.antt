-- What is known of the entry at a path, and what a reading tells of it.
use Rattle.std.proofs.Common.{◌≡◌, ℕ, List, [], ◌∷◌, length, take, drop, Option, Some, None, Result, Ok, Err, refl, sym, ◌∙◌, ap, arith}
use Rattle.std.specs.Prelude.{option_map, OnOk}
use Rattle.std.proofs.lemmas.List.{take_all}
use Rattle.dav_path_core.specs.Fronts.{Path}
use Rattle.dav_path_core.proofs.lists.FinMaps.{one_some}
use Rattle.dav_files_core.specs.declared.memfs.Kind.TheVariants.{File}
use Rattle.dav_files_core.specs.Meta.{Meta, meta_at}
use Rattle.dav_files_core.specs.Resources.{Resource, ResourceMap, at_path}
use Rattle.dav_fields_core.specs.Marking.{IsRead}

-- ---- what is known of the entry there

abbrev pub IsKnown : ResourceMap → Path → Meta → Type 0
IsKnown m p known = Some known ≡ option_map (λ (r : Resource). meta_at r.node) (at_path m p)

known_as : (o : Option Resource) (known : Meta) → Some known ≡ option_map (λ r. meta_at r.node) o → (r : Resource) × (o ≡ Some r) × (known ≡ meta_at r.node)
known_as (Some r) known h = let same : known ≡ meta_at r.node = cc in (r, refl, same)
known_as None known h = absurd (cc)

pub known_entry : (m : ResourceMap) (p : Path) (known : Meta) → IsKnown m p known → (r : Resource) × (at_path m p ≡ Some r) × (known ≡ meta_at r.node)
known_entry m p known h = known_as (at_path m p) known h

-- ---- bytes

pub read_of : (r : Resource) (map other : ResourceMap) (p : Path) (at count : ℕ) (bytes : List ℕ) → other ≡ map → IsRead other p at count bytes → at_path map p ≡ Some r
    → bytes ≡ take count (drop at r.node.bytes)
read_of r map other p at count bytes same h here =
    let there : at_path map p ≡ Some h.0 = sym (ap (λ m. at_path m p) same) ∙ h.1 in
    h.3 ∙ ap (λ (x : Resource). take count (drop at x.node.bytes)) (one_some (at_path map p) h.0 r there here)

pub whole_read : (r : Resource) (known : Meta) (map other : ResourceMap) (p : Path) (bytes : List ℕ) → other ≡ map → at_path map p ≡ Some r → known ≡ meta_at r.node
    → (known.kind ≡ File → IsRead other p 0 known.length bytes) → r.node.kind ≡ File → bytes ≡ r.node.bytes
whole_read r known map other p bytes same here is h file =
    let kind : known.kind ≡ File = ap (λ (k : Meta). k.kind) is ∙ file in
    let long : length r.node.bytes ≡ known.length = sym (ap (λ (k : Meta). k.length) is) in
    read_of r map other p 0 known.length bytes same (h kind) here ∙ take_all known.length r.node.bytes (omega (arith, long))

pub on_ok : {A E : Type 0} (result : Result A E) (P Q : Type 0) → (P → Q) → OnOk result P → OnOk result Q
on_ok (Ok x) P Q f h = f h
on_ok (Err e) P Q f h = tt
